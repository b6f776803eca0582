use Rattle.aig_base.proofs.Words.{◌≡◌, ◌==◌, ◌||◌, ◌-◌, true, false, length, take, sym, ap, ◌∙◌, arith}
use Rattle.std.specs.List.{list_any}
use Rattle.aig_command_line.specs.Counts.{has_zero, telling}
use Rattle.aig_command_line.proofs.Counting.{zero_append}
use Rattle.aig_command_line.proofs.tally.Tally.zero_with.Goals as goal

pub returns-then-self : goal.returns-then-self
returns-then-self c = λ came counts.
    let there : has_zero came ≡ true = sym counts.zero ∙ c.if-self.true in
    let piece = c.args.piece.now in
    c.if-self.true
    ∙ sym (zero_append came piece
    ∙ ap (λ z. z || list_any (λ b. b == 0) (take (telling - length came) piece)) there)

pub returns-else-self : goal.returns-else-self
returns-else-self c = λ came counts.
    let before : has_zero came ≡ false = sym counts.zero ∙ c.if-self.false in
    let piece = c.args.piece.now in
    let left : c.saturating_sub-left.result ≡ telling - length came =
    omega (arith, c.saturating_sub-left.ensures, counts.bytes) in
    c.has_zero.ensures ∙ ap (λ n. list_any (λ b. b == 0) (take n piece)) left
    ∙ sym (zero_append came piece
    ∙ ap (λ z. z || list_any (λ b. b == 0) (take (telling - length came) piece)) before)
