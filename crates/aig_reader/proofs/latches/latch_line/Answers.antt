use Rattle.aig_base.proofs.Words.{◌≡◌, ◌&&◌, ◌++◌, ℕ, Bool, false, List, Option, map, refl, err_from_is_err_and}
use Rattle.aig_format.specs.declared.FileKind.{FileKind}
use Rattle.aig_format.proofs.Words.{LatchLine}
use Rattle.aig_format.specs.Fits.{is_literal}
use Rattle.aig_format.specs.Parse.{latch_line_from, parse_next_and_reset}
use Rattle.aig_format.specs.ParseTested.{may_define}
use Rattle.aig_reader.specs.declared.latches.Resets.{Resets}
use Rattle.aig_reader.specs.Rules.{allows}
use Rattle.aig_lexer.specs.Takes.{feed}
use Rattle.aig_lexer.specs.Faults.{line_cause}
use Rattle.aig_lexer.proofs.Faults.{tells-sound}
use Rattle.aig_reader.proofs.OwnLines.{misses_line, misses_own, misses_rest, takes_line}
use Rattle.aig_reader.proofs.TestedLines.{line-from_word}
use Rattle.aig_reader.proofs.latches.latch_line.Goals as goal

-- the literals before the line
abbrev literals_after : List ℕ → List LatchLine → List ℕ
literals_after inputs before = inputs ++ map (λ l. l.literal) before

abbrev rest : ℕ → List ℕ → Option ((ℕ × Option ℕ) × List ℕ)
rest literal = parse_next_and_reset

abbrev line_of : ℕ × (ℕ × Option ℕ) → LatchLine
line_of x = latch_line_from x.0 x.1

abbrev tests : Resets → FileKind → ℕ → List ℕ → LatchLine → Bool
tests resets kind greatest literals l =
    may_define kind greatest literals l.literal &&
    (is_literal greatest l.next && allows resets greatest l)

pub returns-in_err-literal : goal.returns-in_err-literal
returns-in_err-literal g c = λ kind inputs before h.
    let p = err_from_is_err_and c.from_residual.result c.from_residual.ensures.1 in
    let literals = literals_after inputs before in
    rw (p.1, p.2) (line-from_word c.in_err-literal.field-0.0 _ _ _
    (misses_own kind 32 literals rest line_of
    (tests c.args.resets kind c.args.greatest literals)
    (feed g.R.Source.left g.R.Source.failed g.R.Source.pulls c.args.buffer.now c.args.r.now))
    (c.in_err-literal.ensures.exact kind c.args.greatest literals h))

pub returns-in_err-next : goal.returns-in_err-next
returns-in_err-next g c = λ kind inputs before h.
    let p = err_from_is_err_and c.from_residual-in_err-next.result c.from_residual-in_err-next.ensures.1 in
    let literals = literals_after inputs before in
    let own = c.in_ok-literal.ensures.exact kind c.args.greatest literals h in
    rw (p.1, p.2) (line-from_word c.in_err-next.field-0.0 _ _ _
    (misses_rest kind 32 literals rest line_of
    (tests c.args.resets kind c.args.greatest literals) _ _ c.in_ok-literal.literal own)
    c.in_err-next.ensures)

pub returns-in_err-input : goal.returns-in_err-input
returns-in_err-input g c = λ kind inputs before h.
    let p = err_from_is_err_and c.from_residual-in_err-input.result c.from_residual-in_err-input.ensures.1 in
    let literals = literals_after inputs before in
    let own = c.in_ok-literal.ensures.exact kind c.args.greatest literals h in
    rw (p.1, p.2) (tells-sound (line_cause c.in_err-input.field-0.0) _ _ _
    (λ (no : may_define kind c.args.greatest literals c.in_ok-literal.literal ≡ false).
    misses_line kind 32 literals rest line_of (tests c.args.resets kind c.args.greatest literals) _
    _ c.in_ok-literal.literal own _ (c.in_ok-next.next, c.in_ok-next.reset) c.in_ok-next.ensures
    (rw no refl))
    (c.in_err-input.ensures kind c.args.greatest literals h))

pub returns-in_err-next-2 : goal.returns-in_err-next-2
returns-in_err-next-2 g c = λ kind inputs before h.
    let p = err_from_is_err_and c.from_residual-in_err-next-2.result c.from_residual-in_err-next-2.ensures.1 in
    let literals = literals_after inputs before in
    let own = c.in_ok-literal.ensures.exact kind c.args.greatest literals h in
    let first = (c.in_ok-input.ensures kind c.args.greatest literals h).0 in
    rw (p.1, p.2) (tells-sound (line_cause c.in_err-next-2.field-0.0) _ _ _
    (λ (no : is_literal c.args.greatest c.in_ok-next.next ≡ false).
    misses_line kind 32 literals rest line_of (tests c.args.resets kind c.args.greatest literals) _
    _ c.in_ok-literal.literal own _ (c.in_ok-next.next, c.in_ok-next.reset) c.in_ok-next.ensures
    (rw (first, no) refl))
    c.in_err-next-2.ensures)

pub returns-in_err-init : goal.returns-in_err-init
returns-in_err-init g c = λ kind inputs before h.
    let p = err_from_is_err_and c.from_residual-in_err-init.result c.from_residual-in_err-init.ensures.1 in
    let literals = literals_after inputs before in
    let own = c.in_ok-literal.ensures.exact kind c.args.greatest literals h in
    let first = (c.in_ok-input.ensures kind c.args.greatest literals h).0 in
    let second = c.in_ok-next-2.ensures.0 in
    rw (p.1, p.2) (tells-sound (line_cause c.in_err-init.field-0.0) _ _ _
    (λ (no : allows c.args.resets c.args.greatest
    (latch_line_from c.in_ok-literal.literal (c.in_ok-next.next, c.in_ok-next.reset)) ≡ false).
    misses_line kind 32 literals rest line_of (tests c.args.resets kind c.args.greatest literals) _
    _ c.in_ok-literal.literal own _ (c.in_ok-next.next, c.in_ok-next.reset) c.in_ok-next.ensures
    (rw (first, second, no) refl))
    (c.in_err-init.ensures c.in_ok-next.next))

pub returns : goal.returns
returns g c = λ kind inputs before h.
    let literals = literals_after inputs before in
    let own = c.in_ok-literal.ensures.exact kind c.args.greatest literals h in
    let first = c.in_ok-input.ensures kind c.args.greatest literals h in
    let second = c.in_ok-next-2.ensures in
    let third = c.in_ok-init.ensures c.in_ok-next.next in (
      latch_line_from c.in_ok-literal.literal (c.in_ok-next.next, c.in_ok-next.reset),
      (rw (c.new.ensures, first.1.0, second.1, third.1) refl, first.1.1),
      takes_line kind 32 literals rest line_of (tests c.args.resets kind c.args.greatest literals) _
          _ c.in_ok-literal.literal own _ (c.in_ok-next.next, c.in_ok-next.reset)
          c.in_ok-next.ensures (rw (first.0, second.0, third.0) refl),
    )
