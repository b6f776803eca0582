use Rattle.aig_base.proofs.Words.{[], ◌∷◌, ◌≡◌, arith, ◌∙◌}
use Rattle.aig_edit_commands.proofs.Calling.{word_at}
use Rattle.aig_edit_commands.proofs.acting.perform.Goals as goal

pub returns-in-File : goal.returns-in-File
returns-in-File g c = rw c.in-File.is (λ file are.
    let first : c.as_str-file.result.now ≡ file = c.as_str-file.ensures.value
    ∙ word_at c.args.paths.now (file ∷ []) 0 c.index-paths-0.result are (omega arith) c.index-paths-0.is in
    rw (← first) (c.print_file.result, c.told_one.ensures, c.print_file.ensures))

pub returns-in-Pair : goal.returns-in-Pair
returns-in-Pair g c = rw c.in-Pair.is (λ file other are.
    let at = word_at c.args.paths.now (file ∷ other ∷ []) in
    let first : c.as_str-file.result.now ≡ file = c.as_str-file.ensures.value
    ∙ at 0 c.index-paths-0.result are (omega arith) c.index-paths-0.is in
    let second : c.as_str-other.result.now ≡ other = c.as_str-other.ensures.value
    ∙ at 1 c.index-paths-1.result are (omega arith) c.index-paths-1.is in
    rw (← first, ← second) (c.print.result, c.told_two.ensures, c.print.ensures))
