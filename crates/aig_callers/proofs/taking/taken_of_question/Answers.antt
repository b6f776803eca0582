use Rattle.aig_base.proofs.Words.{refl}
use Rattle.aig_callers.proofs.Taken.{Laws}
use Rattle.aig_callers.proofs.Questioned.{question_taken}
use Rattle.aig_callers.proofs.taking.taken_of_question.Goals as goal

pub returns-clause-printed : goal.returns-clause-printed
returns-clause-printed c = c.in_ok-text.ensures

pub returns-clause-taken : goal.returns-clause-taken
returns-clause-taken c =
    let laws : Laws = record {
      ordered = c.ordered_rat_refutations_are_taken.ensures;
      numbered = c.written_proofs_are_taken.ensures;
      plain = c.written_plain_proofs_are_taken.ensures.text;
      binary = c.written_plain_proofs_are_taken.ensures.binary;
      worded = c.written_numbered_proofs_are_taken.ensures;
    } in
    let told = c.in_ok-text.ensures in
    λ proves. question_taken laws c.reads_exactly.ensures.one c.printed_clauses_are_checked.ensures
    16777216 c.args.question c.args.file.now c.args.proof.now c.in_ok-text.text.items _ told.0 told.1
    told.2 told.3 proves _ _ c.source_of-2.result c.source_of-2.ensures _ _ c.source_of.result
    c.source_of.ensures _ _ _ _ _ _
    c.print_checked-answer.result refl (rw c.of-goal.ensures at c.print_checked-answer.ensures)
