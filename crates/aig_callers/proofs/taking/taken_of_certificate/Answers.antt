use Rattle.aig_callers.proofs.Taken.{Laws}
use Rattle.aig_callers.proofs.Questions.{parts_taken}
use Rattle.aig_callers.proofs.taking.taken_of_certificate.Goals as goal

pub returns-clause-printed : goal.returns-clause-printed
returns-clause-printed c = c.in_ok-text.ensures

pub returns-clause-taken : goal.returns-clause-taken
returns-clause-taken c =
    let laws : Laws = record {
      ordered = c.ordered_rat_refutations_are_taken.ensures;
      numbered = c.written_proofs_are_taken.ensures;
      plain = c.written_plain_proofs_are_taken.ensures.text;
      binary = c.written_plain_proofs_are_taken.ensures.binary;
      worded = c.written_numbered_proofs_are_taken.ensures;
    } in
    let told = c.in_ok-text.ensures in
    parts_taken laws c.reads_exactly.ensures.one 16777216 c.args.file.now c.args.certificate.now
    told.0 told.1 told.2 told.3 _ _ _ _ _ _ c.source_of.ensures c.source_of-2.ensures
    c.question_clauses_are_one.ensures c.args.optimize c.in_ok-text.text.items c.args.base.now
    c.args.step.now told.4.0 told.4.1 _ _ told.4.3 _ _ c.source_of-3.ensures c.source_of-4.ensures _ _
    c.check_goal-answer.result c.check_goal-answer.ensures.checks
