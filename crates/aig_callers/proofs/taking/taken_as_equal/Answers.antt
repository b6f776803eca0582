use Rattle.aig_callers.proofs.Taken.{Laws}
use Rattle.aig_callers.proofs.Questions.{equal_taken}
use Rattle.aig_base.proofs.Words.{subst, ◌∙◌}
use Rattle.aig_answers.specs.Goals.{fault_of}
use Rattle.aig_format.specs.Fits.{Accepts}
use Rattle.aig_callers.specs.Texts.{IsQueryTextOf}
use Rattle.aig_callers.proofs.taking.taken_as_equal.Goals as goal

pub returns-clause-printed : goal.returns-clause-printed
returns-clause-printed c =
    let text = c.in_ok-text.text.items in
    let asked = subst (λ b. IsQueryTextOf c.args.k c.args.optimize b text) c.as_slice.ensures.value
    c.in_ok-text.ensures in
    (c.in_ok-miter.miter.items, c.in_ok-miter.ensures, asked)

pub returns-clause-taken : goal.returns-clause-taken
returns-clause-taken c =
    let laws : Laws = record {
      ordered = c.ordered_rat_refutations_are_taken.ensures;
      numbered = c.written_proofs_are_taken.ensures;
      plain = c.written_plain_proofs_are_taken.ensures.text;
      binary = c.written_plain_proofs_are_taken.ensures.binary;
      worded = c.written_numbered_proofs_are_taken.ensures;
    } in
    let joint = c.in_ok-miter.ensures in
    let asked = c.in_ok-text.ensures in
    let written = subst (λ b. Accepts b 16777216 asked.0) (c.as_slice.ensures.value ∙ joint.4.2)
    asked.1 in
    λ proves. equal_taken laws c.reads_exactly.ensures.one 16777216 c.args.file.now
    c.args.other.now joint.0 joint.1 joint.2 joint.3 _ _ _ _ _ _ c.source_of.ensures
    c.source_of-2.ensures c.miters_are_one.ensures c.joint_files_ask_the_same.ensures.query c.args.k
    c.args.optimize c.in_ok-text.text.items c.args.proof.now _ c.source_of-3.ensures joint.4.0
    joint.4.1 asked.0 written asked.2.0 asked.2.1 asked.2.2 _ _
    (fault_of c.check_goal-answer.result) c.check_goal-answer.ensures.checks proves
