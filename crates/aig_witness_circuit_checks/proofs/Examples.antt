-- Turns of conditions, the questions of a small witness circuit and what errors say, computed; and
-- wrong answers, of which the definitions are false.
use Rattle.aig_witness_circuit_checks.proofs.Words.{◌≡◌, ◌≢◌, ℕ, ◌*◌, ◌<◌, ◌≤◌, ◌∙◌, Bool, true, false, codes, None, Option, Some, Result, Ok, Err, List, [], ◌∷◌, length, slice_index_or, refl, ap, subst, sym, arith, empty, AigEdge, edge_to, no_properties, File, circuit_of, node_in, circuit_with_resets, model_leaf, question_of, IsFor, Condition, Transition, Property, Base, Step, Claim, ConditionError, ChecksModel, Claims, IsNoQuestion, IsOfObligation, IsQuestionOf, LeavesProof, Proofs, ReadsWitness, SimulationError, TellsOfQuestion, file_error, proof_for, proofs_of, refusal_of}
use Rattle.aig_circuit.specs.declared.node.AigNodeType.{AigNodeType}
use Rattle.aig_circuit.specs.declared.node.AigNodeType.TheVariants.{False, Leaf}
use Rattle.aig_circuit.specs.declared.node.AigNode.{AigNode}
use Rattle.aig_circuit.proofs.Words.{Circuit}
use Rattle.aig_format.specs.declared.FileKind.TheVariants.{Text}
use Rattle.aig_format.specs.Text.{value_of}
use Rattle.aig_format.specs.Numbering.{node_of_variable, variables_in_order}
use Rattle.aig_edits.specs.declared.edit_error.EditError.TheVariants as edit
use Rattle.aig_reader.specs.declared.error.ReadError.{ReadError}
use Rattle.aig_reader.specs.declared.error.ReadError.TheVariants as read
use Rattle.aig_refutation.specs.declared.error.RefutationError.TheVariants as refutation
use Rattle.aig_witness_circuits.proofs.Alike.{same_digits}
use Rattle.aig_witness_circuits.specs.declared.error.QuestionError.TheVariants as questions
use Rattle.aig_subjects.specs.declared.subject.FileSubject.TheVariants.{Own}
use Rattle.aig_subjects.specs.declared.subject.FileSubject.TheVariants.{Property as Numbered}
use Rattle.aig_witness_circuit_checks.specs.declared.error.ConditionError.TheVariants as conditions
use Rattle.aig_witness_circuit_checks.specs.declared.error.SimulationError.TheVariants as errors

-- ---- errors

-- a witness circuit with a bad header says nothing of the file
witness-refused : (file_error (errors.Witness read.Header) ≡ None)
    × (refusal_of (errors.Witness read.Header) ≡ Some read.Header)
witness-refused = (refl, refl)

-- one with resets that go round in a circle is read
no_circle_unread : refusal_of errors.Circular ≢ Some read.Header
no_circle_unread is = cc

-- the file is refused for it
no_file_refused : file_error (errors.Witness read.Header) ≢ Some (edit.Read read.Header)
no_file_refused is = cc

-- clauses for one condition are refused for another, or as a proof would be
no_other_condition : ¬ IsOfObligation Base
    (errors.Condition Step (conditions.Question questions.TooLarge))
no_other_condition own = let same : Step ≡ Base = own.0 in cc

no_proof_read : ¬ IsOfObligation Base
    (errors.Condition Base (conditions.Refutation refutation.Line))
no_proof_read own = own.1

-- a witness circuit is blamed beside a file of which nothing is made, as it has no bad literal 0
no_blame_unmade : {R S T : Type 0} {left : R → Option (List ℕ)} {failed : R → Bool}
    {left_of : S → Option (List ℕ)} {failed_of : S → Bool} {limit : ℕ}
    {Means : File → File → Result T SimulationError → Type 0} {Owned : SimulationError → Type 0}
    {r rest : R} {s other : S} (e : ReadError)
    (told : ReadsWitness left failed left_of failed_of limit (Numbered 0) Means file_error
    refusal_of Owned r s (Err (errors.Witness e)) rest other)
    → ¬ ((told.made refl).file.properties.bads ≡ [])
no_blame_unmade e told none =
    let can = (told.made refl).means.1.edit_of.can in
    let some : 0 < 0 = subst (λ (l : List ℕ). 0 < length l) none can in
    omega (arith, some)

-- ---- proofs

abbrev five : Proofs ℕ
five = proofs_of 10 11 12 13 14

-- the proofs of `base` and `step` are turned round
base-proof : proof_for five Base ≡ 13
base-proof = refl

no_proofs_turned : proof_for five Base ≢ 14
no_proofs_turned is = let proof : 13 ≡ 14 = is in omega (arith, proof)

-- the proof of a condition without clauses stays as it is
left-proof : LeavesProof Property
    (Err (errors.Condition Property (conditions.Question questions.TooLarge)))
left-proof = let turn : 2 ≤ 2 = omega arith in turn

-- one that is refused stays too, or one of an earlier condition
no_refused_left : ¬ LeavesProof Property
    (Err (errors.Condition Property (conditions.Refutation refutation.Line)))
no_refused_left leaves = let turn : 2 < 2 = leaves in omega (arith, turn)

no_earlier_left : ¬ LeavesProof Transition
    (Err (errors.Condition Property (conditions.Question questions.TooLarge)))
no_earlier_left leaves = let turn : 2 ≤ 1 = leaves in omega (arith, turn)

-- ---- questions

-- latch 1 turns from 0, and is bad where it is 1
abbrev toggled : File
toggled = record {
  kind = Text;
  greatest = 1;
  inputs = [];
  latches = record { literal = 2; next = 3; reset = None } ∷ [];
  properties = record no_properties { bads = 2 ∷ [] };
  gates = [];
  names = [];
}

abbrev node : ℕ → AigNodeType → AigNode
node n kind = record { node_id = n; typ = kind }

-- a question of one leaf, its latch, with this bad edge
abbrev asking : AigEdge → Circuit
asking bad = record {
  nodes = node 0 False ∷ node 1 Leaf ∷ [];
  inputs = 1 ∷ [];
  latchs = [];
  properties = record no_properties { bads = bad ∷ [] };
  names = empty;
}

abbrev question : Condition → Circuit
question condition =
    question_of condition (model_leaf ((1, 1) ∷ [])) (circuit_of toggled)
    (circuit_with_resets toggled)

-- it starts in a good state, and from that it comes to a bad one
base-question : question Base ≡ asking (edge_to 0 false)
unfolding node_of_variable variables_in_order
base-question = refl

step-question : question Step ≡ asking (edge_to 1 true)
unfolding node_of_variable variables_in_order
step-question = refl

-- the question for `step` is asked for `base`
no_step_for_base : ¬ IsQuestionOf Base (node_in toggled) (circuit_of toggled)
    (circuit_with_resets toggled) (asking (edge_to 1 true))
unfolding node_of_variable variables_in_order
no_step_for_base is =
    let bad : 1 ≡ 0 =
    ap (λ (q : Circuit). (slice_index_or q.properties.bads 0 (edge_to 0 false)).node_id) is.2 in
    omega (arith, bad)

-- two nodes don't fit where one does
limit-passed : (optimize : Bool) (text : Option (List ℕ)) (bad : AigEdge)
    → TellsOfQuestion 1 optimize text (asking bad) (Err (conditions.Question questions.TooLarge))
limit-passed optimize text bad = let many : 1 < 2 = omega arith in many

-- and aren't answered there, or refused where two fit
no_answer_past_limit : (optimize : Bool) (text : Option (List ℕ)) (bad : AigEdge)
    → ¬ TellsOfQuestion 1 optimize text (asking bad) (Ok tt)
no_answer_past_limit optimize text bad told =
    let few : 2 ≤ 1 = told.0 in omega (arith, few)

no_limit_short : (bad : AigEdge) → ¬ IsNoQuestion 2 (asking bad) questions.TooLarge
no_limit_short bad none = let many : 2 < 2 = none in omega (arith, many)

-- ---- names

-- a latch of literal 6, of which variables 1 and 2 are left out
abbrev gap : File
gap = record toggled {
  greatest = 3;
  latches = record { literal = 6; next = 6; reset = None } ∷ [];
  properties = record no_properties { bads = 6 ∷ [] };
}

-- it is node 1, and no variable left out is a node
gap-nodes : (node_in gap 3 ≡ Some 1) × (node_in gap 1 ≡ None)
unfolding node_of_variable variables_in_order
gap-nodes = (refl, refl)

-- a name calls it by its literal
six-named : IsFor (node_in gap) 1 (codes "= 6")
unfolding node_of_variable variables_in_order
six-named = (
  codes "6",
  refl,
  (
    3,
    record {
      some = λ e. cc;
      each = ((omega arith, omega arith), tt);
      value = refl;
      small = omega arith;
    },
    refl,
  ),
)

-- and not by twice its node
no_two_named : ¬ IsFor (node_in gap) 1 (codes "= 2")
unfolding node_of_variable variables_in_order
no_two_named (digits, is, (v, number, node)) =
    let two : codes "2" ≡ digits = same_digits (codes "2") digits is in
    let twice : 2 ≡ 2 * v = ap value_of two ∙ number.value in
    let one : v ≡ 1 = omega arith in
    let none : ◌≡◌ {A = Option ℕ} None (Some 1) = subst (λ n. node_in gap n ≡ Some 1) one node in
    cc

-- in a file without gaps both are one
abbrev staying : File
staying = record gap {
  greatest = 1;
  latches = record { literal = 2; next = 2; reset = None } ∷ [];
  properties = record no_properties { bads = 2 ∷ [] };
}

staying-nodes : node_in staying 1 ≡ Some 1
unfolding node_of_variable variables_in_order
staying-nodes = refl

-- ---- answers

-- the file without its bad literal
abbrev silent : File
silent = record toggled { properties = no_properties }

silent-claim : Claims Own silent toggled (Err errors.NoBads)
silent-claim = (circuit_of silent, refl, refl)

-- it is claimed to be safe
no_claim : (claim : Claim) → ¬ Claims Own silent toggled (Ok claim)
no_claim claim told = told.2.0 (ap (λ (c : Circuit). c.properties.bads) told.1)

-- a bad literal is passed over
no_bads_lost : ¬ Claims Own toggled toggled (Err errors.NoBads)
no_bads_lost told =
    let bads = sym (ap (λ (c : Circuit). c.properties.bads) told.1) ∙ told.2 in
    let none : 1 ≡ 0 = ap length bads in omega (arith, none)

-- `step` isn't shown, and `base` was passed over, whose question doesn't fit
no_base_passed : (optimize : Bool) (texts : Condition → Option (List ℕ)) (e : ConditionError)
    → ¬ ChecksModel 1 optimize texts (node_in toggled) (circuit_of toggled)
    (circuit_with_resets toggled) (Err (errors.Condition Step e))
unfolding node_of_variable variables_in_order
no_base_passed optimize texts e told =
    let base = told.1 Base (omega arith) in
    let few : 2 ≤ 1 = subst (λ (q : Circuit). length q.nodes ≤ 1) base.1.2 base.2.0 in
    omega (arith, few)
