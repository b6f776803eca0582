-- The joint circuit of two files, from that of their circuits.
use Rattle.aig_base.proofs.Words.{◌≡◌, ℕ, ◌/◌, ◌≤◌, ◌^◌, List, length, Result, Ok, Err, refl, sym, subst, ◌∙◌, arith, IfErr, IfOk, length-map}
use Rattle.aig_circuit.proofs.Words.{Circuit, IsCircuit, lists_circuit}
use Rattle.aig_circuit.specs.declared.view.CircuitLists.{CircuitLists}
use Rattle.aig_format.proofs.Words.{IsReadAgain, circuit_of, edge_of, file_of, latch_of, File, Accepts, node_of_variable, FitsFormat}
use Rattle.aig_format.specs.declared.FileKind.TheVariants.{Text}
use Rattle.aig_format.proofs.Circuits.{IsCircuit-of_file}
use Rattle.aig_join.proofs.ConstrainedWritten.{written-miter_by}
use Rattle.aig_join.proofs.Written.{written-certified}
use Rattle.aig_reader.specs.Verdicts.{Accepted, IsOfFile, verdict_by}
use Rattle.aig_reader.proofs.Verdicts.{of_no_file}
use Rattle.aig_edits.specs.declared.pair_error.PairError.{PairError}
use Rattle.aig_edits.specs.declared.pair_error.PairError.TheVariants as errors
use Rattle.aig_edits.specs.declared.pairing.Pairing.{Pairing}
use Rattle.aig_edits.specs.declared.pairing.Pairing.TheVariants.{Certificate, Merge, Miter}
use Rattle.aig_edits.specs.Joints.{DoFit, IsJoint, IsJointOf, IsMisfit, IsOwn, IsJoined, counted, ShowsOf, first_verdict, second_verdict}
use Rattle.aig_edits.proofs.MergedFiles.{written-merged}
use Rattle.aig_edits.specs.JointParts.{AreListsOfBoth, CanPair, IsJoinOf, counted_circuit}

-- ---- counts

-- as many inputs, and latches, as lines
inputs-of : (f : File) → length (circuit_of f).inputs ≡ length f.inputs
inputs-of f = length-map f.inputs (λ (e : ℕ). node_of_variable f (e / 2))

pub counted-of : (f : File) → counted_circuit (circuit_of f) ≡ counted f
counted-of f =
    rw (
      length-map f.inputs (λ (e : ℕ). node_of_variable f (e / 2)),
      length-map f.latches (latch_of f),
      length-map f.properties.outputs (edge_of f),
      length-map f.properties.bads (edge_of f),
    ) refl

pub fits_back : (pairing : Pairing) (f g : File) → CanPair pairing (circuit_of f) (circuit_of g)
    → DoFit pairing f g
fits_back (Miter comparison) f g can = record {
  inputs = sym (inputs-of f) ∙ can.inputs ∙ inputs-of g;
  outputs = sym (length-map f.properties.outputs (edge_of f)) ∙ can.outputs
      ∙ length-map g.properties.outputs (edge_of g);
  bads = sym (length-map f.properties.bads (edge_of f)) ∙ can.bads
      ∙ length-map g.properties.bads (edge_of g);
}
fits_back Certificate f g can =
    let i = inputs-of f in
    let j = inputs-of g in
    let l = length-map f.latches (latch_of f) in
    let m = length-map g.latches (latch_of g) in
    let few = can.inputs in
    let also_few = can.latches in
    record { inputs = omega arith; latches = omega arith }
fits_back Merge f g can = tt

module _ (limit : ℕ) (low : limit ≤ 2 ^ 31) (f g : File) (bytes others : List ℕ)
    (is : Accepts bytes limit f) (also : Accepts others limit g) where
  -- ---- the circuit

  -- its text is a file, which shows what it should
  written : (pairing : Pairing) (m : Circuit) → DoFit pairing f g
      → IsJoint pairing (circuit_of f) (circuit_of g) m → IsCircuit m → FitsFormat m
      → IsReadAgain m (file_of Text m) × ShowsOf pairing f g (file_of Text m)
  written (Miter comparison) m fit joint circuit small = written-miter_by f g limit limit bytes
      others m low low is also fit comparison joint circuit small
  written Certificate m fit joint circuit small =
      let Goal : Circuit → Type 0 =
      λ c. IsReadAgain c (file_of Text c) × ShowsOf Certificate f g (file_of Text c) in
      subst Goal (sym joint) (written-certified f g limit limit bytes others low low is also fit
      (subst FitsFormat joint small))
  written Merge m fit joint circuit small =
      let Goal : Circuit → Type 0 =
      λ c. IsReadAgain c (file_of Text c) × ShowsOf Merge f g (file_of Text c) in
      subst Goal (sym joint.0) (written-merged f g limit limit bytes others low low is also
      (subst FitsFormat joint.0 small))

  joint_of : (pairing : Pairing) (m : Circuit) → CanPair pairing (circuit_of f) (circuit_of g)
      → IsJoint pairing (circuit_of f) (circuit_of g) m → IsCircuit m → FitsFormat m
      → IsJointOf pairing f g m
  joint_of pairing m can joint circuit small =
      let fit = fits_back pairing f g can in
      let text = written pairing m fit joint circuit small in
      record { fit = fit; joint = joint; small = small; again = text.0; shows = text.1 }

  -- ---- results

  joins : (pairing : Pairing) (made : Result CircuitLists PairError)
      → IsJoinOf pairing (circuit_of f) (circuit_of g) made → IsJoined pairing f g made
  joins pairing (Ok lists) told = joint_of pairing (lists_circuit lists) told.0 told.1 told.2
      told.3
  joins pairing (Err (errors.Misfit m)) told =
      subst (λ b. IsMisfit pairing (counted f) b m) (counted-of g)
      (subst (λ a. IsMisfit pairing a (counted_circuit (circuit_of g)) m) (counted-of f) told)
  joins pairing (Err errors.TooLarge) told = (fits_back pairing f g told.0, told.1)
  joins pairing (Err errors.Memory) told = fits_back pairing f g told
  joins pairing (Err (errors.Read e)) told = absurd told
  joins pairing (Err (errors.Other e)) told = absurd told
  joins pairing (Err errors.Write) told = absurd told

  -- of the lists that were read
  pub lists_join : (pairing : Pairing) (own theirs : CircuitLists)
      (made : Result CircuitLists PairError)
      → IsJoinOf pairing (lists_circuit own) (lists_circuit theirs) made
      → AreListsOfBoth f g (Ok (own, theirs)) → IsJoined pairing f g made
  lists_join pairing own theirs made told lists = joins pairing made
      (subst (λ b. IsJoinOf pairing (circuit_of f) b made) lists.1
      (subst (λ a. IsJoinOf pairing a (lists_circuit theirs) made) lists.0 told))

-- ---- what a joining tells of the files, which are taken

module _ (pairing : Pairing) (a b : Circuit) where
  pub first_taken : (made : Result CircuitLists PairError) → IsJoinOf pairing a b made
      → verdict_by first_verdict made ≡ Accepted
  first_taken (Ok lists) told = refl
  first_taken (Err (errors.Read e)) told = absurd told
  first_taken (Err e) told = refl

  pub second_taken : (made : Result CircuitLists PairError) → IsJoinOf pairing a b made
      → verdict_by second_verdict made ≡ Accepted
  second_taken (Ok lists) told = refl
  second_taken (Err (errors.Other e)) told = absurd told
  second_taken (Err e) told = refl

  pub join_own : (made : Result CircuitLists PairError) → IsJoinOf pairing a b made
      → IfErr made IsOwn
  join_own (Ok lists) told = tt
  join_own (Err (errors.Read e)) told = absurd told
  join_own (Err (errors.Other e)) told = absurd told
  join_own (Err e) told = tt

  pub join_circuit : (made : Result CircuitLists PairError) → IsJoinOf pairing a b made
      → IfOk made (λ lists. IsCircuit (lists_circuit lists))
  join_circuit (Ok lists) told = told.2
  join_circuit (Err e) told = tt

-- what isn't told of the reading of either has no error of it
pub own_joint : {T : Type 0} (made : Result T PairError) → verdict_by first_verdict made ≡ Accepted
    → verdict_by second_verdict made ≡ Accepted → IfErr made IsOwn
own_joint (Ok x) first second = tt
own_joint (Err (errors.Read e)) first second =
    absurd (of_no_file e (subst IsOfFile (sym first) tt))
own_joint (Err (errors.Other e)) first second =
    absurd (of_no_file e (subst IsOfFile (sym second) tt))
own_joint (Err e) first second = tt

-- the lists that were read are of circuits
pub circuits_read : (limit : ℕ) (f g : File) (bytes others : List ℕ) (own theirs : CircuitLists)
    → Accepts bytes limit f → Accepts others limit g → AreListsOfBoth f g (Ok (own, theirs))
    → IsCircuit (lists_circuit own) × IsCircuit (lists_circuit theirs)
circuits_read limit f g bytes others own theirs is also lists = (
  subst IsCircuit (sym lists.0) (IsCircuit-of_file f limit is.1),
  subst IsCircuit (sym lists.1) (IsCircuit-of_file g limit also.1),
)
