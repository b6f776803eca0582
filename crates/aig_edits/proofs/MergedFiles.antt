-- The text of two files' circuits side by side, as a file.
use Rattle.std.proofs.Common.{◌↔◌, ◌⊎◌, ℕ, ◌^◌, ◌≤◌, List, inl, inr}
use Rattle.aig_circuit.specs.Circuit.{Circuit}
use Rattle.aig_circuit.proofs.Values.{edge_value_by_leaves}
use Rattle.aig_change.specs.Merge.{merged}
use Rattle.aig_change.proofs.Merged.{IsCircuit-merged, PairsRuns-merged}
use Rattle.aig_edit_laws.specs.Plain.{IsPlain}
use Rattle.aig_edit_laws.specs.Shown.{HasCircuitRun, HasRun, HasWitness}
use Rattle.aig_edit_laws.proofs.Machines.{Joined, runs_shown}
use Rattle.aig_edit_laws.proofs.Paired.{merged_witnesses}
use Rattle.aig_edit_laws.proofs.PlainForms.{plain-merged}
use Rattle.aig_edit_laws.proofs.Written.{JoinsWitnesses, written_witnesses}
use Rattle.aig_format.proofs.Words.{IsReadAgain, circuit_of, file_of, File, Accepts, Fits, FitsFormat, IsWritable}
use Rattle.aig_format.specs.declared.FileKind.TheVariants.{Text}
use Rattle.aig_format.proofs.Circuits.{IsCircuit-of_file}
use Rattle.aig_format.proofs.Numbers.{used_known}
use Rattle.aig_format_laws.specs.Nodes.{values_over}
use Rattle.aig_format_laws.proofs.Joining.{back_run, forth_run, forth_values, leaves_of, literal_is}
use Rattle.aig_format_laws.proofs.Starts.{starts_agree}
use Rattle.aig_format_laws.proofs.Writable.{IsWritable-of_file, names_are_texts}
use Rattle.aig_format_laws.proofs.Written.{is_read_again}
use Rattle.aig_runs.specs.CircuitQueries.{HasCircuitWitness}
use Rattle.aig_runs.proofs.Witnesses.{witness_back, witness_forth}
use Rattle.aig_edits.specs.declared.pairing.Pairing.TheVariants.{Merge}
use Rattle.aig_edits.specs.Joints.{ShowsOf}
use Rattle.aig_edits.proofs.Edited.{plain_of}

joined : Joined
joined = record {
  forth = λ f limit last run fits is. (
    leaves_of f run,
    forth_run f limit last run fits is,
    forth_values f limit last run fits is,
  );
  back = back_run;
  starts = starts_agree;
  literals = literal_is;
  known = used_known;
}

joins : JoinsWitnesses
joins = record { forth = witness_forth; back = witness_back }

-- a file's machine has the witnesses of its circuit
machine : (f : File) (limit k : ℕ) → Fits f limit → HasCircuitWitness (circuit_of f) k ↔ HasWitness
    f k
machine f limit k fits = (
  λ s. (values_over f s.0, witness_back f limit k s.0 fits s.1),
  λ s. let x = witness_forth f limit k s.0 fits s.1 in (x.0, x.1),
)

module _ (f g : File) (limit bound : ℕ) (is : Fits f limit) (also : Fits g bound) (again :
    IsReadAgain (merged (circuit_of f) (circuit_of g)) (file_of Text (merged (circuit_of f)
    (circuit_of g)))) (k : ℕ) where
  abbrev a : Circuit
  a = circuit_of f

  abbrev b : Circuit
  b = circuit_of g

  abbrev h : File
  h = file_of Text (merged a b)

  pairs : HasCircuitWitness (merged a b) k
      ↔ ((HasCircuitWitness a k × HasCircuitRun b k) ⊎ (HasCircuitRun a k × HasCircuitWitness b k))
  pairs =
      let is_a = IsCircuit-of_file f limit is in
      let is_b = IsCircuit-of_file g bound also in
      merged_witnesses (λ c x y is agree e there. edge_value_by_leaves c.nodes is.nodes.ordered x y
      agree e) a b is_a is_b (PairsRuns-merged a b is_a is_b) k

  forth : HasWitness h k → (HasWitness f k × HasRun g k) ⊎ (HasRun f k × HasWitness g k)
  forth w = elim (pairs.0 ((written_witnesses joins (merged a b) h k again).1 w)) [
    | inl p ↦ inl ((machine f limit k is).0 p.0, (runs_shown joined g bound k also).0 p.1)
    | inr p ↦ inr ((runs_shown joined f limit k is).0 p.0, (machine g bound k also).0 p.1)
  ]

  back : (HasWitness f k × HasRun g k) ⊎ (HasRun f k × HasWitness g k) → HasWitness h k
  back (inl p) = (written_witnesses joins (merged a b) h k again).0 (pairs.1 (inl (
    (machine f limit
        k is).1 p.0,
    (runs_shown joined g bound k also).1 p.1,
  )))
  back (inr p) = (written_witnesses joins (merged a b) h k again).0 (pairs.1 (inr (
    (runs_shown
        joined f limit k is).1 p.0,
    (machine g bound k also).1 p.1,
  )))

pub written-merged : (f g : File) (limit bound : ℕ) (bytes others : List ℕ) → limit ≤ 2 ^ 31 → bound
    ≤ 2 ^ 31
    → Accepts bytes limit f → Accepts others bound g → FitsFormat (merged (circuit_of f) (circuit_of
    g))
    → IsReadAgain (merged (circuit_of f) (circuit_of g)) (file_of Text (merged (circuit_of f)
    (circuit_of g)))
    × ShowsOf Merge f g (file_of Text (merged (circuit_of f) (circuit_of g)))
written-merged f g limit bound bytes others low also_low accepts also small =
    let a = circuit_of f in
    let b = circuit_of g in
    let is_a = IsCircuit-of_file f limit accepts.1 in
    let is_b = IsCircuit-of_file g bound also.1 in
    let plain : IsPlain (merged a b) = plain-merged a b is_a is_b (plain_of a (IsWritable-of_file f
    limit bytes low accepts)) (plain_of b (IsWritable-of_file g bound others also_low also)) in
    let writable : IsWritable (merged a b) = record {
      closed = plain.closed;
      start = plain.start;
      names = plain.names;
      small = small;
    } in
    let again = is_read_again Text (merged a b) (IsCircuit-merged a b is_a is_b) writable
    (names_are_texts f limit accepts.1) tt in (
      again,
      λ k. (
        forth f g limit bound accepts.1 also.1 again k,
        back f g limit bound accepts.1
            also.1 again k,
      ),
    )
