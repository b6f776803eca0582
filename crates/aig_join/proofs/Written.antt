-- The text of a miter, and of a model beside a witness circuit, as a file.
use Rattle.std.proofs.Common.{◌↔◌, ℕ, ◌^◌, ◌≤◌, Bool, List, length, sym, ap, subst, arith}
use Rattle.aig_circuit.specs.Circuit.{Circuit}
use Rattle.aig_format.proofs.Words.{IsReadAgain, circuit_of, file_of, without_other_names, File, Accepts, Fits, AreTexts, FitsFormat}
use Rattle.aig_format.specs.declared.FileKind.TheVariants.{Text}
use Rattle.aig_format.proofs.Circuits.{IsCircuit-of_file}
use Rattle.aig_format_laws.specs.Nodes.{values_over}
use Rattle.aig_format_laws.proofs.Writable.{IsWritable-of_file, names_are_texts}
use Rattle.aig_format_laws.proofs.Written.{is_read_again}
use Rattle.aig_runs.proofs.SafeSteps.{safe_is}
use Rattle.aig_runs.proofs.Witnesses.{witness_back, witness_forth}
use Rattle.aig_runs.specs.CircuitQueries.{IsCircuitWitness}
use Rattle.aig_runs.specs.Queries.{IsSafeTo}
use Rattle.aig_runs.specs.Safety.{IsCircuitSafeAt, IsSafeAt}
use Rattle.aig_join.specs.Certificate.{certified}
use Rattle.aig_join.specs.Files.{AreEqualMachinesAt, HasLinesOf, HaveSameFileCounts}
use Rattle.aig_join.specs.Miter.{IsMiter}
use Rattle.aig_join.proofs.Certified.{IsCircuit-certified, can-share}
use Rattle.aig_join.proofs.Files.{HasLeavesOf-files, HaveSameCounts-files, safe-certified_machine, safe-is_equal_machines}
use Rattle.aig_join.proofs.Miters.{IsCircuit-miter, can}
use Rattle.aig_join.proofs.Writable.{AreTexts-joined, IsWritable-certified, IsWritable-miter, if_small}

-- a file that is read again as a circuit is as safe as that
module _ (c : Circuit) (h : File) (again : IsReadAgain c h) where
  fits : Fits h (length c.nodes)
  fits = (again.0 (length c.nodes) (omega arith)).1

  -- names are nothing to witnesses
  named : (k : ℕ) (x : ℕ → ℕ → Bool) → IsCircuitWitness (without_other_names c) k x
      → IsCircuitWitness c k x
  named k x w = record {
    is_run = w.is_run;
    start = w.start;
    constraints = w.constraints;
    bad =
        w.bad;
  }

  unnamed : (k : ℕ) (x : ℕ → ℕ → Bool) → IsCircuitWitness c k x
      → IsCircuitWitness (without_other_names c) k x
  unnamed k x w = record {
    is_run = w.is_run;
    start = w.start;
    constraints = w.constraints;
    bad =
        w.bad;
  }

  pub file-safe : (k : ℕ) → IsCircuitSafeAt c k → IsSafeAt h k
  file-safe k safe (run, w) =
      let found = witness_forth h (length c.nodes) k run fits w in
      safe (found.0, named k found.0 (subst (λ d. IsCircuitWitness d k found.0) again.1 found.1))

  pub circuit-safe : (k : ℕ) → IsSafeAt h k → IsCircuitSafeAt c k
  circuit-safe k safe (x, w) = safe (
    values_over h x,
    witness_back h (length c.nodes) k x fits
        (subst (λ d. IsCircuitWitness d k x) (sym again.1) (unnamed k x w)),
  )

-- the text of a miter is a file whose machine is safe where the two machines are equal
pub written-miter : (f g : File) (limit bound : ℕ) (bytes others : List ℕ) (m : Circuit) → limit
    ≤ 2 ^ 31 → bound ≤ 2 ^ 31 → Accepts bytes limit f → Accepts others bound g
    → HaveSameFileCounts f g → IsMiter (circuit_of f) (circuit_of g) m → FitsFormat m
    → IsReadAgain m (file_of Text m) × ((k : ℕ) → IsSafeAt (file_of Text m) k
    ↔ AreEqualMachinesAt f g k)
written-miter f g limit bound bytes others m low also_low accepts also counts miters small =
    let is_f = IsCircuit-of_file f limit accepts.1 in
    let is_g = IsCircuit-of_file g bound also.1 in
    let same = HaveSameCounts-files f g counts in
    let writable = IsWritable-miter (circuit_of f) (circuit_of g) m is_f is_g same miters
    (if_small (circuit_of f) (IsWritable-of_file f limit bytes low accepts))
    (if_small (circuit_of g) (IsWritable-of_file g bound others also_low also)) small in
    let texts : AreTexts m.names = subst AreTexts (sym (ap (λ (c : Circuit). c.names) miters.rest))
    (AreTexts-joined 0 (circuit_of f) (circuit_of g) is_f is_g
    (can (circuit_of f) (circuit_of g) m is_f is_g same miters) (names_are_texts f limit accepts.1)
    (names_are_texts g bound also.1)) in
    let again = is_read_again Text m (IsCircuit-miter (circuit_of f) (circuit_of g) m is_f is_g same
    miters) writable texts tt in (
      again,
      λ k.
          let equal = safe-is_equal_machines f g limit bound k accepts.1 also.1 counts m miters in (
            λ safe. equal.0 (circuit-safe m (file_of Text m) again k safe),
            λ e. file-safe m
                (file_of Text m) again k (equal.1 e),
          ),
    )

-- the text of a file's circuit beside that of a witness file is a file, and the machine is safe where
-- its machine is
pub written-certified : (f g : File) (limit bound : ℕ) (bytes others : List ℕ) → limit ≤ 2 ^ 31
    → bound ≤ 2 ^ 31 → Accepts bytes limit f → Accepts others bound g
    → HasLinesOf g f → FitsFormat (certified (circuit_of f) (circuit_of g))
    → IsReadAgain (certified (circuit_of f) (circuit_of g))
    (file_of Text (certified (circuit_of f) (circuit_of g)))
    × ((n : ℕ) → IsSafeTo (file_of Text (certified (circuit_of f) (circuit_of g))) n → IsSafeTo f n)
written-certified f g limit bound bytes others low also_low accepts also lines small =
    let is_f = IsCircuit-of_file f limit accepts.1 in
    let is_g = IsCircuit-of_file g bound also.1 in
    let whole = certified (circuit_of f) (circuit_of g) in
    let has = HasLeavesOf-files f g limit bound 0 accepts.1 also.1 lines in
    let writable = IsWritable-certified (circuit_of f) (circuit_of g) is_f is_g has
    (IsWritable-of_file f limit bytes low accepts)
    (IsWritable-of_file g bound others also_low also) small in
    let again = is_read_again Text whole (IsCircuit-certified (circuit_of f) (circuit_of g) is_f
    is_g has) writable (AreTexts-joined (length (circuit_of f).latchs) (circuit_of f) (circuit_of g)
    is_f is_g (can-share (circuit_of f) (circuit_of g) is_f is_g has)
    (names_are_texts f limit accepts.1) (names_are_texts g bound also.1)) tt in (
      again,
      λ n safe. (safe_is f n).0 (λ k h. safe-certified_machine f g limit bound k accepts.1
          also.1 lines (circuit-safe whole (file_of Text whole) again k
          ((safe_is (file_of Text whole) n).1 safe k h))),
    )
