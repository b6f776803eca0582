-- The text of a miter with constraints that say what is said, as a file.
use Rattle.std.proofs.Common.{◌↔◌, ℕ, ◌^◌, ◌≤◌, List, sym, subst}
use Rattle.aig_circuit.specs.Circuit.{Circuit, IsCircuit}
use Rattle.aig_format.proofs.Words.{IsReadAgain, circuit_of, file_of, File, Accepts, AreTexts, FitsFormat}
use Rattle.aig_format.specs.declared.FileKind.TheVariants.{Text}
use Rattle.aig_format.proofs.Circuits.{IsCircuit-of_file}
use Rattle.aig_format_laws.proofs.Writable.{IsWritable-of_file, names_are_texts}
use Rattle.aig_runs.specs.Safety.{IsSafeAt}
use Rattle.aig_join.specs.Alike.{AreEqualMachinesFrom, IsMiterFrom}
use Rattle.aig_join.specs.Constraints.{AreEqualConstrainedMachinesAt, AreEqualMachinesBy, AreEqualMachinesUnder, DefersConstraints, IsMiterBy, IsMiterUnder, unconstrained, without_constraints}
use Rattle.aig_join.specs.Files.{HaveSameFileCounts}
use Rattle.aig_join.specs.Miter.{HaveSameCounts}
use Rattle.aig_join.specs.declared.comparison.Comparison.{Comparison}
use Rattle.aig_join.specs.declared.comparison.Constraints.{Constraints}
use Rattle.aig_join.specs.declared.comparison.Constraints.TheVariants.{Compared, OfBoth, OfFirst}
use Rattle.aig_join.specs.declared.starts.Starts.{Starts}
use Rattle.aig_join.proofs.AlikeWritten.{again-from, safe-again, written-miter_from}
use Rattle.aig_join.proofs.ConstrainedFiles.{equal-constrained_machines, equal-first_machines}
use Rattle.aig_join.proofs.ConstrainedWritable.{IsWritableIfSmall-deferred, IsWritableIfSmall-unconstrained, names-deferred}
use Rattle.aig_join.proofs.Deferred.{deferred-circuit, deferred-compare, deferred-counts, safe-is_equal_started}
use Rattle.aig_join.proofs.Files.{HaveSameCounts-files}
use Rattle.aig_join.proofs.Unconstrained.{HaveSameCounts-unconstrained, IsCircuit-unconstrained}
use Rattle.aig_join.proofs.Writable.{IsWritableIfSmall, if_small}

module _ (f g : File) (limit bound : ℕ) (bytes others : List ℕ) (m : Circuit) (low : limit ≤ 2 ^ 31)
    (also_low : bound ≤ 2 ^ 31) (accepts : Accepts bytes limit f) (also : Accepts others bound g)
    (counts : HaveSameFileCounts f g) where
  is_f : IsCircuit (circuit_of f)
  is_f = IsCircuit-of_file f limit accepts.1

  is_g : IsCircuit (circuit_of g)
  is_g = IsCircuit-of_file g bound also.1

  same_counts : HaveSameCounts (circuit_of f) (circuit_of g)
  same_counts = HaveSameCounts-files f g counts

  writable_f : IsWritableIfSmall (circuit_of f)
  writable_f = if_small (circuit_of f) (IsWritable-of_file f limit bytes low accepts)

  writable_g : IsWritableIfSmall (circuit_of g)
  writable_g = if_small (circuit_of g) (IsWritable-of_file g bound others also_low also)

  texts_f : AreTexts (circuit_of f).names
  texts_f = names_are_texts f limit accepts.1

  texts_g : AreTexts (circuit_of g).names
  texts_g = names_are_texts g bound also.1

  -- constraints of the first alone
  written-first : (starts : Starts)
      → IsMiterFrom starts (circuit_of f) (unconstrained (circuit_of g)) m → IsCircuit m
      → FitsFormat m → IsReadAgain m (file_of Text m)
      × ((k : ℕ) → IsSafeAt (file_of Text m) k
      ↔ AreEqualMachinesFrom starts f (without_constraints g) k)
  written-first starts miters is small =
      let free = unconstrained (circuit_of g) in
      let is_free = IsCircuit-unconstrained (circuit_of g) is_g in
      let same_free = HaveSameCounts-unconstrained (circuit_of f) (circuit_of g) same_counts in
      let again = again-from (circuit_of f) free m is_f is_free same_free starts miters writable_f
      (IsWritableIfSmall-unconstrained (circuit_of g) writable_g) texts_f texts_g is small in (
        again,
        λ k.
            let circuits = safe-is_equal_started starts (circuit_of f) free m k is_f is_free
            same_free miters in
            let machines = equal-first_machines starts f g limit bound k accepts.1 also.1 in
            safe-again m (AreEqualMachinesFrom starts f (without_constraints g) k) k again
            (λ safe. machines.0 (circuits.0 safe), λ equal. circuits.1 (machines.1 equal)),
      )

  -- constraints that are compared
  written-compared : (starts : Starts) (c d : Circuit) → DefersConstraints (circuit_of f) c
      → DefersConstraints (circuit_of g) d → IsMiterFrom starts c d m → IsCircuit m → FitsFormat m
      → IsReadAgain m (file_of Text m)
      × ((k : ℕ) → IsSafeAt (file_of Text m) k ↔ AreEqualConstrainedMachinesAt starts f g k)
  written-compared starts c d first second miters is small =
      let is_c = deferred-circuit (circuit_of f) c is_f first in
      let is_d = deferred-circuit (circuit_of g) d is_g second in
      let same_deferred = deferred-counts (circuit_of f) (circuit_of g) c d same_counts first second in
      let again = again-from c d m is_c is_d same_deferred starts miters
      (IsWritableIfSmall-deferred (circuit_of f) c first is_f writable_f)
      (IsWritableIfSmall-deferred (circuit_of g) d second is_g writable_g)
      (subst AreTexts (sym (names-deferred (circuit_of f) c first)) texts_f)
      (subst AreTexts (sym (names-deferred (circuit_of g) d second)) texts_g) is small in (
        again,
        λ k.
            let circuits = deferred-compare starts (circuit_of f) (circuit_of g) c d m k is_f is_g
            same_counts first second miters in
            let machines = equal-constrained_machines f g limit bound k accepts.1 also.1 starts in
            safe-again m (AreEqualConstrainedMachinesAt starts f g k) k again
            (λ safe. machines.0 (circuits.0 safe), λ equal. circuits.1 (machines.1 equal)),
      )

  -- constraints that say what is said
  written-under : (constraints : Constraints) (starts : Starts)
      → IsMiterUnder constraints starts (circuit_of f) (circuit_of g) m → IsCircuit m → FitsFormat m
      → IsReadAgain m (file_of Text m)
      × ((k : ℕ) → IsSafeAt (file_of Text m) k ↔ AreEqualMachinesUnder constraints starts f g k)
  written-under OfBoth starts miters is small = written-miter_from f g limit bound bytes others m low
      also_low accepts also counts starts miters is small
  written-under OfFirst starts miters is small = written-first starts miters is small
  written-under Compared starts miters is small =
      written-compared starts miters.0 miters.1 miters.2 miters.3 miters.4 is small

  -- the text of a miter is a file whose machine is safe where the two machines are equal
  pub written-miter_by : (comparison : Comparison)
      → IsMiterBy comparison (circuit_of f) (circuit_of g) m → IsCircuit m → FitsFormat m
      → IsReadAgain m (file_of Text m)
      × ((k : ℕ) → IsSafeAt (file_of Text m) k ↔ AreEqualMachinesBy comparison f g k)
  written-miter_by comparison miters is small =
      written-under comparison.constraints comparison.starts miters is small
