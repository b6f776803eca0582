-- The text of a miter with registers that start as is said, as a file.
use Rattle.std.proofs.Common.{◌≡◌, ◌↔◌, ℕ, ◌^◌, ◌≤◌, List, sym, ap, subst}
use Rattle.aig_circuit.specs.Circuit.{Circuit, IsCircuit}
use Rattle.aig_format.proofs.Words.{IsReadAgain, circuit_of, file_of, File, Accepts, AreTexts, FitsFormat, IsWritable}
use Rattle.aig_format.specs.declared.FileKind.TheVariants.{Text}
use Rattle.aig_format.proofs.Circuits.{IsCircuit-of_file}
use Rattle.aig_format_laws.proofs.Writable.{IsWritable-of_file, names_are_texts}
use Rattle.aig_format_laws.proofs.Written.{is_read_again}
use Rattle.aig_runs.specs.Safety.{IsCircuitSafeAt, IsSafeAt}
use Rattle.aig_join.specs.Alike.{AreEqualMachinesFrom, IsAlikeMiter, IsMiterFrom}
use Rattle.aig_join.specs.Files.{HaveSameFileCounts}
use Rattle.aig_join.specs.Joined.{CanShare, joined}
use Rattle.aig_join.specs.Miter.{HaveSameCounts}
use Rattle.aig_join.specs.declared.starts.Matching.{Matching}
use Rattle.aig_join.specs.declared.starts.Starts.{Starts}
use Rattle.aig_join.specs.declared.starts.Starts.TheVariants.{Alike, Apart}
use Rattle.aig_join.proofs.AlikeRuns.{safe-is_equal_alike}
use Rattle.aig_join.proofs.AlikeFiles.{equal-alike_machines}
use Rattle.aig_join.proofs.AlikeWritable.{IsWritable-alike, names-alike}
use Rattle.aig_join.proofs.Files.{HaveSameCounts-files}
use Rattle.aig_join.proofs.Miters.{can}
use Rattle.aig_join.proofs.Writable.{AreTexts-joined, IsWritable-miter, IsWritableIfSmall, if_small}
use Rattle.aig_join.proofs.Written.{circuit-safe, file-safe, written-miter}

-- ---- the miter of two circuits

module _ (a b m : Circuit) (is_a : IsCircuit a) (is_b : IsCircuit b)
    (counts : HaveSameCounts a b) where
  can-from : (starts : Starts) → IsMiterFrom starts a b m → CanShare 0 a b
  can-from Apart miters = can a b m is_a is_b counts miters
  can-from (Alike matching) miters = can a b miters.plain is_a is_b counts miters.miter

  names-from : (starts : Starts) → IsMiterFrom starts a b m → m.names ≡ (joined 0 a b).names
  names-from Apart miters = ap (λ (c : Circuit). c.names) miters.rest
  names-from (Alike matching) miters = names-alike matching a b m is_a is_b counts miters

  IsWritable-from : (starts : Starts) → IsMiterFrom starts a b m → IsWritableIfSmall a
      → IsWritableIfSmall b → FitsFormat m → IsWritable m
  IsWritable-from Apart miters one two small =
      IsWritable-miter a b m is_a is_b counts miters one two small
  IsWritable-from (Alike matching) miters one two small =
      IsWritable-alike matching a b m is_a is_b counts miters one two small

  -- its text is read again
  pub again-from : (starts : Starts) → IsMiterFrom starts a b m → IsWritableIfSmall a
      → IsWritableIfSmall b → AreTexts a.names → AreTexts b.names → IsCircuit m → FitsFormat m
      → IsReadAgain m (file_of Text m)
  again-from starts miters one two texts others is small = is_read_again Text m is
      (IsWritable-from starts miters one two small)
      (subst AreTexts (sym (names-from starts miters))
      (AreTexts-joined 0 a b is_a is_b (can-from starts miters) texts others)) tt

-- and its machine is as safe as it
pub safe-again : (m : Circuit) (Says : Type 0) (k : ℕ) → IsReadAgain m (file_of Text m)
    → IsCircuitSafeAt m k ↔ Says → IsSafeAt (file_of Text m) k ↔ Says
safe-again m Says k again circuits = (
  λ safe. circuits.0 (circuit-safe m (file_of Text m) again k safe),
  λ says. file-safe m (file_of Text m) again k (circuits.1 says),
)

-- ---- that of two files

module _ (f g : File) (limit bound : ℕ) (bytes others : List ℕ) (m : Circuit) (low : limit ≤ 2 ^ 31)
    (also_low : bound ≤ 2 ^ 31) (accepts : Accepts bytes limit f) (also : Accepts others bound g)
    (counts : HaveSameFileCounts f g) where
  -- with registers that start alike
  written-alike : (matching : Matching) → IsAlikeMiter matching (circuit_of f) (circuit_of g) m
      → IsCircuit m → FitsFormat m → IsReadAgain m (file_of Text m)
      × ((k : ℕ) → IsSafeAt (file_of Text m) k ↔ AreEqualMachinesFrom (Alike matching) f g k)
  written-alike matching miters is small =
      let is_f = IsCircuit-of_file f limit accepts.1 in
      let is_g = IsCircuit-of_file g bound also.1 in
      let same = HaveSameCounts-files f g counts in
      let again = again-from (circuit_of f) (circuit_of g) m is_f is_g same (Alike matching) miters
      (if_small (circuit_of f) (IsWritable-of_file f limit bytes low accepts))
      (if_small (circuit_of g) (IsWritable-of_file g bound others also_low also))
      (names_are_texts f limit accepts.1) (names_are_texts g bound also.1) is small in (
        again,
        λ k.
            let circuits = safe-is_equal_alike matching (circuit_of f) (circuit_of g) m k is_f is_g
            same miters in
            let machines = equal-alike_machines matching f g limit bound k accepts.1 also.1 in
            safe-again m (AreEqualMachinesFrom (Alike matching) f g k) k again
            (λ safe. machines.0 (circuits.0 safe), λ equal. circuits.1 (machines.1 equal)),
      )

  -- the text of a miter is a file whose machine is safe where the two machines are equal
  pub written-miter_from : (starts : Starts)
      → IsMiterFrom starts (circuit_of f) (circuit_of g) m → IsCircuit m → FitsFormat m
      → IsReadAgain m (file_of Text m)
      × ((k : ℕ) → IsSafeAt (file_of Text m) k ↔ AreEqualMachinesFrom starts f g k)
  written-miter_from Apart miters is small =
      written-miter f g limit bound bytes others m low also_low accepts also counts miters small
  written-miter_from (Alike matching) miters is small = written-alike matching miters is small
