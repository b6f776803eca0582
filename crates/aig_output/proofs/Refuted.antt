-- Wrong writes, of which the definition is false.
use Rattle.aig_base.proofs.Words.{◌≡◌, ℕ, Bool, false, true, List, [], ◌∷◌, Some, Result, Ok, Err, sym, ap, length, arith, false≢true}
use Rattle.aig_output.specs.Sinks.{WritesOrStops}

-- a sink of these bytes, and whether it has failed
record Bytes : Type 0 where
  bytes : List ℕ
  failed : Bool

abbrev holding : List ℕ → Bool → Bytes
holding bytes failed = record { bytes = bytes; failed = failed }

-- from an empty sink to this one, for the text of the bytes 65 and 66
abbrev Writes : Result (Unit {0}) (Unit {0}) → Bytes → Type 0
Writes result new = WritesOrStops (λ (b : Bytes). Some b.bytes) (λ (b : Bytes). b.failed) (holding [] false) result (65 ∷ 66 ∷ []) new

-- nothing is written
not_nothing : ¬ Writes (Ok tt) (holding [] false)
not_nothing w = let n : ◌≡◌ {A = ℕ} 0 2 = ap length w.ok in absurd (omega arith)

-- a put of one byte is taken for the whole
not_one_byte : ¬ Writes (Ok tt) (holding (65 ∷ []) false)
not_one_byte w = let n : ◌≡◌ {A = ℕ} 1 2 = ap length w.ok in absurd (omega arith)

-- a failed sink is passed over
not_passed_over : ¬ Writes (Ok tt) (holding (65 ∷ 66 ∷ []) true)
not_passed_over w = false≢true (sym w.sound)

-- a failure is told of a sink that has none
not_invented : ¬ Writes (Err tt) (holding [] false)
not_invented w = false≢true w.err.has_failed
