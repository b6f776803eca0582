-- What encoding says of a file, by its size.
use Rattle.aig_base.proofs.Words.{◌≡◌, ℕ, ◌<◌, ◌≤◌, Bool, ap, if◌then◌else◌, le-leb, lt-leb}
use Rattle.aig_format.proofs.Words.{circuit_of, File}
use Rattle.aig_reader.specs.Verdicts.{Accepted, TooLarge}
use Rattle.aig_unroll.specs.Places.{unrolled_size}
use Rattle.aig_encode.specs.Encoding.{encoded_verdict}

module _ (limit k : ℕ) (f : File) where
  pub encoded_verdict-within : unrolled_size (circuit_of f) k ≤ limit
      → encoded_verdict limit k f ≡ Accepted
  encoded_verdict-within low = ap (λ (b : Bool). if b then Accepted else TooLarge) (le-leb (unrolled_size (circuit_of f) k) limit low)

  pub encoded_verdict-beyond : limit < unrolled_size (circuit_of f) k
      → encoded_verdict limit k f ≡ TooLarge
  encoded_verdict-beyond high = ap (λ (b : Bool). if b then Accepted else TooLarge) (lt-leb (unrolled_size (circuit_of f) k) limit high)
