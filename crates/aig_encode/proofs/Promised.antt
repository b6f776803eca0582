-- What is promised of a circuit that was read: an encoding of it, or one of two refusals.
use Rattle.std.proofs.Common.{ℕ, ◌<◌, ◌≤◌, Bool, Option, Result, Ok, Err, List, sym, subst}
use Rattle.aig_circuit.specs.Circuit.{Circuit}
use Rattle.aig_format.proofs.Words.{circuit_of, File, Accepts, Fits}
use Rattle.aig_reader.specs.Reading.{IsReadAs}
use Rattle.aig_reader.specs.Verdicts.{Accepted, IsOfFile, IsSaidOf, Judges, verdict_by}
use Rattle.aig_reader.proofs.Verdicts.{said_of_read}
use Rattle.aig_runs.specs.Encodes.{Encodes}
use Rattle.aig_runs.proofs.FileRuns.{files_are_encoded}
use Rattle.aig_unroll.specs.Places.{unrolled_size}
use Rattle.aig_unroll.specs.Unroll.{UnrollsTo}
use Rattle.aig.specs.Reading.{IsFileCircuit}
use Rattle.aig_encode.specs.declared.encoding.Encoded.{Encoded}
use Rattle.aig_encode.specs.declared.error.EncodeError.{EncodeError}
use Rattle.aig_encode.specs.declared.error.EncodeError.TheVariants as errors
use Rattle.aig_encode.specs.Encoding.{encoded_verdict, verdict_of}
use Rattle.aig_encode.specs.EncodedCircuits.{EncodesCircuit, EncodesOrRefuses, Parts}
use Rattle.aig_encode.proofs.Verdicts.{encoded_verdict-beyond, encoded_verdict-within}

module _ (of : Circuit) (limit k : ℕ) (optimize : Bool) where
  -- what encodes a file's own circuit encodes the file
  encodes : (f : File) (made : Parts) → Fits f limit → IsFileCircuit f of → EncodesCircuit of k optimize made → Encodes f k optimize of made.0 made.1
  encodes f made fits same h =
      let steps = subst (λ circuit. UnrollsTo circuit k made.0) same h.steps in
      subst (λ circuit. Encodes f k optimize circuit made.0 made.1) (sym same) (files_are_encoded f limit k optimize made.0 made.1 fits steps h.clauses h.fixes h.satisfied)

  -- the circuit's size with the further steps is that of the file's
  low : (f : File) → unrolled_size of k ≤ limit → IsFileCircuit f of → unrolled_size (circuit_of f) k ≤ limit
  low f size same = subst (λ circuit. unrolled_size circuit k ≤ limit) same size

  high : (f : File) → limit < unrolled_size of k → IsFileCircuit f of → limit < unrolled_size (circuit_of f) k
  high f size same = subst (λ circuit. limit < unrolled_size circuit k) same size

  -- what is said of the file that the circuit is of
  said : (r : Result Parts EncodeError) → EncodesOrRefuses of limit k optimize r → (f : File)
      → IsFileCircuit f of → IsSaidOf (encoded_verdict limit k) f (verdict_by verdict_of r)
  said (Ok made) p f same = sym (encoded_verdict-within limit k f (low f p.1 same))
  said (Err errors.Memory) p f same = encoded_verdict-within limit k f (low f p same)
  said (Err errors.TooLarge) p f same = sym (encoded_verdict-beyond limit k f (high f p same))
  said (Err (errors.Read e)) p f same = absurd p

  of_file : (r : Result Parts EncodeError) → EncodesOrRefuses of limit k optimize r
      → IsOfFile (verdict_by verdict_of r)
  of_file (Ok made) p = tt
  of_file (Err errors.Memory) p = tt
  of_file (Err errors.TooLarge) p = tt
  of_file (Err (errors.Read e)) p = absurd p

  module _ (old new : Option (List ℕ)) (read : IsReadAs (λ bytes. Accepts bytes limit) IsFileCircuit old new of) where
    pub judged : (failed : Bool) (r : Result Parts EncodeError)
        → Judges (λ f. Accepted) limit old new failed Accepted
        → EncodesOrRefuses of limit k optimize r
        → Judges (encoded_verdict limit k) limit old new failed (verdict_by verdict_of r)
    judged failed r told p = said_of_read (λ f. Accepted) (encoded_verdict limit k) limit old new failed (verdict_by verdict_of r) (of_file r p) told read (said r p)

    -- the file that was read is encoded
    pub answers : (made : Parts) → EncodesOrRefuses of limit k optimize (Ok made) → IsReadAs {T = Encoded} (λ bytes f. Accepts bytes limit f × (unrolled_size (circuit_of f) k ≤ limit)) (λ f e. Encodes f k optimize e.circuit e.unrolled e.clauses) old new (record { circuit = of; unrolled = made.0; clauses = made.1 })
    answers made p = record {
      file = read.file;
      bytes = read.bytes;
      holds = (read.holds, low read.file p.1 read.means);
      means = encodes read.file made read.holds.1 read.means p.0;
      taken = read.taken;
    }
