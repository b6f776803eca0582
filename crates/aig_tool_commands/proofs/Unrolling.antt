-- A circuit that was read, with further steps, and what is said of its file by its size.
use Rattle.aig_base.proofs.Words.{ℕ, ◌<◌, ◌≤◌, Bool, Option, Result, Ok, Err, List, sym, subst, arith, IfOk, IsErrOf}
use Rattle.aig_circuit.proofs.Words.{lists_circuit}
use Rattle.aig_circuit.specs.declared.view.CircuitLists.{CircuitLists}
use Rattle.aig_encode.proofs.Verdicts.{encoded_verdict-beyond, encoded_verdict-within}
use Rattle.aig_encode.specs.declared.error.EncodeError.{EncodeError}
use Rattle.aig_encode.specs.declared.error.EncodeError.TheVariants as errors
use Rattle.aig_encode.specs.Encoding.{encoded_verdict, verdict_of}
use Rattle.aig_format.proofs.Words.{circuit_of, File, Accepts}
use Rattle.aig_reader.proofs.Verdicts.{said_of_read}
use Rattle.aig_reader.specs.declared.error.ReadError.TheVariants as read
use Rattle.aig_reader.specs.Reading.{AreListsOf, IsReadAs}
use Rattle.aig_reader.specs.Verdicts.{Accepted, IsOfFile, IsSaidOf, Judges, verdict_by}
use Rattle.aig_unroll.specs.Places.{unrolled_size}
use Rattle.aig_runs.proofs.Asking.{unrolls_to}
use Rattle.aig_runs.specs.Unrolled.{IsUnrolledOf, UnrolledCircuit, Unrolls}
use Rattle.aig_tool_commands.specs.Unrolled.{UnrollsOrRefuses}

module _ (lists : CircuitLists) (limit k : ℕ) where
  -- the circuit's size with the further steps is that of the file's
  low : (f : File) → unrolled_size (lists_circuit lists) k ≤ limit → AreListsOf f lists
      → unrolled_size (circuit_of f) k ≤ limit
  low f size same = subst (λ circuit. unrolled_size circuit k ≤ limit) same size

  -- what is said of the file that the circuit is of
  said : (result : Result UnrolledCircuit EncodeError)
      → UnrollsOrRefuses (lists_circuit lists) limit k result → (f : File) → AreListsOf f lists
      → IsSaidOf (encoded_verdict limit k) f (verdict_by verdict_of result)
  said (Ok u) h f same = sym (encoded_verdict-within limit k f (low f h.1 same))
  said (Err errors.Memory) h f same = encoded_verdict-within limit k f (low f h same)
  said (Err errors.TooLarge) h f same = sym
      (encoded_verdict-beyond limit k f (subst (λ circuit. limit < unrolled_size circuit k) same h))
  said (Err (errors.Read e)) h f same = absurd h

  of_file : (result : Result UnrolledCircuit EncodeError)
      → UnrollsOrRefuses (lists_circuit lists) limit k result
      → IsOfFile (verdict_by verdict_of result)
  of_file (Ok u) h = tt
  of_file (Err errors.Memory) h = tt
  of_file (Err errors.TooLarge) h = tt
  of_file (Err (errors.Read e)) h = absurd h

  pub never_read : (result : Result UnrolledCircuit EncodeError)
      → UnrollsOrRefuses (lists_circuit lists) limit k result
      → IsErrOf result (errors.Read read.Open) → ⊥
  never_read (Ok u) h is = cc
  never_read (Err errors.Memory) h is = cc
  never_read (Err errors.TooLarge) h is = cc
  never_read (Err (errors.Read e)) h is = h

  module _ (old new : Option (List ℕ))
      (read : IsReadAs (λ bytes. Accepts bytes limit) AreListsOf old new lists) where
    pub judged : (failed : Bool) (result : Result UnrolledCircuit EncodeError)
        → Judges (λ f. Accepted) limit old new failed Accepted
        → UnrollsOrRefuses (lists_circuit lists) limit k result
        → Judges (encoded_verdict limit k) limit old new failed (verdict_by verdict_of result)
    judged failed result told h = said_of_read (λ f. Accepted) (encoded_verdict limit k) limit old
        new failed (verdict_by verdict_of result) (of_file result h) told read (said result h)

    -- the file that was read is unrolled
    pub answered : (result : Result UnrolledCircuit EncodeError)
        → UnrollsOrRefuses (lists_circuit lists) limit k result
        → IfOk result (IsReadAs
        (λ bytes f. Accepts bytes limit f × (unrolled_size (circuit_of f) k ≤ limit))
        (IsUnrolledOf k limit) old new)
    answered (Err e) h = tt
    answered (Ok u) h =
        let size = low read.file h.1 read.means in
        let unrolls = subst (λ c. Unrolls c k u) read.means h.0 in
        record {
          file = read.file;
          bytes = read.bytes;
          holds = (read.holds, size);
          means = record {
            fits = read.holds.1;
            unrolls = unrolls;
            few =
                omega (arith, (unrolls_to (circuit_of read.file) k u unrolls).size, size);
          };
          taken = read.taken;
        }
