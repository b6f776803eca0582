-- What a command does, at each way out of it.
use Rattle.aig_base.proofs.Words.{◌≡◌, ◌≢◌, ℕ, Bool, false, Option, Some, None, Ok, Err, List, refl, sym, ap, subst, inl, inr, ◌∙◌, Appends}
use Rattle.std.specs.Prelude.{IfErr, IsErrOf, Result}
use Rattle.aig_circuit.specs.Circuit.{Circuit}
use Rattle.aig_format.proofs.Words.{File, Accepts}
use Rattle.aig_reader.specs.declared.error.ReadError.{ReadError}
use Rattle.aig_reader.specs.declared.error.ReadError.TheVariants as read
use Rattle.aig_reader.specs.Reading.{IsReadAs}
use Rattle.aig_reader.specs.Verdicts as reading
use Rattle.aig_reader.specs.Verdicts.{Accepted, Judges, Short, Verdict}
use Rattle.aig_reader.proofs.Verdicts.{short_of}
use Rattle.aig_output.specs.Sinks.{Stops, WritesOrStops}
use Rattle.aig.specs.declared.aiger.WriteError.TheVariants as write
use Rattle.aig.specs.Reading.{IsFileCircuit}
use Rattle.aig_encode.specs.declared.error.EncodeError.{EncodeError}
use Rattle.aig_encode.specs.declared.error.EncodeError.TheVariants as encode
use Rattle.aig_encode.specs.Encoding as encoding
use Rattle.aig_encode.specs.Encoding.{encoded_verdict}
use Rattle.aig_tool_commands.specs.declared.command.Command.{Command}
use Rattle.aig_tool_commands.specs.declared.tool.ToolError.{ToolError}
use Rattle.aig_tool_commands.specs.declared.tool.ToolError.TheVariants as errors
use Rattle.aig_tool_commands.specs.Printing.{PrintsBytes, bytes_of}
use Rattle.aig_tool_commands.specs.Running.{AnswersFile, IsErrorOf, Runs, file_verdict, steps_of, verdict_of}
use Rattle.aig_tool_commands.proofs.Answering.{circuit_answers}

is_error : (T E : Type 0) (e x : E) → IsErrOf {T = T} (Err e) x → e ≡ x
is_error T E e x is = cc

-- a failed writer is not for want of memory
not_stream : (e : ToolError) → verdict_of e ≡ Short → e ≢ errors.Write write.Stream
not_stream e short is = let taken : Short ≡ Accepted = sym short ∙ ap verdict_of is in cc

module _ {R W : Type 0} (left : R → Option (List ℕ)) (read_failed : R → Bool)
    (held : W → Option (List ℕ)) (write_failed : W → Bool) (c : Command) (limit : ℕ) (r : R) (w : W)
    (rest : R) where
  -- what is said of the bytes, by a verdict on each file
  abbrev pub Said : (File → Verdict) → Verdict → Type 0
  Said of = Judges of limit (left r) (left rest) (read_failed rest)

  -- what is said where there are so many further steps
  said_by : (steps : Option ℕ) (v : Verdict) → steps_of c ≡ steps
      → Said (file_verdict steps limit) v
      → Said (file_verdict (steps_of c) limit) v
  said_by steps v are said = subst (λ steps. Said (file_verdict steps limit) v) (sym are) said

  -- the file is refused, or memory ran out
  refused : (e : ToolError) (made : W) → Said (file_verdict (steps_of c) limit) (verdict_of e)
      → IsErrorOf c e → e ≢ errors.Write write.Stream → made ≡ w
      → Runs left read_failed held write_failed c limit r w (Err e) rest made
  refused e made said own other same = record {
    verdict = said;
    own = own;
    ok = tt;
    stopped = λ is. absurd (other (is_error (Unit {0}) ToolError e (errors.Write write.Stream) is));
    kept = λ not. same;
  }

  pub not_read : (e : ReadError) → steps_of c ≡ None → Said (λ f. Accepted) (reading.verdict_of e)
      → e ≢ read.Open
      → Runs left read_failed held write_failed c limit r w (Err (errors.Read e)) rest w
  not_read e none said opened = refused (errors.Read e) w (said_by None _ none said) (none, opened)
      (λ is. cc) refl

  pub not_encoded : (k : ℕ) (e : EncodeError) → steps_of c ≡ Some k
      → Said (encoded_verdict limit k) (encoding.verdict_of e) → e ≢ encode.Read read.Open
      → Runs left read_failed held write_failed c limit r w (Err (errors.Encode e)) rest w
  not_encoded k e some said opened = refused (errors.Encode e) w (said_by (Some k) _ some said)
      (λ none. let is = some in cc, opened) (λ is. cc) refl

  module _ (made : W) where
    -- the answer was written
    answered : (u : Unit {0}) → Said (file_verdict (steps_of c) limit) Accepted
        → AnswersFile c limit (left r) (left rest)
        (λ text. Appends (held w) (held made) text × (write_failed made ≡ false))
        → Runs left read_failed held write_failed c limit r w (Ok u) rest made
    answered u said answers =
        record { verdict = said; own = tt; ok = answers; stopped = λ is. absurd cc; kept = tt }

    -- the writer failed after a beginning of it
    stopped : Said (file_verdict (steps_of c) limit) Accepted
        → AnswersFile c limit (left r) (left rest) (Stops (held w) (held made) (write_failed made))
        → Runs left read_failed held write_failed c limit r w (Err (errors.Write write.Stream)) rest
        made
    stopped said answers =
        record {
          verdict = said;
          own = tt;
          ok = tt;
          stopped = λ is. answers;
          kept = λ not. absurd
              (not refl);
        }

    -- clauses were written, or a beginning of them
    pub clauses_end : (k : ℕ) (result : Result (Unit {0}) ToolError) (text : List ℕ)
        → steps_of c ≡ Some k → Said (encoded_verdict limit k) Accepted
        → ((Holds : List ℕ → Type 0) → Holds text → AnswersFile c limit (left r) (left rest) Holds)
        → WritesOrStops held write_failed w result text made
        → IfErr result (λ e. e ≡ errors.Write write.Stream)
        → Runs left read_failed held write_failed c limit r w result rest made
    clauses_end k (Ok u) text some said answers writes fault = answered u
        (said_by (Some k) Accepted some said) (answers _ (writes.ok, writes.sound))
    clauses_end k (Err e) text some said answers writes fault = rw fault
        (stopped (said_by (Some k) Accepted some said) (answers _ writes.err))

    -- the bytes of a file's circuit were written, or a beginning of them, or memory ran out
    pub circuit_end : (circuit : Circuit) (result : Result (Unit {0}) ToolError) → steps_of c ≡ None
        → Said (λ f. Accepted) Accepted
        → IsReadAs (λ bytes. Accepts bytes limit) IsFileCircuit (left r) (left rest) circuit
        → PrintsBytes held write_failed c (bytes_of c circuit) w result made
        → Runs left read_failed held write_failed c limit r w result rest made
    circuit_end circuit (Ok u) none said read prints = answered u (said_by None Accepted none said)
        (circuit_answers c limit (left r) (left rest) _ circuit none read prints)
    circuit_end circuit (Err e) none said read prints = elim prints [
      | inl stop ↦ rw stop.0
          (stopped (said_by None Accepted none said)
          (circuit_answers c limit (left r) (left rest) _ circuit none read stop.1))
      | inr short ↦ refused e made
          (subst (Said (file_verdict (steps_of c) limit)) (sym short.0)
          (short_of _ limit _ _ _ (said_by None Accepted none said))) short.1 (not_stream e short.0)
          short.2
    ]
