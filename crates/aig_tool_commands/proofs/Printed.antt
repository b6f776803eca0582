-- What a command that makes clauses does, once a file is read and unrolled.
use Rattle.aig_base.proofs.Words.{◌≡◌, ℕ, ◌≤◌, ◌++◌, [], Bool, Option, Some, Result, List, length, inl, inr}
use Rattle.aig_base.specs.declared.logic.literal.Lit.{Lit}
use Rattle.aig_base.specs.Formula.{clauses_in}
use Rattle.aig_cnf.specs.Cnf.{HasClauses}
use Rattle.aig_dimacs.specs.Text.{IsFormula, dimacs_of}
use Rattle.aig_format.proofs.Words.{File, circuit_of, Accepts}
use Rattle.aig_reader.specs.Reading.{IsReadAs}
use Rattle.aig_reader.specs.Verdicts.{Accepted, Judges}
use Rattle.aig_reader.proofs.Verdicts.{short_of}
use Rattle.aig_runs.specs.Queries.{query_clauses}
use Rattle.aig_unroll.specs.Places.{unrolled_size}
use Rattle.aig_encode.specs.Encoding.{encoded_verdict}
use Rattle.aig_encode.specs.declared.error.EncodeError.TheVariants as encode
use Rattle.aig_tool_commands.specs.declared.command.Command.{Command}
use Rattle.aig_tool_commands.specs.declared.command.Command.TheVariants as commands
use Rattle.aig_tool_commands.specs.declared.tool.ToolError.{ToolError}
use Rattle.aig_tool_commands.specs.Printing.{PrintsClauses}
use Rattle.aig_tool_commands.specs.Running.{Answers, Runs, steps_of}
use Rattle.aig_runs.specs.Unrolled.{IsUnrolledOf, UnrolledCircuit}
use Rattle.aig_runs.proofs.Asking.{asks, encodes}
use Rattle.aig_tool_commands.proofs.Answering.{clauses_answer, is_text}
use Rattle.aig_tool_commands.proofs.Outcomes.{clauses_end, not_encoded}

module _ (f : File) (limit k : ℕ) (optimize : Bool) (u : UnrolledCircuit)
    (lists : List (List (List Lit))) (is : IsUnrolledOf k limit f u)
    (has : HasClauses u.unrolled optimize lists) where
  pub cnf_answers : IsFormula (length lists) (clauses_in lists ++ [])
      → Answers (commands.Cnf k optimize) f (dimacs_of (length lists) (clauses_in lists ++ []))
  cnf_answers formula = (
    record { circuit = circuit_of f; unrolled = u.unrolled; clauses = lists },
    encodes f limit k optimize u lists is has,
    is_text lists [] formula,
  )

  pub query_answers : (extra : List (List Lit))
      → extra ≡ query_clauses u.circuit u.steps u.unrolled
      → IsFormula (length lists) (clauses_in lists ++ extra)
      → Answers (commands.Query k optimize) f
      (dimacs_of (length lists) (clauses_in lists ++ extra))
  query_answers extra exact formula = (
    record {
      encoded = record { circuit = circuit_of f; unrolled = u.unrolled; clauses = lists };
      extra =
          extra;
    },
    (encodes f limit k optimize u lists is has, asks f limit k optimize u lists is has extra exact),
    is_text lists extra formula,
  )

module _ {R W : Type 0} (left : R → Option (List ℕ)) (read_failed : R → Bool)
    (held : W → Option (List ℕ)) (write_failed : W → Bool) (c : Command) (limit : ℕ) (r : R) (w : W)
    (rest : R) (made : W) where
  pub printed : (k : ℕ) (optimize : Bool) (u : UnrolledCircuit) (extra : List (List Lit))
      (result : Result (Unit {0}) ToolError) → steps_of c ≡ Some k
      → Judges (encoded_verdict limit k) limit (left r) (left rest) (read_failed rest) Accepted
      → IsReadAs (λ bytes f. Accepts bytes limit f × (unrolled_size (circuit_of f) k ≤ limit))
      (IsUnrolledOf k limit) (left r) (left rest) u
      → ((f : File) (lists : List (List (List Lit))) → IsUnrolledOf k limit f u
      → HasClauses u.unrolled optimize lists
      → IsFormula (length lists) (clauses_in lists ++ extra)
      → Answers c f (dimacs_of (length lists) (clauses_in lists ++ extra)))
      → PrintsClauses held write_failed u.unrolled optimize extra w result made
      → Runs left read_failed held write_failed c limit r w result rest made
  printed k optimize u extra result some said read answers (inl (short, same)) =
      rw (short, same)
      (not_encoded left read_failed held write_failed c limit r w rest k encode.Memory some
      (short_of (encoded_verdict limit k) limit _ _ _ said) (λ o. cc))
  printed k optimize u extra result some said read answers (inr (fault, lists, has, text)) =
      clauses_end left read_failed held write_failed c limit r w rest made k result
      (dimacs_of (length lists) (clauses_in lists ++ extra)) some said
      (λ Holds. clauses_answer c limit (left r) (left rest) Holds k
      (dimacs_of (length lists) (clauses_in lists ++ extra)) some read
      (λ f means. answers f lists means has text.formula)) text.writes fault
