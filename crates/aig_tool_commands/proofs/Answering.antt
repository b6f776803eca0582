-- What a command puts into its writer answers the file that was read.
use Rattle.std.proofs.Common.{◌≡◌, ◌≤◌, ℕ, Option, Some, None, List, ◌++◌, length, refl, ap, ◌∙◌}
use Rattle.aig_base.specs.declared.logic.literal.Lit.{Lit}
use Rattle.aig_base.specs.Formula.{clauses_in}
use Rattle.aig_circuit.specs.Circuit.{Circuit}
use Rattle.aig_dimacs.specs.Text.{IsFormula, dimacs_of}
use Rattle.aig_dimacs.proofs.Reading.{parse_formula-dimacs_of}
use Rattle.aig_format.proofs.Words.{File, binary_of, circuit_of, text_of, Accepts}
use Rattle.aig_reader.specs.Reading.{IsReadAs}
use Rattle.aig_strash.specs.Strash.{strashed}
use Rattle.aig.specs.Reading.{IsFileCircuit}
use Rattle.aig_unroll.specs.Places.{unrolled_size}
use Rattle.aig_encode.proofs.Verdicts.{encoded_verdict-within}
use Rattle.aig_tool_commands.specs.declared.command.Command.TheVariants as commands
use Rattle.aig_tool_commands.specs.declared.command.Command.{Command}
use Rattle.aig_tool_commands.specs.Printing.{bytes_of}
use Rattle.aig_tool_commands.specs.Running.{Answers, AnswersFile, IsTextOf, file_verdict, steps_of}

no_steps : (k : ℕ) → Some k ≡ None → ⊥
no_steps k is = cc

-- the bytes of a file's circuit answer it, by a command that makes no clauses
bytes_answer : (c : Command) (circuit : Circuit) (f : File) → steps_of c ≡ None
    → IsFileCircuit f circuit → Answers c f (bytes_of c circuit)
bytes_answer commands.Text circuit f plain is = ap text_of is
bytes_answer commands.Binary circuit f plain is = ap binary_of is
bytes_answer commands.Strash circuit f plain is = ap (λ d. text_of (strashed d)) is
bytes_answer (commands.Cnf k optimize) circuit f plain is = absurd (no_steps k plain)
bytes_answer (commands.Query k optimize) circuit f plain is = absurd (no_steps k plain)

-- a text of clauses is read again
pub is_text : (lists : List (List (List Lit))) (extra : List (List Lit))
    → IsFormula (length lists) (clauses_in lists ++ extra)
    → IsTextOf lists extra (dimacs_of (length lists) (clauses_in lists ++ extra))
is_text lists extra formula =
    record {
      exact = refl;
      again = parse_formula-dimacs_of (length lists)
          (clauses_in lists ++ extra) formula;
    }

module _ (c : Command) (limit : ℕ) (old new : Option (List ℕ)) (Holds : List ℕ → Type 0) where
  pub circuit_answers : (circuit : Circuit) → steps_of c ≡ None
      → IsReadAs (λ bytes. Accepts bytes limit) IsFileCircuit old new circuit
      → Holds (bytes_of c circuit) → AnswersFile c limit old new Holds
  circuit_answers circuit plain read h = (
    bytes_of c circuit,
    record {
      file = read.file;
      bytes = read.bytes;
      holds = (read.holds, ap (λ steps. file_verdict steps limit read.file) plain);
      means = bytes_answer c circuit read.file plain read.means;
      taken = read.taken;
    },
    h,
  )

  pub clauses_answer : {X : Type 0} {Means : File → X → Type 0} {x : X} (k : ℕ) (text : List ℕ)
      → steps_of c ≡ Some k
      → IsReadAs (λ bytes f. Accepts bytes limit f × (unrolled_size (circuit_of f) k ≤ limit)) Means
      old new x
      → ((f : File) → Means f x → Answers c f text) → Holds text → AnswersFile c limit old new Holds
  clauses_answer k text some read means h = (
    text,
    record {
      file = read.file;
      bytes = read.bytes;
      holds = (
        read.holds.0,
        ap (λ steps. file_verdict steps limit read.file) some ∙
            encoded_verdict-within limit k read.file read.holds.1,
      );
      means = means read.file read.means;
      taken = read.taken;
    },
    h,
  )
