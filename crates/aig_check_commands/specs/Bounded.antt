-- Part of what is promised.
-- What the commands of bounded checks put into their writer. (Bounded model checking; DIMACS CNF
-- format.)
use Rattle.std.specs.Prelude.{◌≡◌, ℕ, ◌+◌, ◌≤◌, Bool, true, false, List, length, Option, codes}
use Rattle.std.specs.List.{flat_map, zip}
use Rattle.aig_base.specs.Clauses.{lit_to}
use Rattle.aig_answers.specs.declared.bounded_checks.clauses.BoundedClauses.{BoundedClauses}
use Rattle.aig_answers.specs.declared.bounded_checks.naming.Named.{Named}
use Rattle.aig_answers.specs.Said.{SaysWitness}
use Rattle.aig_format.specs.File.{File}
use Rattle.aig_witness.specs.Machine.{ShowsBad}
use Rattle.aig_witness.specs.Witness.{Witness, witness_text}
use Rattle.aig_check_commands.specs.Comments.{literal_line}

-- ---- questions

-- the letter of a latch, or of an input
abbrev pub letter_of : Bool → List ℕ
letter_of true = codes "c l"
letter_of false = codes "c i"

-- the line of an input of the question: the latch or input that it is, the step, and its variable
abbrev pub place_line : ℕ × Named → List ℕ
place_line (n, place) =
    literal_line (letter_of place.is_latch) place.number place.step (lit_to n true)

-- a line for each input of the question, in order
unfoldable pub bounded_comments : BoundedClauses → List ℕ
bounded_comments made =
    flat_map place_line (zip made.question.circuit.inputs.items made.named.items)

-- ---- witnesses

-- the text of a witness of at most k + 1 steps that shows a bad state of the file's machine; it is
-- the one that the solver's answer to the file's question says
pub record IsWitnessToText (given : Option (List ℕ)) (f : File) (k : ℕ) (optimize : Bool)
    (text : List ℕ) : Type 0 where
  pub witness : Witness
  pub steps : length witness.steps ≤ k + 1
  pub shows : ShowsBad f witness
  pub exact : text ≡ witness_text witness
  pub said : SaysWitness given k optimize f witness
