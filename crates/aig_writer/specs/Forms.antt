-- Serves private clauses alone.
-- The forms of a circuit, by their kind.
use Rattle.std.specs.Prelude.{◌≡◌, ℕ, List, []}
use Rattle.aig_circuit.specs.Circuit.{Circuit}
use Rattle.aig_format.specs.declared.FileKind.{FileKind}
use Rattle.aig_format.specs.declared.FileKind.TheVariants.{Text, Binary}
use Rattle.aig_format.specs.Circuit.{binary_of, text_of}
use Rattle.aig_writer.specs.Literals.{HasSmallNumbers}
use Rattle.aig_writer.specs.Numbering.{FitsBinary}

-- the one form of this kind
abbrev pub form_of : FileKind → Circuit → List ℕ
form_of Text c = text_of c
form_of Binary c = binary_of c

-- the circuit has a form of this kind, and the table is that of its numbers
pub record FitsForm (kind : FileKind) (c : Circuit) (table : List ℕ) : Type 0 where
  pub small : HasSmallNumbers c table
  pub text : kind ≡ Text → table ≡ []
  pub binary : kind ≡ Binary → FitsBinary c table
