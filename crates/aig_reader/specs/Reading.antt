-- Part of what is promised.
-- What a value that was read is.
use Rattle.std.specs.Prelude.{◌≡◌, ℕ, nat_le, if◌then◌else◌, List, Option, Some, None}
use Rattle.std.specs.Io.KnownBytes.{Consumes}
use Rattle.aig_circuit.specs.declared.view.CircuitLists.{CircuitLists}
use Rattle.aig_circuit.specs.View.{lists_circuit}
use Rattle.aig_format.specs.Circuit.{circuit_of}
use Rattle.aig_format.specs.File.{File}
use Rattle.aig_format.specs.Numbering.{node_of_variable}
use Rattle.aig_format.specs.Variables.{is_known}
use Rattle.aig_ordering.specs.Numbers.{number_at}
use Rattle.aig_reader.specs.declared.variable_nodes.NumberedLists.{NumberedLists}
use Rattle.aig_reader.specs.declared.variable_nodes.VariableNodes.{VariableNodes}
use Rattle.aig_reader.specs.declared.variable_nodes.VariableNodes.TheVariants.{Own, Table}

-- the lists are those of the file's circuit
abbrev pub AreListsOf : File → CircuitLists → Type 0
AreListsOf f lists = lists_circuit lists ≡ circuit_of f

-- the node of a variable, if it is 0 or defined
abbrev pub node_in : File → ℕ → Option ℕ
node_in f v = if is_known f v then Some (node_of_variable f v) else None

-- the node that is told of a variable, if one is
abbrev pub node_told : VariableNodes → ℕ → Option ℕ
node_told (Own greatest) v = if nat_le v greatest then Some v else None
node_told (Table numbers) v = number_at numbers.items v

-- of each variable it is that of the file
abbrev pub TellsNodes : File → VariableNodes → Type 0
TellsNodes f nodes = (v : ℕ) → node_told nodes v ≡ node_in f v

-- the lists are those of the file's circuit, and of each variable its node is told
abbrev pub IsNumberedOf : File → NumberedLists → Type 0
IsNumberedOf f read = AreListsOf f read.lists × TellsNodes f read.variables

-- the bytes that were taken are a file of which this holds, and the value is what is meant for that
-- file
pub record IsReadAs {T : Type 0} (Holds : List ℕ → File → Type 0) (Means : File → T → Type 0)
    (old new : Option (List ℕ)) (value : T) : Type 0 where
  pub file : File
  pub bytes : List ℕ
  pub holds : Holds bytes file
  pub means : Means file value
  pub taken : Consumes old new bytes
