-- Serves private clauses alone.
-- The numbers under which a circuit's nodes are written.
use Rattle.std.specs.Prelude.{◌≡◌, ℕ, ◌-◌, ◌^◌, ◌<◌, ◌≤◌, List, [], length, map, filter_map, Some, All, slice_index_or}
use Rattle.aig_circuit.specs.declared.node.AigNode.{AigNode}
use Rattle.aig_circuit.specs.Circuit.{Circuit, IsClosed}
use Rattle.aig_circuit.specs.Reencode.{new_number}
use Rattle.aig_circuit.specs.Renumber.{renumbered_circuit, renumbered_kind}
use Rattle.aig_format.specs.declared.FileKind.{FileKind}
use Rattle.aig_format.specs.File.{File}
use Rattle.aig_format.specs.Circuit.{file_of, gate_line}

-- the number of a node in a table, which has it at the node's place; a node past its end keeps its
-- own
abbrev pub written_number : List ℕ → ℕ → ℕ
written_number table n = slice_index_or table n n

-- the node under another number, with a gate's operands put in order again
abbrev pub renumbered_node : (ℕ → ℕ) → AigNode → AigNode
renumbered_node number node =
    record { node_id = number node.node_id; typ = renumbered_kind number (Some node.typ) }

-- the file of a circuit under other numbers: its gates stand in the order of the circuit
abbrev pub numbered_file : (ℕ → ℕ) → FileKind → Circuit → File
numbered_file number kind c =
    record (file_of kind (renumbered_circuit number [] c)) {
      greatest = length c.nodes - 1;
      gates = filter_map gate_line (map (renumbered_node number) c.nodes);
      names = (file_of kind c).names;
    }

-- the table has the numbers that the binary form gives the circuit's nodes
pub record IsBinaryNumbering (c : Circuit) (table : List ℕ) : Type 0 where
  pub within : All (λ m. m < length c.nodes) table
  pub numbers : (n : ℕ) → n < length c.nodes → written_number table n ≡ new_number c n

-- the circuit has a binary form, and the table its numbers
pub record FitsBinary (c : Circuit) (table : List ℕ) : Type 0 where
  pub closed : IsClosed c
  pub few : length c.nodes ≤ 2 ^ 31
  pub numbering : IsBinaryNumbering c table
