-- Part of what is promised.
-- What the gates of a circuit are. (AIGER format 20071012: "And section".)
use Rattle.std.specs.Prelude.{◌≡◌, Some, List, slice_get}
use Rattle.aig_circuit.specs.declared.node.AigNode.{AigNode}
use Rattle.aig_circuit.specs.Node.{FitsBelow, IsAnd}

-- the gate stands at its number, and its operands come before it, in order
pub record IsGateOf (nodes : List AigNode) (gate : AigNode) : Type 0 where
  pub there : slice_get nodes gate.node_id ≡ Some gate
  pub and : IsAnd gate
  pub operands : FitsBelow gate.node_id gate.typ
