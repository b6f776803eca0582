-- The gates of a circuit, one after another.
use Rattle.aig_base.proofs.Words.{ap, refl, subst, sym, All-filter, filter_passes, slice_get-get_or}
use Rattle.std.specs.Prelude.{◌≡◌, true, Some, List, All, slice_get, slice_index_or}
use Rattle.aig_circuit.specs.declared.edge.AigEdge.{AigEdge}
use Rattle.aig_circuit.specs.declared.node.AigNodeType.{AigNodeType}
use Rattle.aig_circuit.specs.declared.node.AigNodeType.TheVariants.{And, False, Leaf}
use Rattle.aig_circuit.specs.declared.node.AigNode.{AigNode}
use Rattle.aig_circuit.proofs.Words.{FitsBelow, gates_of, is_gate, AreNodes}
use Rattle.aig.specs.Gates.{IsGateOf}

-- the node stands at its number
abbrev IsThere : List AigNode → AigNode → Type 0
IsThere nodes node = slice_get nodes node.node_id ≡ Some node

there : (nodes : List AigNode) → AreNodes nodes → All (IsThere nodes) nodes
there nodes sound k d below =
    let node = slice_index_or nodes k d in
    let found = slice_get-get_or nodes k d below in
    subst (λ n. slice_get nodes n ≡ Some node) (sym (sound.numbered k node found)) found

is_and : (typ : AigNodeType) → is_gate typ ≡ true → (a b : AigEdge) × (typ ≡ And a b)
is_and (And a b) gate = (a, b, refl)
is_and False gate = absurd cc
is_and Leaf gate = absurd cc

operands : (nodes : List AigNode) → AreNodes nodes → (node : AigNode) → IsThere nodes node → FitsBelow node.node_id node.typ
operands nodes sound node found = record {
  first = λ a b same. sound.ordered.first_before node.node_id a b (rw found (ap Some same));
  second = λ a b same. sound.ordered.second_before node.node_id a b (rw found (ap Some same));
  in_order = λ a b same. sound.ordered.in_order node.node_id a b (rw found (ap Some same));
}

-- each of the gates stands at its number, and its operands come before it
pub All-gates_of : (nodes : List AigNode) → AreNodes nodes → All (IsGateOf nodes) (gates_of nodes)
All-gates_of nodes sound k d below =
    let gate = slice_index_or (gates_of nodes) k d in
    let found = All-filter (λ node. is_gate node.typ) (IsThere nodes) nodes (there nodes sound) k d below in
    record {
      there = found;
      and = is_and gate.typ (filter_passes (λ (node : AigNode). is_gate node.typ) nodes k d below);
      operands = operands nodes sound gate found;
    }
