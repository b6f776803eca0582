use Rattle.aig_base.proofs.Words.{◌∙◌, ◌≡◌, ◌+◌, ◌∷◌, ◌++◌, ◌^◌, ◌<◌, [], Option, get_or, map, take, ap, sym, subst, arith, map_push, take_all, take_more, All-get_or}
use Rattle.aig_circuit.specs.declared.node.AigNode.{AigNode}
use Rattle.aig_circuit.specs.declared.node.AigNodeType.{AigNodeType}
use Rattle.aig_circuit.specs.declared.node.AigNodeType.TheVariants.{False}
use Rattle.aig_circuit.specs.Node.{IfAnd}
use Rattle.aig_ordering.specs.declared.gates.Operands.{Operands}
use Rattle.aig_reader.specs.Gates.{gate_in}
use Rattle.aig_reader.proofs.Waiting.{none_waits}
use Rattle.aig_reader.proofs.table.Table.new.Goals as goal

abbrev first : AigNode
first = record { node_id = 0; typ = False }

abbrev gate : AigNode → Option Operands
gate node = gate_in node.typ

pub gate_of-requires : goal.gate_of-requires
gate_of-requires c =
    subst (λ (kind : AigNodeType). IfAnd kind (λ id. id < 2 ^ 31)) (sym c.typ.ensures)
    (All-get_or (λ (node : AigNode). IfAnd node.typ (λ id. id < 2 ^ 31)) c.args.nodes.now c.loop-node.node-index first c.loop-node-test.true c.requires)

pub loop-node-preserved : goal.loop-node-preserved
loop-node-preserved c =
    let nodes = c.args.nodes.now in
    let i = c.loop-node.node-index in
    let last : c.gate_of.result ≡ gate (get_or nodes i first) = c.gate_of.ensures ∙ ap gate_in c.typ.ensures in
    let more : map gate (take (i + 1) nodes) ≡ map gate (take i nodes) ++ gate (get_or nodes i first) ∷ [] = ap (map gate) (take_more nodes i first c.loop-node-test.true) ∙ map_push gate (take i nodes) (get_or nodes i first) in
    record {
      entries = rw (c.push_reserved.ensures.items, c.loop-node.invariant.entries, last) (sym more);
      len = omega (arith, c.push_reserved.ensures.len, c.loop-node.invariant.len);
      room = omega (arith, c.push_reserved.ensures.capacity, c.loop-node.invariant.room);
    }

pub returns : goal.returns
returns c = λ size gates h low.
    let nodes = c.args.nodes.now in
    let i = c.loop-node.node-index in
    let entries = c.loop-node.invariant.entries ∙ ap (map gate) (take_all i nodes c.loop-node-test.false) in
    none_waits size gates nodes _ h entries (omega (arith, c.loop-node.invariant.len, low)) c.in_ok-pending.ensures.items
