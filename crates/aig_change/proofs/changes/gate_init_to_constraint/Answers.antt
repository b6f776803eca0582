use Rattle.aig_base.proofs.Words.{◌≡◌, false, Some, [], ◌∷◌, ◌++◌, length, map, sym, ap, subst, ◌∙◌, All, false≢true, length-map, take_at}
use Rattle.aig_circuit.specs.declared.edge.AigEdge.{AigEdge}
use Rattle.aig_circuit.specs.declared.node.AigNodeType.TheVariants.{Leaf}
use Rattle.aig_circuit.proofs.Words.{with_node, Circuit, IsCircuit, edge_to, HasConstantInit, lists_circuit}
use Rattle.aig_change.specs.Changes.{ConstrainsInits, first_step_latch, with_constant_start}
use Rattle.aig_change.specs.Inits.{Constrains}
use Rattle.aig_change.proofs.Constraining.{ConstrainsInits-plain, gated_starts}
use Rattle.aig_change.proofs.changes.gate_init_to_constraint.Goals as goal

pub returns-then-are_inits_constant-clause-starts : goal.returns-then-are_inits_constant-clause-starts
returns-then-are_inits_constant-clause-starts c =
    ConstrainsInits-plain (lists_circuit c.args.lists.now) c.requires (subst (All HasConstantInit) c.deref.ensures.value (c.are_inits_constant.ensures.plain.0 c.if-are_inits_constant.true))

-- the circuit that is left
abbrev made : goal.After-push_reserved → Circuit
made c = record (lists_circuit c.args.lists.now) { nodes = c.constrain_starts.new.nodes.items; latchs = c.push_reserved.new.self.items; properties = record (lists_circuit c.args.lists.now).properties { constraints = c.constrain_starts.new.constraints.items } }

both : (c : goal.After-push_reserved) → IsCircuit (made c) × ConstrainsInits (lists_circuit c.args.lists.now) (made c)
both c =
    let plains = c.make_plain.new.latchs in
    let were = c.deref_mut.ensures.value ∙ c.reserve.ensures.items in
    let long : length plains ≡ c.reserve.new.self.len = ap length c.make_plain.ensures ∙ length-map c.deref_mut.result.now with_constant_start ∙ ap length c.deref_mut.ensures.value ∙ sym c.reserve.new.self.ok.0 in
    let pushed : c.push_reserved.new.self.items ≡ plains ++ c.new.result ∷ [] = c.push_reserved.ensures.items ∙ ap (λ l. l ++ c.new.result ∷ []) (take_at plains _ c.reserve.new.self.len long) in
    let latch : c.new.result ≡ first_step_latch c.in_ok-leaf.leaf =
    c.new.ensures ∙ ap (λ (e : AigEdge). record { input = c.in_ok-leaf.leaf; next = e; init = Some c.constant-2.result }) c.constant.ensures
    ∙ ap (λ (e : AigEdge). record { input = c.in_ok-leaf.leaf; next = edge_to 0 false; init = Some e }) c.constant-2.ensures in
    let constrains = subst (λ ls. Constrains (with_node c.args.lists.now.nodes.items Leaf) c.constrain_starts.new.nodes.items (edge_to c.in_ok-leaf.leaf false) ls c.args.lists.now.properties.constraints.items c.constrain_starts.new.constraints.items)
    (c.deref-2.ensures.value ∙ c.reserve.ensures.items) c.in_ok-leaf.ensures.constrains in
    gated_starts (lists_circuit c.args.lists.now) c.requires
    (λ all. false≢true (sym c.if-are_inits_constant.false ∙ c.are_inits_constant.ensures.plain.1 (subst (All HasConstantInit) (sym c.deref.ensures.value) all)))
    c.constrain_starts.new.nodes.items c.in_ok-leaf.leaf c.new.result plains c.push_reserved.new.self.items c.constrain_starts.new.constraints.items
    c.in_ok-leaf.ensures.leaf c.in_ok-leaf.ensures.gates constrains (c.make_plain.ensures ∙ ap (map with_constant_start) were) latch pushed

pub returns-clause-circuit : goal.returns-clause-circuit
returns-clause-circuit c = (both c).0

pub returns-clause-starts : goal.returns-clause-starts
returns-clause-starts c = (both c).1
