use Rattle.aig_base.proofs.Words.{◌≡◌, List, [], Vec, Global, ◌∙◌, ap, length, map, subst, sym, All}
use Rattle.aig_circuit.specs.declared.edge.AigEdge.{AigEdge}
use Rattle.aig_circuit.proofs.Words.{Circuit, IsCircuit, IsInRange, lists_circuit}
use Rattle.aig_join.specs.Miter.{IsMiter, compared, moved_compared}
use Rattle.aig_join.proofs.Made.{IsCircuit-mitered, IsMiter-made, back-is, compared-there, count-is, front-is, others-compared-there}
use Rattle.aig_join.proofs.comparing.miter.Goals as goal
use Rattle.aig_join.proofs.comparing.miter.Goals.{After-deref-2}

-- what is compared of the first circuit, and of the second in the joint one
edges_are : (c : After-deref-2) → c.deref.result.now ≡ compared c.args.a.now
edges_are c = c.deref.ensures.value ∙ c.in_ok-edges.ensures.first
    ∙ front-is c.args.a.now c.args.b.now (lists_circuit c.in_ok-lists.lists)
    c.in_ok-lists.ensures.joined (length c.outputs.result.now) (length c.bads.result.now)
    (ap length c.outputs.ensures.value) (ap length c.bads.ensures.value)

others_are : (c : After-deref-2)
    → c.deref-2.result.now ≡ moved_compared c.args.a.now c.args.b.now
others_are c = c.deref-2.ensures.value ∙ c.in_ok-edges.ensures.second
    ∙ back-is c.args.a.now c.args.b.now (lists_circuit c.in_ok-lists.lists)
    c.in_ok-lists.ensures.joined (length c.outputs.result.now) (length c.bads.result.now)
    (ap length c.outputs.ensures.value) (ap length c.bads.ensures.value)

pub differences-requires-clause-edges : goal.differences-requires-clause-edges
differences-requires-clause-edges c =
    let lists = lists_circuit c.in_ok-lists.lists in
    subst (All (IsInRange lists.nodes))
    (sym (c.deref.ensures.value ∙ c.in_ok-edges.ensures.first))
    (compared-there lists c.in_ok-lists.ensures.circuit (length c.outputs.result.now)
    (length c.bads.result.now))

pub differences-requires-clause-others : goal.differences-requires-clause-others
differences-requires-clause-others c =
    let lists = lists_circuit c.in_ok-lists.lists in
    subst (All (IsInRange lists.nodes))
    (sym (c.deref-2.ensures.value ∙ c.in_ok-edges.ensures.second))
    (others-compared-there lists c.in_ok-lists.ensures.circuit (length c.outputs.result.now)
    (length c.bads.result.now))

pub differences-requires-clause-count : goal.differences-requires-clause-count
differences-requires-clause-count c =
    ap length (edges_are c)
    ∙ count-is c.args.a.now c.args.b.now (lists_circuit c.in_ok-lists.lists)
    c.in_ok-lists.ensures.joined c.requires ∙ sym (ap length (others_are c))

-- the properties that are left
left : (c : goal.After-drop-edges-2) → (c.clear.new.self.items ≡ [])
    × (map (λ (set : Vec AigEdge Global). set.items) c.clear-2.new.self.items ≡ [])
    × (c.clear-3.new.self.items ≡ [])
left c = (
  c.clear.ensures.items,
  ap (map (λ (set : Vec AigEdge Global). set.items)) c.clear-2.ensures.items,
  c.clear-3.ensures.items,
)

-- the lists that are returned, with these properties beside bad edges and constraints
abbrev with_properties : goal.After-drop-edges-2 → List AigEdge → List (List AigEdge)
    → List AigEdge → Circuit
with_properties c o j f = record (lists_circuit c.in_ok-lists.lists) {
  nodes = c.differences.new.nodes.items;
  properties = record {
    outputs = o;
    bads = c.in_ok-bads.bads.items;
    constraints = c.in_ok-lists.lists.properties.constraints.items;
    justice = j;
    fairness = f;
  };
}

pub returns-clause-miter : goal.returns-clause-miter
returns-clause-miter c =
    let a = c.args.a.now in
    let b = c.args.b.now in
    let lists = lists_circuit c.in_ok-lists.lists in
    let at = (goal.at.returns-clause-miter c).After-deref-2 in
    subst (IsMiter a b)
    (sym (λ i. with_properties c ((left c).0 i) ((left c).1 i) ((left c).2 i)))
    (IsMiter-made a b lists c.in_ok-lists.ensures.joined c.differences.new.nodes.items
    c.deref.result.now c.deref-2.result.now c.in_ok-bads.bads.items (edges_are at)
    (others_are at) c.in_ok-bads.ensures.gates c.in_ok-bads.ensures.steps)

pub returns-clause-circuit : goal.returns-clause-circuit
returns-clause-circuit c =
    subst IsCircuit (sym (λ i. with_properties c ((left c).0 i) ((left c).1 i) ((left c).2 i)))
    (IsCircuit-mitered (lists_circuit c.in_ok-lists.lists) c.in_ok-lists.ensures.circuit
    c.differences.new.nodes.items c.deref.result.now c.deref-2.result.now
    c.in_ok-bads.bads.items c.in_ok-bads.ensures.gates c.in_ok-bads.ensures.steps)
