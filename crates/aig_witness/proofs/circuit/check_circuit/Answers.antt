use Rattle.aig_base.proofs.Words.{◌≡◌, ◌<◌, ℕ, List, get_or, length, sym, ap, subst, ◌∙◌, arith, eqb-false, length-map}
use Rattle.std.specs.Prelude.{All, Vec}
use Rattle.std.specs.declared.alloc.Global.{Global}
use Rattle.aig_base.specs.declared.logic.three.Lbool.{Lbool}
use Rattle.aig_circuit.specs.declared.edge.AigEdge.{AigEdge}
use Rattle.aig_circuit.specs.declared.node.AigNode.{AigNode}
use Rattle.aig_circuit.specs.Circuit.{Circuit, IsInRange}
use Rattle.aig_ternary.specs.Ternary.{Simulation}
use Rattle.aig_witness.specs.Witness.{rows_of}
use Rattle.aig_witness.proofs.Simulated.{values-all}
use Rattle.aig_witness.proofs.circuit.check_circuit.Goals as goal

-- an edge of a list of edges that are there
in_range : (nodes : List AigNode) (edges list : List AigEdge) (i : ℕ) (d : AigEdge)
    (values : List Lbool) → All (IsInRange nodes) edges → list ≡ edges → i < length list
    → length values ≡ length nodes → (get_or list i d).node_id < length values
in_range nodes edges list i d values all is h long =
    let there : i < length edges = subst (λ (es : List AigEdge). i < length es) is h in
    let range : (get_or list i d).node_id < length nodes =
    subst (λ (es : List AigEdge). (get_or es i d).node_id < length nodes) (sym is)
    (all i d there) in
    omega arith

pub value-requires : goal.value-requires
value-requires c =
    let rows = rows_of c.args.witness.now.steps.items in
    let circuit = c.args.circuit.now in
    let many : length rows ≡ length c.args.witness.now.steps.items =
    length-map c.args.witness.now.steps.items (λ (list : Vec Lbool Global). list.items) in
    let none = eqb-false c.args.witness.now.steps.len 0 (sym c.is_empty.ensures
    ∙ c.if-is_empty.false) in
    let some : 0 < length rows = omega (arith, c.args.witness.now.steps.ok.0, many, none) in
    let same : c.new-simulation.result.circuit ≡ circuit = ap (λ (s : Simulation). s.circuit)
    c.new-simulation.ensures in
    let long : length c.check_steps.new.simulation.values ≡ length circuit.nodes =
    ap (λ (s : Simulation). length s.values) c.in_ok-check_steps.ensures.moved
    ∙ values-all c.new-simulation.result rows some ∙ ap (λ (d : Circuit). length d.nodes)
    same in
    in_range circuit.nodes circuit.properties.bads c.bads-bads.result.now c.args.witness.now.bad _
    c.check_steps.new.simulation.values c.bads-bads.ensures.circuit.properties.bads
    c.bads-bads.ensures.value c.if-named-bads.false long
