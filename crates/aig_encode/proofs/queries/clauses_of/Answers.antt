use Rattle.aig_base.proofs.Words.{◌≡◌, ◌+◌, ◌-◌, ◌*◌, ◌<◌, ◌^◌, List, length, drop, sym, ap, ap₂, subst, ◌∙◌, arith, length-drop, IfOk, take_all, IfOk-weaker, All-drop, All-same, All-take}
use Rattle.aig_base.specs.Clauses.{AreBelow}
use Rattle.aig_circuit.specs.declared.edge.AigEdge.{AigEdge}
use Rattle.aig_circuit.specs.declared.node.AigLatch.{AigLatch}
use Rattle.aig_runs.proofs.Below.{edges_there, latchs_there, query_below}
use Rattle.aig_runs.specs.Queries.{asking_clauses, last_bads, IsThere}
use Rattle.aig_encode.proofs.Bads.{bads_room}
use Rattle.aig_encode.proofs.queries.clauses_of.Goals as goal

pub overflow_mul-first : goal.overflow_mul-first
overflow_mul-first c =
    let room = bads_room c.args.circuit.now c.args.unrolled.now c.args.k _ _ c.requires.steps
    c.bads.ensures.value c.bads-bads.ensures.value in
    omega (arith, room, c.bads-bads.type_inv.0)

pub offset_bounds-bads-first : goal.offset_bounds-bads-first
offset_bounds-bads-first c =
    let room = bads_room c.args.circuit.now c.args.unrolled.now c.args.k _ _ c.requires.steps
    c.bads.ensures.value c.bads-bads.ensures.value in
    omega (arith, room, c.bads-bads.type_inv.1)

pub slice_bounds-query_clauses-count : goal.slice_bounds-query_clauses-count
slice_bounds-query_clauses-count c =
    let room = bads_room c.args.circuit.now c.args.unrolled.now c.args.k _ _ c.requires.steps
    c.bads.ensures.value c.bads-bads.ensures.value in
    omega (arith, room)

pub slice_bounds-query_clauses-start : goal.slice_bounds-query_clauses-start
slice_bounds-query_clauses-start c =
    let room = bads_room c.args.circuit.now c.args.unrolled.now c.args.k _ _ c.requires.steps
    c.bads.ensures.value c.bads-bads.ensures.value in
    omega (arith, room)

pub query_clauses-requires-clause-latchs : goal.query_clauses-requires-clause-latchs
query_clauses-requires-clause-latchs c =
    let is = latchs_there c.args.circuit.now c.latchs.ensures.circuit (2 ^ 31)
    (omega (arith, c.requires.few, c.requires.steps.keeps.nodes.longer)) in
    All-same (IsThere (2 ^ 31)) c.latchs.result.now c.args.circuit.now.latchs c.latchs.ensures.value
    is

pub query_clauses-requires-clause-constraints : goal.query_clauses-requires-clause-constraints
query_clauses-requires-clause-constraints c =
    let unrolled = c.args.unrolled.now in
    All-same (λ (e : AigEdge). e.node_id < 2 ^ 31) c.constraints.result.now
    unrolled.properties.constraints c.constraints.ensures.value
    (edges_there unrolled.nodes (2 ^ 31) c.requires.few unrolled.properties.constraints
    c.constraints.ensures.circuit.properties.constraints)

pub query_clauses-requires-clause-bads : goal.query_clauses-requires-clause-bads
query_clauses-requires-clause-bads c =
    let Few = λ (e : AigEdge). e.node_id < 2 ^ 31 in
    let unrolled = c.args.unrolled.now in
    let are = edges_there unrolled.nodes (2 ^ 31) c.requires.few unrolled.properties.bads
    c.bads-bads.ensures.circuit.properties.bads in
    All-take Few _ _ (All-drop Few _ _ (All-same Few c.bads-bads.result.now unrolled.properties.bads
    c.bads-bads.ensures.value are))

pub returns-clause-exact : goal.returns-clause-exact
returns-clause-exact c =
    let made = c.query_clauses.result in
    let constraints = c.args.unrolled.now.properties.constraints in
    let bads = last_bads c.args.circuit.now c.args.k c.args.unrolled.now in
    let first = c.args.k * length c.bads.result.now in
    let cut = take_all (length c.bads-bads.result.now - first) (drop first c.bads-bads.result.now)
    (simp length-drop (omega arith)) in
    let last = cut ∙ ap₂ (λ (es fs : List AigEdge). drop (c.args.k * length es) fs)
    c.bads.ensures.value c.bads-bads.ensures.value in
    subst (λ (ls : List AigLatch). IfOk made (λ extra. extra ≡ asking_clauses ls constraints bads))
    c.latchs.ensures.value
    (subst (λ (es : List AigEdge). IfOk made (λ extra. extra ≡ asking_clauses c.latchs.result.now es
    bads)) c.constraints.ensures.value
    (subst (λ (es : List AigEdge). IfOk made (λ extra. extra ≡ asking_clauses c.latchs.result.now
    c.constraints.result.now es)) last c.query_clauses.ensures))

pub returns-clause-below : goal.returns-clause-below
returns-clause-below c =
    IfOk-weaker c.query_clauses.result _ _ (λ extra is. subst
    (AreBelow (length c.args.unrolled.now.nodes)) (sym is)
    (query_below c.args.circuit.now c.args.k c.args.unrolled.now c.latchs.ensures.circuit
    c.constraints.ensures.circuit c.requires.steps.keeps.nodes.longer)) (returns-clause-exact c)
