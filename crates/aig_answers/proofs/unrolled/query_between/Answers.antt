use Rattle.aig_answers.proofs.Words.{◌≡◌, ◌-◌, ◌*◌, ◌<◌, ◌^◌, List, length, take, drop, sym, ap, ap₂, subst, ◌∙◌, arith, length-drop, take_all, All-drop, All-same, All-take, AreBelow, AigEdge, edges_there, latchs_there, query_below, AigLatch, AsksOfCircuit, asking_clauses, IsThere, query_clauses, bads_room}
use Rattle.aig_answers.proofs.unrolled.query_between.Goals as goal

pub overflow_mul-first : goal.overflow_mul-first
overflow_mul-first c =
    let room = bads_room c.args.circuit.now c.args.unrolled.now c.args.k _ _ c.requires.unrolls
    c.bads.ensures.value c.bads-bads.ensures.value in
    omega (arith, room, c.bads-bads.type_inv.0)

pub offset_bounds-bads-first : goal.offset_bounds-bads-first
offset_bounds-bads-first c =
    let room = bads_room c.args.circuit.now c.args.unrolled.now c.args.k _ _ c.requires.unrolls
    c.bads.ensures.value c.bads-bads.ensures.value in
    omega (arith, room, c.bads-bads.type_inv.1)

pub slice_bounds-query_clauses-count : goal.slice_bounds-query_clauses-count
slice_bounds-query_clauses-count c =
    let room = bads_room c.args.circuit.now c.args.unrolled.now c.args.k _ _ c.requires.unrolls
    c.bads.ensures.value c.bads-bads.ensures.value in
    omega (arith, room)

pub slice_bounds-query_clauses-start : goal.slice_bounds-query_clauses-start
slice_bounds-query_clauses-start c =
    let room = bads_room c.args.circuit.now c.args.unrolled.now c.args.k _ _ c.requires.unrolls
    c.bads.ensures.value c.bads-bads.ensures.value in
    omega (arith, room)

pub query_clauses-requires-clause-latchs : goal.query_clauses-requires-clause-latchs
query_clauses-requires-clause-latchs c =
    let steps = c.requires.unrolls in
    let is = latchs_there c.args.circuit.now c.latchs.ensures.circuit (2 ^ 31)
    (omega (arith, c.requires.few, steps.keeps.nodes.longer)) in
    All-same (IsThere (2 ^ 31)) c.latchs.result.now c.args.circuit.now.latchs c.latchs.ensures.value
    is

pub query_clauses-requires-clause-constraints : goal.query_clauses-requires-clause-constraints
query_clauses-requires-clause-constraints c =
    let u = c.args.unrolled.now in
    let are = edges_there u.nodes (2 ^ 31) (omega (arith, c.requires.few)) u.properties.constraints
    c.constraints.ensures.circuit.properties.constraints in
    All-same (λ (e : AigEdge). e.node_id < 2 ^ 31) c.constraints.result.now u.properties.constraints
    c.constraints.ensures.value are

pub query_clauses-requires-clause-bads : goal.query_clauses-requires-clause-bads
query_clauses-requires-clause-bads c =
    let Few = λ (e : AigEdge). e.node_id < 2 ^ 31 in
    let u = c.args.unrolled.now in
    let are = edges_there u.nodes (2 ^ 31) (omega (arith, c.requires.few)) u.properties.bads
    c.bads-bads.ensures.circuit.properties.bads in
    All-take Few _ _ (All-drop Few _ _ (All-same Few c.bads-bads.result.now u.properties.bads
    c.bads-bads.ensures.value are))

pub returns : goal.returns
returns c =
    let circuit = c.args.circuit.now in
    let u = c.args.unrolled.now in
    let lists = c.in_ok-clauses.clauses in
    let made = c.in_ok-clauses.ensures in
    let steps = c.requires.unrolls in
    let first = c.args.k * length c.bads.result.now in
    let left = length c.bads-bads.result.now - first in
    let part = take left (drop first c.bads-bads.result.now) in
    let cut = take_all left (drop first c.bads-bads.result.now) (simp length-drop (omega arith)) in
    let last = cut ∙ ap₂ (λ (es fs : List AigEdge). drop (c.args.k * length es) fs)
    c.bads.ensures.value c.bads-bads.ensures.value in
    let exact : c.in_ok-extra.extra ≡ query_clauses circuit c.args.k u = c.in_ok-extra.ensures
    ∙ ap (λ (ls : List AigLatch). asking_clauses ls c.constraints.result.now part)
    c.latchs.ensures.value
    ∙ ap₂ (λ (es fs : List AigEdge). asking_clauses circuit.latchs es fs)
    c.constraints.ensures.value last in
    record {
      steps = steps;
      has_clauses = made.clauses;
      fixes = made.fixes;
      satisfied = made.satisfied;
      asks = subst (AsksOfCircuit circuit c.args.k u lists) (sym exact)
          (c.circuit_queries_ask.ensures circuit u c.args.k lists c.latchs.ensures.circuit
          steps made.fixes made.satisfied);
      below = subst (λ n. AreBelow n c.in_ok-extra.extra) (sym made.clauses.count)
          (subst (AreBelow (length u.nodes)) (sym exact)
          (query_below circuit c.args.k u c.latchs.ensures.circuit c.constraints.ensures.circuit
          steps.keeps.nodes.longer));
    }
