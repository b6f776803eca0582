use Rattle.aig_base.proofs.Words.{◌≡◌, ◌+◌, ◌-◌, ◌*◌, get_or, length, ap, subst, ◌∙◌, arith, get_or_default}
use Rattle.aig_circuit.specs.Circuit.{IsCircuit}
use Rattle.aig_witness.proofs.Turning.{leaf_there, place_is, place_within}
use Rattle.aig_witness.proofs.solutions.places.Places.place.Goals as goal

pub index-turn-requires : goal.index-turn-requires
index-turn-requires g c =
    let inside = c.self.inside in
    let same : (g.C.HasLeaves.circuit inside.circuit.now) ≡ c.args.self.now = c.self.view_is in
    let there = leaf_there c.args.self.now (g.C.HasLeaves.circuit inside.circuit.now) (g.C.HasLeaves.circuit c.args.unrolled.now) inside.turns.items inside.others c.args.t c.args.n same c.self.invariant c.requires.leaf c.requires.step c.if-t-eq0.false (subst IsCircuit same c.inputs-before.ensures.circuit).nodes in
    omega (arith, there, inside.turns.ok.0)

pub overflow_add-result-2 : goal.overflow_add-result-2
overflow_add-result-2 g c =
    let inside = c.self.inside in
    let same : (g.C.HasLeaves.circuit inside.circuit.now) ≡ c.args.self.now = c.self.view_is in
    let there = leaf_there c.args.self.now (g.C.HasLeaves.circuit inside.circuit.now) (g.C.HasLeaves.circuit c.args.unrolled.now) inside.turns.items inside.others c.args.t c.args.n same c.self.invariant c.requires.leaf c.requires.step c.if-t-eq0.false (subst IsCircuit same c.inputs-before.ensures.circuit).nodes in
    let turn = c.index-turn.ensures ∙ get_or_default inside.turns.items c.args.n c.index-turn.result.now 0 there in
    let within = place_within c.args.self.now (g.C.HasLeaves.circuit inside.circuit.now) (g.C.HasLeaves.circuit c.args.unrolled.now) inside.turns.items inside.others c.args.t c.args.n same c.self.invariant c.requires.leaf c.requires.step c.if-t-eq0.false c.inputs-before.result.now c.inputs-before.ensures.value in
    omega (arith, turn, within, ap length c.inputs-inputs.ensures.value, c.inputs-inputs.type_inv.0)

pub offset_bounds-inputs-before : goal.offset_bounds-inputs-before
offset_bounds-inputs-before g c =
    let inside = c.self.inside in
    let same : (g.C.HasLeaves.circuit inside.circuit.now) ≡ c.args.self.now = c.self.view_is in
    let there = leaf_there c.args.self.now (g.C.HasLeaves.circuit inside.circuit.now) (g.C.HasLeaves.circuit c.args.unrolled.now) inside.turns.items inside.others c.args.t c.args.n same c.self.invariant c.requires.leaf c.requires.step c.if-t-eq0.false (subst IsCircuit same c.inputs-before.ensures.circuit).nodes in
    let turn = c.index-turn.ensures ∙ get_or_default inside.turns.items c.args.n c.index-turn.result.now 0 there in
    let within = place_within c.args.self.now (g.C.HasLeaves.circuit inside.circuit.now) (g.C.HasLeaves.circuit c.args.unrolled.now) inside.turns.items inside.others c.args.t c.args.n same c.self.invariant c.requires.leaf c.requires.step c.if-t-eq0.false c.inputs-before.result.now c.inputs-before.ensures.value in
    omega (arith, turn, within, ap length c.inputs-inputs.ensures.value, c.inputs-inputs.type_inv.1)

pub bounds-inputs-before : goal.bounds-inputs-before
bounds-inputs-before g c =
    let inside = c.self.inside in
    let same : (g.C.HasLeaves.circuit inside.circuit.now) ≡ c.args.self.now = c.self.view_is in
    let there = leaf_there c.args.self.now (g.C.HasLeaves.circuit inside.circuit.now) (g.C.HasLeaves.circuit c.args.unrolled.now) inside.turns.items inside.others c.args.t c.args.n same c.self.invariant c.requires.leaf c.requires.step c.if-t-eq0.false (subst IsCircuit same c.inputs-before.ensures.circuit).nodes in
    let turn = c.index-turn.ensures ∙ get_or_default inside.turns.items c.args.n c.index-turn.result.now 0 there in
    let within = place_within c.args.self.now (g.C.HasLeaves.circuit inside.circuit.now) (g.C.HasLeaves.circuit c.args.unrolled.now) inside.turns.items inside.others c.args.t c.args.n same c.self.invariant c.requires.leaf c.requires.step c.if-t-eq0.false c.inputs-before.result.now c.inputs-before.ensures.value in
    omega (arith, turn, within, ap length c.inputs-inputs.ensures.value)

pub returns : goal.returns
returns g c =
    let inside = c.self.inside in
    let same : (g.C.HasLeaves.circuit inside.circuit.now) ≡ c.args.self.now = c.self.view_is in
    let there = leaf_there c.args.self.now (g.C.HasLeaves.circuit inside.circuit.now) (g.C.HasLeaves.circuit c.args.unrolled.now) inside.turns.items inside.others c.args.t c.args.n same c.self.invariant c.requires.leaf c.requires.step c.if-t-eq0.false (subst IsCircuit same c.inputs-before.ensures.circuit).nodes in
    let turn = c.index-turn.ensures ∙ get_or_default inside.turns.items c.args.n c.index-turn.result.now 0 there in
    ap (λ m. get_or c.inputs-inputs.result.now (length c.inputs-before.result.now + (c.args.t - 1) * inside.others + m) 0) turn
    ∙ ap (λ ns. get_or ns (length c.inputs-before.result.now + (c.args.t - 1) * inside.others + get_or inside.turns.items c.args.n 0) 0) c.inputs-inputs.ensures.value
    ∙ place_is c.args.self.now (g.C.HasLeaves.circuit inside.circuit.now) (g.C.HasLeaves.circuit c.args.unrolled.now) inside.turns.items inside.others c.args.t c.args.n same c.self.invariant c.requires.leaf c.requires.step c.if-t-eq0.false c.inputs-before.result.now c.inputs-before.ensures.value
