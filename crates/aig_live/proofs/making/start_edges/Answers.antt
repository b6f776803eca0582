use Rattle.std.proofs.Common.{ℕ, ◌<◌, false, length, None, ◌+◌, arith, subst, sym, ◌∙◌, ap}
use Rattle.aig_circuit.specs.declared.edge.AigEdge.{AigEdge}
use Rattle.aig_circuit.proofs.Words.{GivesEdge, edge_to}
use Rattle.aig_live.specs.Making.{choice_of, latch_at, start_of}
use Rattle.aig_live.proofs.Made.{GivesEach-more, choice_old}
use Rattle.aig_live.proofs.making.start_edges.Goals as goal

pub choice-requires-clause-sound : goal.choice-requires-clause-sound
choice-requires-clause-sound c = c.loop-i.invariant.gates.grows.sound

pub choice-requires-clause-which : goal.choice-requires-clause-which
choice-requires-clause-which c =
    let longer = c.loop-i.invariant.gates.grows.longer in omega (arith, longer, c.requires.saved)

pub choice-requires-clause-then : goal.choice-requires-clause-then
choice-requires-clause-then c =
    let longer = c.loop-i.invariant.gates.grows.longer in
    subst (λ (e : AigEdge). e.node_id < length c.loop-i.nodes.items) (sym c.from.ensures)
    (let low : c.args.leaf + c.loop-i.i < length c.loop-i.nodes.items = omega
    (arith, longer, c.requires.leaves, c.loop-i-test.true) in low)

pub choice-requires-clause-other : goal.choice-requires-clause-other
choice-requires-clause-other c =
    let longer = c.loop-i.invariant.gates.grows.longer in
    subst (λ (e : AigEdge). e.node_id < length c.loop-i.nodes.items) (sym c.from-in-loop-i.ensures)
    (subst (λ (n : ℕ). n < length c.loop-i.nodes.items) (sym c.input.ensures)
    (let at = c.requires.latches c.loop-i.i
    (record { input = 0; next = edge_to 0 false; init = None }) c.loop-i-test.true in omega
    (arith, longer, at)))

pub loop-i-preserved : goal.loop-i-preserved
loop-i-preserved c =
    let old = c.args.nodes.now.items in
    let mid = c.loop-i.nodes.items in
    let new = c.choice.new.nodes.items in
    let start = edge_to (c.args.leaf + c.loop-i.i) false in
    let own = edge_to (latch_at c.args.latchs.now c.loop-i.i).input false in
    let at = c.requires.latches c.loop-i.i
    (record { input = 0; next = edge_to 0 false; init = None }) c.loop-i-test.true in
    let own_is = c.from-in-loop-i.ensures ∙ ap (λ (n : ℕ). edge_to n false) c.input.ensures in
    GivesEach-more 3 old mid new (start_of old c.args.saved c.args.leaf c.args.latchs.now)
    c.loop-i.i
    c.loop-i.made.items c.push.new.self.items c.in_ok-start.start c.loop-i.invariant
    c.in_ok-start.ensures.gates c.in_ok-start.ensures.few
    (choice_old old mid new c.args.saved start own c.in_ok-start.start c.requires.sound
    c.loop-i.invariant.gates.grows c.requires.saved
    (omega (arith, c.requires.leaves, c.loop-i-test.true)) at
    (subst (λ (e : AigEdge). GivesEdge new
    (choice_of mid c.args.saved start e) c.in_ok-start.start) own_is
    (subst (λ (e : AigEdge). GivesEdge new
    (choice_of mid c.args.saved e c.from-in-loop-i.result) c.in_ok-start.start) c.from.ensures
    c.in_ok-start.ensures.gives)))
    c.in_ok-push.ensures.items
