use Rattle.aig_answers.proofs.Words.{◌≡◌, suc, ◌+◌, ◌*◌, ◌<◌, ◌≤◌, ◌^◌, ◌++◌, refl, ap, sym, ◌∙◌, arith, add-mul, mul-le-mul_right, All-drop, All-same, All-take, AigEdge, apart_clauses, pair_clauses, state_at}
use Rattle.aig_answers.proofs.Asking.{pair_cut}
use Rattle.aig_answers.proofs.Growing.{more_step}
use Rattle.aig_answers.proofs.distinct.push_apart.Goals as goal

pub state_of-before-requires : goal.state_of-before-requires
state_of-before-requires c =
    let rows : (c.loop-s.s + 1) * c.args.latchs ≤ (c.args.t + 1) * c.args.latchs = mul-le-mul_right c.args.latchs (omega arith) in
    omega (arith, rows, c.requires.there)

pub overflow_mul-s : goal.overflow_mul-s
overflow_mul-s c =
    let rows : c.loop-s.s * c.args.latchs ≤ c.args.t * c.args.latchs = mul-le-mul_right c.args.latchs (omega arith) in
    omega (arith, rows, c.requires.room)

pub overflow_add-first : goal.overflow_add-first
overflow_add-first c =
    let rows : c.loop-s.s * c.args.latchs ≤ c.args.t * c.args.latchs = mul-le-mul_right c.args.latchs (omega arith) in
    omega (arith, rows, c.requires.room)

pub push_pair-requires-clause-room : goal.push_pair-requires-clause-room
push_pair-requires-clause-room c =
    let s = c.loop-s.s in
    let l = c.args.latchs in
    let rows : (s + 1) * l ≤ c.args.t * l = mul-le-mul_right l (omega arith) in
    omega (arith, rows, add-mul s 1 l, c.state_of-before.ensures.count, c.requires.room)

pub push_pair-requires-clause-long : goal.push_pair-requires-clause-long
push_pair-requires-clause-long c = c.state_of-state.ensures.count ∙ sym c.state_of-before.ensures.count

pub push_pair-requires-clause-xs : goal.push_pair-requires-clause-xs
push_pair-requires-clause-xs c =
    let Few = λ (e : AigEdge). e.node_id < 2 ^ 31 in
    All-same Few _ (state_at c.args.latchs c.args.edges.now c.loop-s.s) c.state_of-before.ensures.state (All-take Few _ _ (All-drop Few _ _ c.requires.edges))

pub push_pair-requires-clause-ys : goal.push_pair-requires-clause-ys
push_pair-requires-clause-ys c =
    let Few = λ (e : AigEdge). e.node_id < 2 ^ 31 in
    All-same Few _ (state_at c.args.latchs c.args.edges.now c.args.t) c.state_of-state.ensures.state (All-take Few _ _ (All-drop Few _ _ c.requires.edges))

pub loop-s-preserved : goal.loop-s-preserved
loop-s-preserved c =
    let n = c.args.first in
    let s = c.loop-s.s in
    let t = c.args.t in
    let l = c.args.latchs in
    let edges = c.args.edges.now in
    let next : suc s ≡ s + 1 = omega arith in
    let pair = pair_cut _ c.loop-s.extra _ (n + s * l) l s t edges _ _ c.in_ok-push_pair.ensures refl c.state_of-before.ensures.state c.state_of-state.ensures.state in
    more_step _ c.args.extra.now c.loop-s.extra (apart_clauses n l edges t s) (pair_clauses (n + s * l) (state_at l edges s) (state_at l edges t)) c.loop-s.invariant pair
    ∙ ap (λ m. c.args.extra.now ++ apart_clauses n l edges t m) next
