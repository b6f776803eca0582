use Rattle.aig_answers.proofs.Words.{◌≡◌, suc, ◌+◌, ◌*◌, ◌≤◌, ◌++◌, sym, ap, ◌∙◌, arith, add-mul, mul-le-mul_right, apart_clauses, count_pairs, pairwise_clauses}
use Rattle.aig_answers.proofs.Growing.{more_step}
use Rattle.aig_answers.proofs.Pairs.{pairs_next, some_latches}
use Rattle.aig_answers.proofs.distinct.push_distinct.Goals as goal

pub push_apart-requires-clause-room : goal.push_apart-requires-clause-room
push_apart-requires-clause-room c =
    omega (arith, c.loop-t.invariant.next, pairs_next c.loop-t.t c.args.steps c.args.latchs c.loop-t-test.true, c.requires.room)

pub overflow_add-next : goal.overflow_add-next
overflow_add-next c =
    omega (arith, c.loop-t.invariant.next, pairs_next c.loop-t.t c.args.steps c.args.latchs c.loop-t-test.true, c.requires.room)

pub loop-t-preserved : goal.loop-t-preserved
loop-t-preserved c =
    let n = c.args.first in
    let t = c.loop-t.t in
    let l = c.args.latchs in
    let before = c.loop-t.invariant in
    let next : suc t ≡ t + 1 = omega arith in
    let pairs : count_pairs t * l + t * l ≡ count_pairs (t + 1) * l = sym (add-mul (count_pairs t) t l) ∙ ap (λ m. count_pairs m * l) next in
    record {
      next = omega (arith, before.next, pairs);
      extra =
          more_step _ c.args.extra.now c.loop-t.extra (pairwise_clauses n l c.args.edges.now t) (apart_clauses (n + count_pairs t * l) l c.args.edges.now t t) before.extra
          (c.in_ok-push_apart.ensures ∙ ap (λ m. c.loop-t.extra ++ apart_clauses m l c.args.edges.now t t) before.next)
          ∙ ap (λ m. c.args.extra.now ++ pairwise_clauses n l c.args.edges.now m) next;
    }

pub push_apart-requires-clause-there : goal.push_apart-requires-clause-there
push_apart-requires-clause-there c =
    let rows : (c.loop-t.t + 1) * c.args.latchs ≤ c.args.steps * c.args.latchs = mul-le-mul_right c.args.latchs (omega arith) in
    omega (arith, rows, c.requires.there)

pub returns : goal.returns
returns c =
    let end : c.loop-t.t ≡ c.args.steps = omega arith in
    c.loop-t.invariant.extra ∙ ap (λ t. c.args.extra.now ++ pairwise_clauses c.args.first c.args.latchs c.args.edges.now t) end
    ∙ ap (λ all. c.args.extra.now ++ all) (some_latches c.args.first c.args.latchs c.args.edges.now c.args.steps c.if-latchs-eq0.false)
