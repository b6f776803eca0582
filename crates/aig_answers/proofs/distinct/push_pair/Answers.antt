use Rattle.aig_answers.proofs.Words.{◌≡◌, ◌<◌, ◌^◌, [], ◌∷◌, ◌++◌, length, refl, ap, ◌∙◌, arith, All-get_or, on_ok_weaker, AigEdge}
use Rattle.aig_answers.proofs.Growing.{difference_step, pair_done, variables_step}
use Rattle.aig_answers.proofs.distinct.push_pair.Goals as goal

pub loop-i-preserved : goal.loop-i-preserved
loop-i-preserved c =
    let n = c.args.first in
    let i = c.loop-i.i in
    let before = c.loop-i.invariant in
    let low : i < length c.args.xs.now = omega arith in
    let also : i < length c.args.ys.now = omega arith in
    let at = c.new-var.ensures in
    record {
      extra = difference_step _ c.args.extra.now c.loop-i.extra n _ i c.args.xs.now c.args.ys.now _ _ _ _ low also at refl refl before.extra c.in_ok-push_difference.ensures;
      some = variables_step _ c.loop-i.some.items n _ i at before.some (c.in_ok-push.ensures.items ∙ ap (λ x. c.loop-i.some.items ++ x ∷ []) c.lit.ensures);
    }

pub push_difference-requires-clause-x : goal.push_difference-requires-clause-x
push_difference-requires-clause-x c = All-get_or (λ (e : AigEdge). e.node_id < 2 ^ 31) c.args.xs.now c.loop-i.i _ c.loop-i-test.true c.requires.xs

pub push_difference-requires-clause-y : goal.push_difference-requires-clause-y
push_difference-requires-clause-y c = All-get_or (λ (e : AigEdge). e.node_id < 2 ^ 31) c.args.ys.now c.loop-i.i _ (omega arith) c.requires.ys

pub returns : goal.returns
returns c =
    let end : c.loop-i.i ≡ length c.args.xs.now = omega arith in
    let before = c.loop-i.invariant in
    on_ok_weaker c.push-2.result (pair_done _ c.args.extra.now c.loop-i.extra _ c.args.first c.loop-i.i c.args.xs.now c.args.ys.now end c.requires.long before.extra (c.deref.ensures.value ∙ before.some)) c.push-2.ensures.ok
