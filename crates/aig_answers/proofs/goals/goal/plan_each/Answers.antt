use Rattle.std.proofs.Common.{[], ◌∷◌, ◌++◌, ◌∙◌, arith, sym}
use Rattle.std.proofs.lemmas.List.FromFn.{map-range_with_len_more}
use Rattle.aig_answers.proofs.Words.{ap₂, asked_with}
use Rattle.aig_answers.specs.declared.plans.asking.Ask.TheVariants as asks
use Rattle.aig_answers.proofs.goals.goal.plan_each.Goals as goal

pub loop-n-preserved : goal.loop-n-preserved
loop-n-preserved c = (
  c.push_reserved.ensures.items
      ∙ ap₂ (λ xs x. xs ++ x ∷ []) c.loop-n.invariant.0 c.asked_with.ensures
      ∙ sym (map-range_with_len_more (λ n. asked_with c.args.base_optimize (asks.Step n)) 0
      c.loop-n.n c.loop-n.n (omega arith)),
  omega arith,
)
