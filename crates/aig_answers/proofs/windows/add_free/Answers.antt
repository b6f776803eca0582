use Rattle.std.proofs.Common.{◌≡◌, ◌++◌, length, ap, ◌∙◌, arith}
use Rattle.aig_answers.proofs.Growing.{free, free_length, free_step}
use Rattle.aig_answers.proofs.windows.add_free.Goals as goal

pub new_var-requires : goal.new_var-requires
new_var-requires c =
    let at = ap length c.loop.invariant ∙ free_length c.args.clauses.now c.loop.counter in
    omega (arith, at, c.loop-test.true, c.requires)

pub loop-preserved : goal.loop-preserved
loop-preserved c = free_step _ c.args.clauses.now c.loop.clauses c.loop.counter 1 c.loop.invariant c.in_ok-new_var.ensures.ok

pub returns : goal.returns
returns c =
    let end : c.loop.counter ≡ c.args.count = omega arith in
    c.loop.invariant ∙ ap (λ n. c.args.clauses.now ++ free n) end
