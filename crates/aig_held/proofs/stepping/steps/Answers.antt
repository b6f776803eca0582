use Rattle.aig_base.proofs.Words.{Global, List, Vec, ◌++◌, map, ap, ap₂, ◌∙◌, arith, inr, take_all}
use Rattle.aig_base.specs.declared.logic.three.Lbool.{Lbool}
use Rattle.aig_held.specs.Moments.{simulation_then}
use Rattle.aig_ternary.specs.Step.{value_by}
use Rattle.aig_ternary.specs.Ternary.{simulation_of, stepped, stepped_all, values_in}
use Rattle.aig_held.proofs.Moving.{step_more}
use Rattle.aig_held.proofs.stepping.steps.Goals as goal

pub loop-row-preserved : goal.loop-row-preserved
loop-row-preserved c =
    let list = λ (row : Vec Lbool Global). row.items in
    let aig = c.args.aig.now in
    let is = c.in_ok-now.ensures in
    let row = c.as_slice-in-loop-row.ensures.value ∙ ap list c.row-item.is in
    let from = λ (state inputs : List Lbool). stepped (simulation_of aig state) inputs in
    let moves = is.stepped ∙ ap₂ from c.as_slice.ensures.value row in
    let values = c.as_slice-in-loop-row-2.ensures.value in
    let value = c.edge_value.ensures ∙ ap (λ vs. value_by vs c.args.e) values in (
      step_more list c.args.rows.now c.loop-row.row-index c.row-item.result c.loop-row-test.true
          c.args.e _ (simulation_then aig c.loop-row.now) _ _ _ _ _ c.loop-row.invariant.0 moves value
          c.in_ok-push.ensures.items,
      (is.state, inr is.values),
    )

pub returns : goal.returns
returns c =
    let first = simulation_then c.args.aig.now c.args.first in
    let after = c.loop-row.invariant.0 in
    let whole = take_all c.loop-row.row-index c.args.rows.now (omega (arith, c.loop-row-test.false)) in
    let all = ap (map (λ (row : Vec Lbool Global). row.items)) whole in
    record {
      last = c.loop-row.invariant.1;
      moved = after.moved ∙ ap (stepped_all first) all;
      answered = after.answered
          ∙ ap (λ rows. c.args.answers.now.items ++ values_in c.args.e first rows) all;
    }
