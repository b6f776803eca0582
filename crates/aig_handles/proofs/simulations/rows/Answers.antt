use Rattle.aig_base.proofs.Words.{◌≡◌, ◌+◌, ◌-◌, All, All-push, Global, List, Vec, [], ◌∷◌, ◌++◌, length, map, sym, ap, ap₂, subst, ◌∙◌, arith, append-nil, length-map, map-append}
use Rattle.aig_base.specs.declared.logic.three.Lbool.{Lbool}
use Rattle.aig_handles.specs.Simulating.{rows_of, values_of}
use Rattle.aig_handles.proofs.Rows.{rest_more, row_more}
use Rattle.aig_handles.proofs.simulations.rows.Goals as goal

pub loop-step-preserved : goal.loop-step-preserved
loop-step-preserved c =
    let list = λ (row : Vec Lbool Global). row.items in
    let count = c.args.count in
    let so_far = c.loop-step.invariant in
    let rest = c.loop-step.rest.now in
    let left = c.args.steps - (c.loop-step.step + 1) in
    let before = map list c.loop-step.rows.items in
    let row = c.in_ok-values_of.ensures ∙ ap values_of c.split_at.ensures.front in
    let pushed = map-append list c.loop-step.rows.items (c.in_ok-values_of.field-0 ∷ []) in
    let rows = ap (map list) c.in_ok-push.ensures.items ∙ pushed ∙ ap (λ r. before ++ r ∷ []) row in
    let more = ap (λ rest. rows_of count left (values_of rest)) c.split_at.ensures.back in
    record {
      rows = ap₂ (λ a b. a ++ b) rows more
          ∙ row_more count c.args.steps c.loop-step.step c.loop-step-test.true rest before _ so_far.rows;
      rest = ap length c.split_at.ensures.back
          ∙ rest_more count c.args.steps c.loop-step.step c.loop-step-test.true rest so_far.rest;
      counts =
          let Counted = λ (row : Vec Lbool Global). length row.items ≡ count in
          let long = ap length c.in_ok-values_of.ensures ∙ length-map c.split_at.result.0.now _ in
          let all = All-push Counted c.loop-step.rows.items c.in_ok-values_of.field-0 so_far.counts in
          subst (All Counted) (sym c.in_ok-push.ensures.items) (all (long ∙ c.split_at.ensures.front_len));
    }

pub returns : goal.returns
returns c =
    let none : c.args.steps - c.loop-step.step ≡ 0 = omega (arith, c.loop-step-test.false) in
    let rows = map (λ (row : Vec Lbool Global). row.items) c.loop-step.rows.items in
    record {
      rows = sym (append-nil rows)
          ∙ ap (λ n. rows ++ rows_of c.args.count n (values_of c.loop-step.rest.now)) (sym none)
          ∙ c.loop-step.invariant.rows;
      counts = c.loop-step.invariant.counts;
    }
