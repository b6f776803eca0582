use Rattle.aig_base.proofs.Words.{[], err_from_is_err_and}
use Rattle.aig_lexer.specs.Takes.{feed}
use Rattle.aig_lexer.proofs.Taking.{misses_both, misses_either, takes_both}
use Rattle.aig_witness.specs.Reading.{parse_row_after, parse_steps_after}
use Rattle.aig_witness.specs.Witness.{rows_of}
use Rattle.aig_lexer.proofs.Faults.{tells-weaker}
use Rattle.aig_witness.specs.Faults.{values_cause}
use Rattle.aig_witness.proofs.reading.read_values.Goals as goal

pub returns-in_err-state : goal.returns-in_err-state
returns-in_err-state g c =
    let p = err_from_is_err_and c.from_residual.result c.from_residual.ensures.1 in
    rw (p.1, p.2) (tells-weaker (values_cause c.in_err-state.field-0.0) _ _ _
    (misses_either (parse_row_after []) (λ _. parse_steps_after [] [])
    (feed g.R.Source.left g.R.Source.failed g.R.Source.pulls c.args.buffer.now c.args.r.now))
    c.in_err-state.ensures)

pub returns-in_err-steps : goal.returns-in_err-steps
returns-in_err-steps g c =
    let p = err_from_is_err_and c.from_residual-in_err-steps.result
    c.from_residual-in_err-steps.ensures.1 in
    let mid = feed g.R.Source.left g.R.Source.failed g.R.Source.pulls c.read_state.new.buffer
    c.read_state.new.r in
    rw (p.1, p.2) (tells-weaker (values_cause c.in_err-steps.field-0.0) _ _ _
    (misses_both (parse_row_after []) (λ _. parse_steps_after [] []) _ mid c.in_ok-state.state.items
    c.in_ok-state.ensures)
    c.in_err-steps.ensures)

pub returns : goal.returns
returns g c =
    let mid = feed g.R.Source.left g.R.Source.failed g.R.Source.pulls c.read_state.new.buffer
    c.read_state.new.r in
    let after = feed g.R.Source.left g.R.Source.failed g.R.Source.pulls c.read_steps.new.buffer
    c.read_steps.new.r in
    takes_both (parse_row_after []) (λ _. parse_steps_after [] []) _ mid after
    c.in_ok-state.state.items (rows_of c.in_ok-steps.steps.items) c.in_ok-state.ensures
    c.in_ok-steps.ensures
