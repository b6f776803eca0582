use Rattle.std.proofs.lemmas.Result.{err_from_is_err_and}
use Rattle.aig_lexer.specs.Takes.{feed}
use Rattle.aig_lexer.proofs.Taking.{takes_both}
use Rattle.aig_witness.specs.Reading.{parse_property, parse_values}
use Rattle.aig_witness.specs.Witness.{rows_of}
use Rattle.aig_witness.specs.declared.witness.PropertyKind.TheVariants.{Bad}
use Rattle.aig_witness.proofs.Going.{property_fault, values_fault}
use Rattle.aig_witness.proofs.reading.read_parts.Goals as goal

pub returns-in_err-kind : goal.returns-in_err-kind
returns-in_err-kind g c =
    let p = err_from_is_err_and c.from_residual.result c.from_residual.ensures.1 in
    let before = feed g.R.Source.left g.R.Source.failed g.R.Source.pulls c.args.buffer.now
    c.args.r.now in
    rw (p.1, p.2) (property_fault c.args.justice before before (Bad, 0) _ c.in_err-kind.field-0.0
    c.in_err-kind.ensures)

pub returns-in_err-state : goal.returns-in_err-state
returns-in_err-state g c =
    let p = err_from_is_err_and c.from_residual-in_err-state.result
    c.from_residual-in_err-state.ensures.1 in
    let before = feed g.R.Source.left g.R.Source.failed g.R.Source.pulls c.args.buffer.now
    c.args.r.now in
    let mid = feed g.R.Source.left g.R.Source.failed g.R.Source.pulls c.read_property.new.buffer
    c.read_property.new.r in
    rw (p.1, p.2) (values_fault c.args.justice before mid (c.in_ok-kind.kind, c.in_ok-kind.bad) _ c.in_err-state.field-0.0
    c.in_ok-kind.ensures c.in_err-state.ensures)

pub returns : goal.returns
returns g c =
    let mid = feed g.R.Source.left g.R.Source.failed g.R.Source.pulls c.read_property.new.buffer
    c.read_property.new.r in
    let after = feed g.R.Source.left g.R.Source.failed g.R.Source.pulls c.read_values.new.buffer
    c.read_values.new.r in
    takes_both (parse_property c.args.justice) (λ _. parse_values) _ mid after
    (c.in_ok-kind.kind, c.in_ok-kind.bad)
    (c.in_ok-state.state.items, rows_of c.in_ok-state.steps.items) c.in_ok-kind.ensures
    c.in_ok-state.ensures
