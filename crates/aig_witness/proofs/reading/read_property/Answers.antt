use Rattle.aig_base.proofs.Words.{err_from_is_err_and}
use Rattle.aig_format.specs.Parse.{parse_ended}
use Rattle.aig_lexer.specs.Takes.{feed}
use Rattle.aig_lexer.proofs.Faults.{tells-weaker}
use Rattle.aig_lexer.proofs.Taking.{misses_both, misses_either, takes_both}
use Rattle.aig_witness.specs.Faults.{property_cause}
use Rattle.aig_witness.specs.Reading.{parse_kind}
use Rattle.aig_witness.proofs.reading.read_property.Goals as goal

pub returns-in_err-kind : goal.returns-in_err-kind
returns-in_err-kind g c =
    let p = err_from_is_err_and c.from_residual.result c.from_residual.ensures.1 in
    rw (p.1, p.2) (tells-weaker (property_cause c.in_err-kind.field-0.0) _ _ _
    (misses_either (parse_kind c.args.justice) (λ _. parse_ended 10)
    (feed g.R.Source.left g.R.Source.failed g.R.Source.pulls c.args.buffer.now c.args.r.now))
    c.in_err-kind.ensures)

pub returns-in-Ok : goal.returns-in-Ok
returns-in-Ok g c =
    let mid = feed g.R.Source.left g.R.Source.failed g.R.Source.pulls c.read_kind.new.buffer
    c.read_kind.new.r in
    let after = feed g.R.Source.left g.R.Source.failed g.R.Source.pulls c.ended.new.buffer
    c.ended.new.r in
    takes_both (parse_kind c.args.justice) (λ _. parse_ended 10) _ mid after c.in_ok-kind.kind
    c.in-Ok.number c.in_ok-kind.ensures c.in-Ok.ensures

pub returns-in-Err-Shape : goal.returns-in-Err-Shape
returns-in-Err-Shape g c =
    let mid = feed g.R.Source.left g.R.Source.failed g.R.Source.pulls c.read_kind.new.buffer
    c.read_kind.new.r in
    misses_both (parse_kind c.args.justice) (λ _. parse_ended 10) _ mid c.in_ok-kind.kind
    c.in_ok-kind.ensures (rw c.in-Err-Shape.field-0-is at c.in-Err-Shape.ensures)
