use Rattle.std.proofs.Common.{[], ◌∷◌, refl}
use Rattle.aig_lexer.specs.Takes.{feed}
use Rattle.aig_lexer.proofs.Going.{goes_byte, goes_end, goes_start}
use Rattle.aig_witness.specs.Faults.{values_cause}
use Rattle.aig_witness.specs.Reading.{parse_row_after}
use Rattle.aig_witness.proofs.Going.{gives_rest, row_cut}
use Rattle.aig_witness.proofs.reading.read_state.Goals as goal

pub returns-in_default : goal.returns-in_default
returns-in_default g c =
    goes_end (parse_row_after []) (parse_row_after []) _ _
    (feed g.R.Source.left g.R.Source.failed g.R.Source.pulls c.next.new.self c.next.new.r)
    c.in_ok-first.field-0 (goes_start (parse_row_after [])
    (feed g.R.Source.left g.R.Source.failed g.R.Source.pulls c.args.buffer.now c.args.r.now))
    c.in_ok-first.ensures.steps c.in_default.is (row_cut [])

pub returns : goal.returns
returns g c =
    gives_rest values_cause _ (parse_row_after []) (λ bs. parse_row_after [] (c.in-Some.first ∷ bs)) _ _ _
    c.read_row.result
    (goes_byte (parse_row_after []) (parse_row_after []) (λ bs. parse_row_after []
    (c.in-Some.first ∷ bs)) _ _ (feed g.R.Source.left g.R.Source.failed g.R.Source.pulls
    c.next.new.self c.next.new.r) c.in_ok-first.field-0 c.in-Some.first
    (goes_start (parse_row_after []) (feed g.R.Source.left g.R.Source.failed g.R.Source.pulls
    c.args.buffer.now c.args.r.now)) c.in_ok-first.ensures.steps c.in-Some.is (λ bs. refl))
    c.read_row.ensures
