use Rattle.aig_lexer.specs.Takes.{feed}
use Rattle.aig_witness.proofs.ValueLines.{line_stream}
use Rattle.aig_witness.proofs.solutions.reading.read_value_line.Goals as goal

pub returns-in-Stream : goal.returns-in-Stream
returns-in-Stream g c = line_stream c.args.is_answered
    (feed g.R.Source.left g.R.Source.failed g.R.Source.pulls c.args.buffer.now c.args.r.now)
    (feed g.R.Source.left g.R.Source.failed g.R.Source.pulls c.read_values.new.buffer
    c.read_values.new.r) c.args.values.now c.read_values.new.values c.wrong_end.result
    c.wrong_end.ensures (rw c.in-Stream.is at c.in_ok-read_values.ensures.values)
