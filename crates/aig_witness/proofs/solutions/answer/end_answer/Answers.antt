use Rattle.aig_lexer.specs.Takes.{feed}
use Rattle.aig_witness.proofs.AnswerLines.{line_ended, stream_ended}
use Rattle.aig_witness.proofs.solutions.answer.end_answer.Goals as goal

pub returns-in-Line : goal.returns-in-Line
returns-in-Line g c = rw c.in-Line.is
    (line_ended (feed g.R.Source.left g.R.Source.failed g.R.Source.pulls c.args.buffer.now
    c.args.r.now))

pub returns-in-Stream : goal.returns-in-Stream
returns-in-Stream g c = rw c.in-Stream.is
    (stream_ended (feed g.R.Source.left g.R.Source.failed g.R.Source.pulls c.args.buffer.now
    c.args.r.now))
