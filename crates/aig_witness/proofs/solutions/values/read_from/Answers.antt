use Rattle.std.proofs.Common.{sym, ◌∙◌}
use Rattle.aig_lexer.specs.Takes.{feed}
use Rattle.aig_witness.proofs.ValueLines.{from_end, from_word}
use Rattle.aig_witness.proofs.solutions.values.read_from.Goals as goal

pub returns-in-Some : goal.returns-in-Some
returns-in-Some g c = rw c.reached_by.ensures
    (from_end (feed g.R.Source.left g.R.Source.failed g.R.Source.pulls c.args.buffer.now
    c.args.r.now) c.args.values.now c.args.first c.in-Some.end (sym c.end_of.ensures
    ∙ c.in-Some.is))

pub returns-in-None : goal.returns-in-None
returns-in-None g c = from_word (feed g.R.Source.left g.R.Source.failed g.R.Source.pulls
    c.args.buffer.now c.args.r.now) (feed g.R.Source.left g.R.Source.failed g.R.Source.pulls
    c.read_literal.new.buffer c.read_literal.new.r) c.args.values.now c.read_literal.new.values
    c.args.first c.read_literal.result (sym c.end_of.ensures ∙ c.in-None.is) c.read_literal.ensures
