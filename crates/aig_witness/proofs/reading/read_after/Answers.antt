use Rattle.aig_lexer.specs.Takes.{feed}
use Rattle.aig_witness.proofs.Going.{gives_after, status_long, status_wrong}
use Rattle.aig_witness.proofs.reading.read_after.Goals as goal

pub returns-then-first-ne49 : goal.returns-then-first-ne49
returns-then-first-ne49 g c = status_wrong c.args.justice c.args.first c.if-first-ne49.true
    (feed g.R.Source.left g.R.Source.failed g.R.Source.pulls c.args.buffer.now c.args.r.now).coming

pub returns-then-not-branch : goal.returns-then-not-branch
returns-then-not-branch g c =
    status_long c.args.justice c.args.first c.if-first-ne49.false
    (feed g.R.Source.left g.R.Source.failed g.R.Source.pulls c.args.buffer.now c.args.r.now)
    (rw c.if-not-branch.true at c.in_ok-ends_line.ensures)

pub returns : goal.returns
returns g c =
    let now = feed g.R.Source.left g.R.Source.failed g.R.Source.pulls c.args.buffer.now
    c.args.r.now in
    let mid = feed g.R.Source.left g.R.Source.failed g.R.Source.pulls c.ends_line.new.buffer
    c.ends_line.new.r in
    let after = feed g.R.Source.left g.R.Source.failed g.R.Source.pulls c.read_parts.new.buffer
    c.read_parts.new.r in
    gives_after c.args.justice c.args.first c.if-first-ne49.false now mid
    (rw c.if-not-branch.false at c.in_ok-ends_line.ensures) after c.read_parts.result
    c.read_parts.ensures
