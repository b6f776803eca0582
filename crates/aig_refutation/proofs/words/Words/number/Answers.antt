use Rattle.aig_refutation.proofs.NearNumbers.{near_number}
use Rattle.aig_refutation.proofs.words.Words.number.Goals as goal

pub returns-clause-number : goal.returns-clause-number
returns-clause-number g c =
    let near = rw (← c.self.view_is) at c.in-Some.ensures in
    rw (← c.self.view_is, near.goes_on, c.consume.ensures)
    (near_number g.R.Source.left g.R.Source.failed g.R.Source.pulls c.args.r.now
    c.self.inside.buffer c.in-Some.found.count c.in-Some.found.positive c.in-Some.found.value
    (rw c.if-found-eq32.true at near.reads))
