use Rattle.aig_base.proofs.Words.{◌≡◌, prepend_known, prepend_known-nil}
use Rattle.aig_reader.specs.Reading.{AreListsOf}
use Rattle.aig_reader.proofs.Verdicts.{judged_at_end, read_at_end}
use Rattle.aig_reader.proofs.reader.read.Goals as goal
use Rattle.aig_reader.proofs.reader.read.Goals.{After-new-buffer}
use Rattle.aig_reader.proofs.reader.read.Given as given

-- nothing is held at first
at_first : (g : given.Over) (c : After-new-buffer g)
    → prepend_known c.new-buffer.result (g.R.Source.left c.args.r.now)
    ≡ g.R.Source.left c.args.r.now
at_first g c = rw c.new-buffer.ensures (prepend_known-nil (g.R.Source.left c.args.r.now))

pub returns-clause-circuit : goal.returns-clause-circuit
returns-clause-circuit g c =
    let start = at_first g (goal.at.returns-clause-circuit g c).After-new-buffer in
    rw (← start) (read_at_end _ _ _ _ _ _ AreListsOf c.read_with.result c.read_with.ensures.verdict c.read_with.ensures.circuit)

pub returns-clause-verdict : goal.returns-clause-verdict
returns-clause-verdict g c =
    let start = at_first g (goal.at.returns-clause-verdict g c).After-new-buffer in
    rw (← start) (judged_at_end _ _ _ _ _ _ _ c.read_with.ensures.verdict)
