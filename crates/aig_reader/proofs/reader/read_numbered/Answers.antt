use Rattle.aig_base.proofs.Words.{◌≡◌, prepend_known, prepend_known-nil}
use Rattle.aig_format.proofs.Words.{Accepts}
use Rattle.aig_reader.specs.Reading.{IsNumberedOf}
use Rattle.aig_reader.proofs.Accepting.{judged, never_open}
use Rattle.aig_reader.proofs.Verdicts.{judged_at_end, taken_at_end}
use Rattle.aig_reader.proofs.reader.read_numbered.Goals as goal
use Rattle.aig_reader.proofs.reader.read_numbered.Goals.{After-new-buffer}
use Rattle.aig_reader.proofs.reader.read_numbered.Given as given

-- nothing is held at first
at_first : (g : given.Over) (c : After-new-buffer g)
    → prepend_known c.new-buffer.result (g.R.Source.left c.args.r.now)
    ≡ g.R.Source.left c.args.r.now
at_first g c = rw c.new-buffer.ensures (prepend_known-nil (g.R.Source.left c.args.r.now))

pub returns-clause-circuit : goal.returns-clause-circuit
returns-clause-circuit g c =
    let start = at_first g (goal.at.returns-clause-circuit g c).After-new-buffer in
    rw (← start) (taken_at_end _ _ _ (λ bytes. Accepts bytes c.args.limit) IsNumberedOf _
    c.read_by.result c.read_by.ensures.whole c.read_by.ensures.circuit)

pub returns-clause-verdict : goal.returns-clause-verdict
returns-clause-verdict g c =
    let start = at_first g (goal.at.returns-clause-verdict g c).After-new-buffer in
    rw (← start) (judged_at_end _ _ _ _ _ _ _ (judged c.args.limit _ _ _ IsNumberedOf
    c.read_by.result c.read_by.ensures.circuit c.read_by.ensures.whole c.read_by.ensures.refusal))

pub returns-clause-never_open : goal.returns-clause-never_open
returns-clause-never_open g c = never_open _ c.args.limit _ _
    c.read_by.result c.read_by.ensures.refusal
