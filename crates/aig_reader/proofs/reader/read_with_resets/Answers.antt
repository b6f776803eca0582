use Rattle.aig_base.proofs.Words.{◌≡◌, Ok, err_from_is_err_and, prepend_known, prepend_known-nil}
use Rattle.aig_reader.specs.Resets.{AcceptsWithResets, AreListsWithResets}
use Rattle.aig_reader.proofs.Told.{lists_read}
use Rattle.aig_reader.proofs.Verdicts.{taken_at_end, whole_at_end}
use Rattle.aig_reader.proofs.reader.read_with_resets.Goals as goal
use Rattle.aig_reader.proofs.reader.read_with_resets.Goals.{After-new-buffer}
use Rattle.aig_reader.proofs.reader.read_with_resets.Given as given

-- nothing is held at first
at_first : (g : given.Over) (c : After-new-buffer g)
    → prepend_known c.new-buffer.result (g.R.Source.left c.args.r.now)
    ≡ g.R.Source.left c.args.r.now
at_first g c = rw c.new-buffer.ensures (prepend_known-nil (g.R.Source.left c.args.r.now))

pub returns-in_err-read-clause-refusal : goal.returns-in_err-read-clause-refusal
returns-in_err-read-clause-refusal g c =
    let start = at_first g (goal.at.returns-in_err-read-clause-refusal g c).After-new-buffer in
    let p = err_from_is_err_and c.from_residual.result c.from_residual.ensures.1 in
    rw (p.1, p.2, ← start) c.in_err-read.ensures.refusal

pub returns-clause-circuit : goal.returns-clause-circuit
returns-clause-circuit g c =
    let start = at_first g (goal.at.returns-clause-circuit g c).After-new-buffer in
    rw (← start) (taken_at_end _ _ _ (AcceptsWithResets c.args.limit) AreListsWithResets _
    (Ok c.in_ok-read.read.lists) c.in_ok-read.ensures.whole
    (lists_read AreListsWithResets _ _ c.in_ok-read.read c.in_ok-read.ensures.circuit))

pub returns-clause-whole : goal.returns-clause-whole
returns-clause-whole g c = whole_at_end (g.R.Source.left c.args.r.now) _ _ _
    (Ok c.in_ok-read.read.lists) c.in_ok-read.ensures.whole
