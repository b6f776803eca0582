use Rattle.aig_lexer.specs.Takes.{feed}
use Rattle.aig_witness.specs.Witness.{claim_by}
use Rattle.aig_witness.proofs.Going.{ends_in, takes_in}
use Rattle.aig_witness.proofs.reading.read_witness.Goals as goal

pub returns-in-Some : goal.returns-in-Some
returns-in-Some g c =
    takes_in _ (feed g.R.Source.left g.R.Source.failed g.R.Source.pulls c.read_claim.new.buffer
    c.read_claim.new.r) (claim_by c.in-Some.claim) (rw c.in-Some.is at c.in_ok-claim.ensures)

pub returns-in-None : goal.returns-in-None
returns-in-None g c =
    ends_in _ (feed g.R.Source.left g.R.Source.failed g.R.Source.pulls c.read_claim.new.buffer
    c.read_claim.new.r) (rw c.in-None.is at c.in_ok-claim.ensures)
