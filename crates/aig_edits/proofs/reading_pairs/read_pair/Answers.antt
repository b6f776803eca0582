use Rattle.aig_edits.proofs.Reading.{both_read}
use Rattle.aig_edits.proofs.reading_pairs.read_pair.Goals as goal

pub returns-in-Ok : goal.returns-in-Ok
returns-in-Ok g c =
    let own = c.in_ok-own.ensures in
    let other = c.in-Ok.ensures in
    both_read g.R.Source.left g.R.Source.failed g.S.Source.left g.S.Source.failed c.args.limit
    c.args.first.now c.args.second.now _ _ c.in_ok-own.own c.in-Ok.other own.verdict other.verdict
    own.circuit other.circuit
