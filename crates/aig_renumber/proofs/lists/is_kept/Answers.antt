use Rattle.aig_renumber.proofs.Kept.{is_in-test}
use Rattle.aig_renumber.proofs.lists.is_kept.Goals as goal

pub returns : goal.returns
returns c = is_in-test c.args.numbers.now c.args.kept.now c.requires.places c.args.n c.requires.there
