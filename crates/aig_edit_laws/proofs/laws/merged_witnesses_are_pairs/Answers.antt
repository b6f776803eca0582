use Rattle.aig_edit_laws.proofs.Paired.{merged_witnesses}
use Rattle.aig_edit_laws.proofs.laws.merged_witnesses_are_pairs.Goals as goal

pub returns : goal.returns
returns c = λ first second k is other.
    merged_witnesses c.leaves_fix_values.ensures first second is other (c.merging_pairs_runs.ensures first second is other) k
