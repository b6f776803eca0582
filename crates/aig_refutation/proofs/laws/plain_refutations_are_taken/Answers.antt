use Rattle.aig_refutation.specs.Forms.{plain_steps_in}
use Rattle.aig_refutation.proofs.Plainly.{refutation_taken}
use Rattle.aig_refutation.proofs.laws.plain_refutations_are_taken.Goals as goal

pub returns : goal.returns
returns c variables clauses bytes e =
    let script = plain_steps_in variables bytes in
    refutation_taken clauses script.steps script.fault e
