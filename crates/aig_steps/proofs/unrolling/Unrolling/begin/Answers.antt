use Rattle.aig_base.proofs.Words.{◌∷◌, [], ap, ◌∙◌}
use Rattle.aig_unroll.proofs.NoStep.{unrolls-none}
use Rattle.aig_steps.proofs.Kept.{kept_first}
use Rattle.aig_steps.proofs.unrolling.Unrolling.begin.Goals as goal

pub invariant_of-result : goal.invariant_of-result
invariant_of-result c =
    let circuit = c.args.circuit.now in
    let is = c.num_nodes.ensures.circuit in
    kept_first circuit c.in_ok-clone.field-0 c.in_ok-clone-2.field-0 c.in_ok-vec.field-0.items
    c.in_ok-clone.ensures.cases c.in_ok-clone-2.ensures.cases is (unrolls-none circuit is)
    c.requires (c.in_ok-vec.ensures.items ∙ ap (λ n. n ∷ []) c.num_nodes.ensures.value)
