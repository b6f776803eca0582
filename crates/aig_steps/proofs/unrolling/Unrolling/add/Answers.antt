use Rattle.aig_base.proofs.Words.{◌++◌, ◌∷◌, [], ap, ◌∙◌}
use Rattle.aig_steps.proofs.Kept.{kept_next}
use Rattle.aig_steps.proofs.unrolling.Unrolling.add.Goals as goal

pub invariant_of-self-2 : goal.invariant_of-self-2
invariant_of-self-2 c =
    let inside = c.self.inside in
    kept_next inside.circuit inside.unrolled inside.ends.items c.args.self.now c.self.invariant
    c.self.view_is c.unroll.new.self c.push_reserved.new.self.items
    c.in_ok-unroll.ensures.unrolls c.num_nodes.ensures.circuit c.requires
    (c.push_reserved.ensures.items ∙ ap (λ l. l ++ c.num_nodes.result ∷ []) c.reserve.ensures.items
    ∙ ap (λ n. inside.ends.items ++ n ∷ []) c.num_nodes.ensures.value)
