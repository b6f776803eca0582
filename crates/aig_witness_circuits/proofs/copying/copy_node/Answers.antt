use Rattle.aig_witness_circuits.proofs.Words.{AigEdge, AigNodeType, FoldsOrAdds, IfOk-weaker, Some, [], frame_in, image_in, subst, sym, with_copy, ◌++◌, ◌∙◌, ◌∷◌, ◌≡◌}
use Rattle.aig_witness_circuits.proofs.Exactly.{image_made}
use Rattle.aig_witness_circuits.proofs.copying.copy_node.Goals as goal

pub returns-in-And : goal.returns-in-And
returns-in-And c =
    let old = c.args.nodes.now.items in
    let new = c.new_and_node.new.nodes.items in
    let images = c.args.images.now in
    let given = c.args.given in
    IfOk-weaker c.new_and_node.result _ _
    (λ e rule.
    subst (λ (kind : AigNodeType). frame_in new (images ++ e ∷ [])
    ≡ with_copy given (Some kind) (frame_in old images)) (sym c.in-And.is ∙ c.typ.ensures)
    (image_made old new images given c.in-And.fanin0 c.in-And.fanin1 e
    (subst (λ (b : AigEdge). FoldsOrAdds old new (image_in images c.in-And.fanin0) b e)
    c.image_of-second.ensures
    (subst (λ (a : AigEdge). FoldsOrAdds old new a c.image_of-second.result e)
    c.image_of-first.ensures rule)))) c.new_and_node.ensures.rule
