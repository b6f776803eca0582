use Rattle.aig_base.proofs.Words.{◌≡◌, ◌+◌, ◌++◌, ◌∷◌, ◌∙◌, [], ap, length, length-append, rules}
use Rattle.std.specs.Prelude.{Contains}
use Rattle.aig_handles.proofs.Marks.{marks_more}
use Rattle.aig_handles.proofs.cones.marks_of.Goals as goal

pub loop-node-preserved : goal.loop-node-preserved
loop-node-preserved c =
    let marks = c.loop-node.marks.items in let mark = c.is_in.result in
    let pushed : c.push.new.self.items ≡ marks ++ mark ∷ [] = search rules in
    let long = ap length pushed ∙ length-append marks (mark ∷ [])
    ∙ ap (λ k. k + 1) c.loop-node.invariant.0 in (
      long,
      marks_more marks c.push.new.self.items mark (Contains c.args.cone.now.keys)
          c.loop-node.node c.loop-node.invariant.0 pushed c.loop-node.invariant.1 c.is_in.ensures,
    )
