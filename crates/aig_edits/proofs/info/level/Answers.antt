use Rattle.aig_base.proofs.Words.{◌≡◌, ◌≤◌, ◌∙◌, Some, refl, sym, inl, inr, arith, slice_index}
use Rattle.aig_circuit.specs.declared.node.AigNodeType.TheVariants.{And, False, Leaf}
use Rattle.aig_circuit.specs.Node.{kind_at}
use Rattle.aig_circuit.proofs.Trees.{kind_at-read}
use Rattle.aig_edits.proofs.Depths.{level-gate, level-other, short_path}
use Rattle.aig_edits.proofs.info.level.Goals as goal

pub overflow_add-result : goal.overflow_add-result
overflow_add-result c =
    let nodes = c.args.nodes.now in
    let sound = c.requires.nodes.ordered in
    let a = c.in-And.fanin0 in
    let b = c.in-And.fanin1 in
    let is : kind_at nodes c.args.n ≡ Some (And a b) = kind_at-read nodes c.args.n _ _
    c.requires.there (sym c.in-And.is ∙ c.typ.ensures) in
    let below = sound.second_before c.args.n a b is in
    let level = c.requires.levels.each b.node_id below in
    rw c.node_id-in-And.ensures (omega (
      arith,
      c.ranges.n.fits,
      short_path nodes sound _ b.node_id
          level.path,
      below,
    ))

pub overflow_add-result-else-first-second : goal.overflow_add-result-else-first-second
overflow_add-result-else-first-second c =
    let nodes = c.args.nodes.now in
    let sound = c.requires.nodes.ordered in
    let a = c.in-And.fanin0 in
    let b = c.in-And.fanin1 in
    let is : kind_at nodes c.args.n ≡ Some (And a b) = kind_at-read nodes c.args.n _ _
    c.requires.there (sym c.in-And.is ∙ c.typ.ensures) in
    let below = sound.first_before c.args.n a b is in
    let level = c.requires.levels.each a.node_id below in
    rw c.node_id.ensures (omega (
      arith,
      c.ranges.n.fits,
      short_path nodes sound _ a.node_id
          level.path,
      below,
    ))

pub returns-then-first-second : goal.returns-then-first-second
returns-then-first-second c =
    let nodes = c.args.nodes.now in
    let levels = c.args.levels.now in
    let sound = c.requires.nodes.ordered in
    let a = c.in-And.fanin0 in
    let b = c.in-And.fanin1 in
    let is : kind_at nodes c.args.n ≡ Some (And a b) = kind_at-read nodes c.args.n _ _
    c.requires.there (sym c.in-And.is ∙ c.typ.ensures) in
    let low = c.requires.levels.each a.node_id (sound.first_before c.args.n a b is) in
    let high = c.requires.levels.each b.node_id (sound.second_before c.args.n a b is) in
    let less = rw (c.node_id.ensures, c.node_id-in-And.ensures) at c.if-first-second.true in
    let below : slice_index levels a.node_id ≤ slice_index levels b.node_id = omega (arith, less) in
    rw c.node_id-in-And.ensures (level-gate nodes sound c.args.n (slice_index levels b.node_id) a b
    _ _ is low high below (omega arith) (inr refl))

pub returns-else-first-second : goal.returns-else-first-second
returns-else-first-second c =
    let nodes = c.args.nodes.now in
    let levels = c.args.levels.now in
    let sound = c.requires.nodes.ordered in
    let a = c.in-And.fanin0 in
    let b = c.in-And.fanin1 in
    let is : kind_at nodes c.args.n ≡ Some (And a b) = kind_at-read nodes c.args.n _ _
    c.requires.there (sym c.in-And.is ∙ c.typ.ensures) in
    let low = c.requires.levels.each a.node_id (sound.first_before c.args.n a b is) in
    let high = c.requires.levels.each b.node_id (sound.second_before c.args.n a b is) in
    let no_less = rw (c.node_id.ensures, c.node_id-in-And.ensures) at c.if-first-second.false in
    let below : slice_index levels b.node_id ≤ slice_index levels a.node_id = omega (arith, no_less)
    in
    rw c.node_id.ensures (level-gate nodes sound c.args.n (slice_index levels a.node_id) a b _ _ is
    low high (omega arith) below (inl refl))

pub returns-in-False : goal.returns-in-False
returns-in-False c =
    let nodes = c.args.nodes.now in
    let ordered = c.requires.nodes.ordered in
    let n = c.args.n in
    elim c.in-False.is [
      | inl is ↦ level-other nodes ordered n False (kind_at-read nodes n _ False c.requires.there
          (sym is ∙ c.typ.ensures)) (λ a b same. cc)
      | inr is ↦ level-other nodes ordered n Leaf (kind_at-read nodes n _ Leaf c.requires.there (sym
          is ∙ c.typ.ensures)) (λ a b same. cc)
    ]
