use Rattle.aig_witness_circuits.proofs.Words.{AigEdge, AigNodeType, And, False, Frame, HasImage, IfAnd, IfSome, IsInRange, Leaf, None, Some, [], ap, arith, cases_lt, frame_in, get_or, get_or_past, given_at, inl, inr, kind_at, kind_at-read, length, refl, subst, sym, with_copy, ℕ, ◌++◌, ◌<◌, ◌∙◌, ◌∷◌, ◌≡◌, ◌≤◌, ◌⊎◌}
use Rattle.aig_unroll.proofs.Added.{no_node}
use Rattle.aig_witness_circuits.proofs.Copied.{Copies, copied}
use Rattle.aig_witness_circuits.proofs.Exactly.{frame_more}
use Rattle.aig_witness_circuits.proofs.copying.copy_nodes.Goals as goal
use Rattle.aig_witness_circuits.proofs.copying.copy_nodes.Goals.{At-loop-id}

-- what is given is there
given_there : (c : At-loop-id) → (n : ℕ) (e : AigEdge) → given_at c.args.given.now n ≡ Some e
    → IsInRange c.args.nodes.now.items e
given_there c n e is = by (cases_lt n (length c.args.given.now))
  where
    by : (n < length c.args.given.now) ⊎ (length c.args.given.now ≤ n)
        → IsInRange c.args.nodes.now.items e
    by (inl h) =
        subst (λ g. IfSome g (IsInRange c.args.nodes.now.items)) is (c.requires.there n None h)
    by (inr h) = (let wrong = sym (get_or_past c.args.given.now n None h) ∙ is in absurd cc)

-- the first nodes have their images
so_far : (c : At-loop-id) → Copies c.args.source.now c.requires.source (given_at c.args.given.now)
    c.args.nodes.now.items c.requires.sound (given_there c)
    (frame_in c.loop-id.nodes.items c.loop-id.images.items) c.loop-id.id
so_far c =
    subst (λ (f : Frame). Copies c.args.source.now c.requires.source (given_at c.args.given.now)
    c.args.nodes.now.items c.requires.sound (given_there c) f c.loop-id.id)
    (sym c.loop-id.invariant)
    (copied c.args.source.now c.requires.source (given_at c.args.given.now)
    c.args.nodes.now.items c.requires.sound (given_there c) c.loop-id.id c.loop-id.auto.id-end)

pub copy_node-requires-clause-sound : goal.copy_node-requires-clause-sound
copy_node-requires-clause-sound c =
    (so_far (goal.at.copy_node-requires-clause-sound c).At-loop-id).grows.sound

pub copy_node-requires-clause-operands : goal.copy_node-requires-clause-operands
copy_node-requires-clause-operands c =
    let i = c.loop-id.id in
    let kind = (get_or c.args.source.now i no_node).typ in
    subst (λ l. IfAnd kind (HasImage c.loop-id.nodes.items l)) (sym c.deref.ensures.value)
    (by kind (kind_at-read c.args.source.now i no_node kind c.loop-id-test.true refl))
  where
    copies : Copies c.args.source.now c.requires.source (given_at c.args.given.now)
        c.args.nodes.now.items c.requires.sound
        (given_there (goal.at.copy_node-requires-clause-operands c).At-loop-id)
        (frame_in c.loop-id.nodes.items c.loop-id.images.items) c.loop-id.id
    copies = so_far (goal.at.copy_node-requires-clause-operands c).At-loop-id

    has : (n : ℕ) → n < c.loop-id.id → HasImage c.loop-id.nodes.items c.loop-id.images.items n
    has n h = (omega (arith, h, copies.count), copies.there n h)

    by : (kind : AigNodeType) → kind_at c.args.source.now c.loop-id.id ≡ Some kind
        → IfAnd kind (HasImage c.loop-id.nodes.items c.loop-id.images.items)
    by False at = tt
    by Leaf at = tt
    by (And a b) at = (
      has a.node_id (c.requires.source.ordered.first_before c.loop-id.id a b at),
      has b.node_id (c.requires.source.ordered.second_before c.loop-id.id a b at),
    )

pub loop-id-preserved : goal.loop-id-preserved
loop-id-preserved c =
    let source = c.args.source.now in
    let given = given_at c.args.given.now in
    let mid = c.loop-id.nodes.items in
    let new = c.copy_node.new.nodes.items in
    let images = c.loop-id.images.items in
    let i = c.loop-id.id in
    let e = c.in_ok-image.image in
    let kind = (get_or source i no_node).typ in
    ap (frame_in new) c.in_ok-push.ensures.items
    ∙ frame_more source given c.args.nodes.now.items mid new images i e kind
    (kind_at-read source i no_node kind c.loop-id-test.true refl) c.loop-id.invariant
    (subst (λ l. frame_in new (l ++ e ∷ []) ≡ with_copy (given i) (Some kind) (frame_in mid l))
    c.deref.ensures.value c.in_ok-image.ensures)

pub returns-clause-sound : goal.returns-clause-sound
returns-clause-sound c = (so_far (goal.at.returns-clause-sound c).At-loop-id).grows.sound

pub returns-clause-count : goal.returns-clause-count
returns-clause-count c =
    omega (
      arith,
      (so_far (goal.at.returns-clause-count c).At-loop-id).count,
      c.loop-id-test.false,
      c.loop-id.auto.id-end,
    )
