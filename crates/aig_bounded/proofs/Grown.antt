-- What is made of a netlist is the netlist itself, or has more nodes.
use Rattle.aig_base.proofs.Words.{◌≡◌, ◌≢◌, ◌⊎◌, ℕ, zero, suc, ◌<◌, ◌≤◌, Bool, true, false, Option, Some, None, List, [], ◌∷◌, length, map, length-append, refl, ap, ◌∙◌, inl, inr, arith, cases_lt}
use Rattle.aig_circuit.specs.declared.edge.AigEdge.{AigEdge}
use Rattle.aig_circuit.specs.declared.node.AigNodeType.{AigNodeType}
use Rattle.aig_circuit.specs.declared.node.AigNodeType.TheVariants.{And, False, Leaf}
use Rattle.aig_circuit.proofs.Words.{Circuit, and_of, edge_to, inverse, kind_at}
use Rattle.aig_unroll.specs.Frame.{folded, image_in}
use Rattle.aig_bounded.specs.declared.place.Place.{Place}
use Rattle.aig_bounded.specs.Exact.{Checks, Frame, frame_to, image_if, leaf_image, node_image, with_checks}
use Rattle.aig_bounded.specs.Shared.{Made, Netlist, gate_among, made_by, made_in, shared_and, shared_ands, shared_or, shared_ors}

-- the netlist is the same, or has more nodes
abbrev pub IsSameOrLarger : Netlist → Netlist → Type 0
IsSameOrLarger old new = (new ≡ old) ⊎ (length old.nodes < length new.nodes)

larger-then : (old mid new : Netlist) → IsSameOrLarger old mid → IsSameOrLarger mid new
    → IsSameOrLarger old new
larger-then old mid new (inl p) (inl q) = inl (q ∙ p)
larger-then old mid new (inl p) (inr q) = inr
    (omega (arith, q, ap (λ (n : Netlist). length n.nodes) p))
larger-then old mid new (inr p) (inl q) = inr
    (omega (arith, p, ap (λ (n : Netlist). length n.nodes) q))
larger-then old mid new (inr p) (inr q) = inr (omega (arith, p, q))

-- it has no fewer nodes
pub no_fewer : (old new : Netlist) → IsSameOrLarger old new → length old.nodes ≤ length new.nodes
no_fewer old new (inl is) = omega (arith, ap (λ (n : Netlist). length n.nodes) is)
no_fewer old new (inr more) = omega (arith, more)

-- and with no more it is the same
pub same_netlist : (old new : Netlist) → IsSameOrLarger old new
    → length new.nodes ≤ length old.nodes → new ≡ old
same_netlist old new (inl is) few = is
same_netlist old new (inr more) few = absurd (omega (arith, more, few))

-- ---- gates

made_by-larger : (o : Option AigEdge) (there : Option ℕ) (kind : AigNodeType) (net : Netlist)
    → IsSameOrLarger net (made_by o there kind net).net
made_by-larger (Some e) there kind net = inl refl
made_by-larger None (Some n) kind net = inl refl
made_by-larger None None kind net =
    inr (omega (
      arith,
      length-append net.nodes
          (record { node_id = length net.nodes; typ = kind } ∷ []),
    ))

shared_and-larger : (net : Netlist) (a b : AigEdge) → IsSameOrLarger net (shared_and net a b).net
shared_and-larger net a b =
    made_by-larger (folded a b) (gate_among net.nodes (and_of a b)) (and_of a b) net

shared_ands-larger : (made : Made) (es : List AigEdge)
    → IsSameOrLarger made.net (shared_ands made es).net
shared_ands-larger made [] = inl refl
shared_ands-larger made (e ∷ es) =
    let one = shared_and made.net made.edge e in
    larger-then made.net one.net (shared_ands one es).net (shared_and-larger made.net made.edge e)
    (shared_ands-larger one es)

shared_ors-larger : (made : Made) (es : List AigEdge)
    → IsSameOrLarger made.net (shared_ors made es).net
shared_ors-larger made [] = inl refl
shared_ors-larger made (e ∷ es) =
    let one = shared_or made.net made.edge e in
    larger-then made.net one.net (shared_ors one es).net
    (shared_and-larger made.net (inverse made.edge) (inverse e)) (shared_ors-larger one es)

-- the checks with one step more
pub with_checks-larger : (c : Circuit) (images : List AigEdge) (before : Checks)
    → IsSameOrLarger before.net (with_checks c images before).net
with_checks-larger c images before =
    let within = shared_ands (made_in before.net before.within)
    (map (image_in images) c.properties.constraints) in
    let bad = shared_ors (made_in within.net (edge_to 0 false))
    (map (image_in images) c.properties.bads) in
    let now = shared_and bad.net within.edge bad.edge in
    let all = shared_or now.net before.reached now.edge in
    let by_bad = larger-then before.net within.net bad.net
    (shared_ands-larger (made_in before.net before.within)
    (map (image_in images) c.properties.constraints))
    (shared_ors-larger (made_in within.net (edge_to 0 false))
    (map (image_in images) c.properties.bads)) in
    let by_now = larger-then before.net bad.net now.net by_bad
    (shared_and-larger bad.net within.edge bad.edge) in
    larger-then before.net now.net all.net by_now
    (shared_and-larger now.net (inverse before.reached) (inverse now.edge))

-- ---- images

leaf_image-larger : (state : Option AigEdge) (place : Place) (net : Netlist)
    → IsSameOrLarger net (leaf_image state place net).net
leaf_image-larger (Some e) place net = inl refl
leaf_image-larger None place net =
    inr (omega (
      arith,
      length-append net.nodes
          (record { node_id = length net.nodes; typ = Leaf } ∷ []),
    ))

image_if-larger : (b : Bool) (state : Option AigEdge) (images : List AigEdge) (place : Place)
    (kind : Option AigNodeType) (net : Netlist)
    → IsSameOrLarger net (image_if b state images place kind net).net
image_if-larger false state images place kind net = inl refl
image_if-larger true state images place None net = inl refl
image_if-larger true state images place (Some False) net = inl refl
image_if-larger true state images place (Some Leaf) net = leaf_image-larger state place net
image_if-larger true state images place (Some (And a b)) net =
    shared_and-larger net (image_in images a) (image_in images b)

module _ (c : Circuit) (t : ℕ) (read : ℕ → Bool) (state : ℕ → Option AigEdge) (net : Netlist) where
  abbrev frame : ℕ → Frame
  frame n = frame_to c t read state net n

  frame-next : (n : ℕ) → IsSameOrLarger (frame n).net (frame (suc n)).net
  frame-next n =
      image_if-larger (read n) (state n) (frame n).images (record { step = t; leaf = n })
      (kind_at c.nodes n) (frame n).net

  frame-larger : (n : ℕ) → IsSameOrLarger net (frame n).net
  frame-larger zero = inl refl
  frame-larger (suc n) = larger-then net (frame n).net (frame (suc n)).net (frame-larger n)
      (frame-next n)

  frame-longer : (n m : ℕ) → n ≤ m → length (frame n).net.nodes ≤ length (frame m).net.nodes
  frame-longer n zero h =
      let is : n ≡ zero = omega arith in omega (arith, ap (λ k. length (frame k).net.nodes) is)
  frame-longer n (suc m) h = by (cases_lt n (suc m)) (λ low. frame-longer n m low)
    where
      by : (n < suc m) ⊎ (suc m ≤ n)
          → (n ≤ m → length (frame n).net.nodes ≤ length (frame m).net.nodes)
          → length (frame n).net.nodes ≤ length (frame (suc m)).net.nodes
      by (inl low) longer =
          omega (
            arith,
            longer (omega arith),
            no_fewer (frame m).net (frame (suc m)).net
                (frame-next m),
          )
      by (inr high) longer =
          let is : n ≡ suc m = omega arith in omega (arith, ap (λ k. length (frame k).net.nodes) is)

  -- where the images of all nodes add none
  module _ (count : ℕ) (still : length (frame count).net.nodes ≤ length net.nodes) where
    -- nor do those of the first ones
    pub frame_still : (n : ℕ) → n ≤ count → (frame n).net ≡ net
    frame_still n h =
        same_netlist net (frame n).net (frame-larger n)
        (omega (arith, frame-longer n count h, still))

    -- and each leaf that is read has a state
    pub state_there : (n : ℕ) → n < count → read n ≡ true → kind_at c.nodes n ≡ Some Leaf
        → state n ≢ None
    state_there n h r leaf none =
        let place : Place = record { step = t; leaf = n } in
        let opened : (frame (suc n)).net ≡ (leaf_image None place (frame n).net).net =
        ap (λ b. (image_if b (state n) (frame n).images place (kind_at c.nodes n)
        (frame n).net).net) r
        ∙ ap (λ s. (node_image s (frame n).images place (kind_at c.nodes n) (frame n).net).net) none
        ∙ ap (λ k. (node_image None (frame n).images place k (frame n).net).net) leaf in
        omega (
          arith,
          ap (λ (m : Netlist). length m.nodes) opened,
          length-append (frame n).net.nodes
              (record { node_id = length (frame n).net.nodes; typ = Leaf } ∷ []),
          ap (λ (m : Netlist). length m.nodes) (frame_still n (omega arith)),
          ap (λ (m : Netlist). length m.nodes) (frame_still (suc n) (omega arith)),
        )
