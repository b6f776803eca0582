-- A circuit that has a written form has one when it is strashed.
use Rattle.aig_base.proofs.Words.{◌≡◌, ℕ, ◌<◌, ◌^◌, Option, Some, None, List, ◌++◌, length, map, refl, sym, ap, subst, ◌∙◌, inl, inr, arith, All, Contains, IfSome, IsSomeAnd, option_map, length-map, count_by-le-length, length-filter, same_Some, All-contains, All-map, All-weaker, Contains-get_or}
use Rattle.aig_circuit.specs.declared.edge.AigEdge.{AigEdge}
use Rattle.aig_circuit.specs.declared.node.AigNodeType.{AigNodeType}
use Rattle.aig_circuit.specs.declared.node.AigNodeType.TheVariants.{And, False, Leaf}
use Rattle.aig_circuit.specs.declared.node.AigLatch.{AigLatch}
use Rattle.aig_circuit.specs.declared.node.AigNode.{AigNode}
use Rattle.aig_circuit.proofs.Words.{kind_at, Circuit, IsCircuit, IsLeaf, latch_leaves, HasConstantInit, renumbered_edge, renumbered_kind, renumbered_latch}
use Rattle.aig_circuit.proofs.Building.{and_of-cases}
use Rattle.aig_circuit.proofs.Circuits.{AreLeaves-of_circuit}
use Rattle.aig_circuit.proofs.Trees.{kind_at-within}
use Rattle.aig_format.specs.Writable.{HasLineFeed, IsWritable, list_lengths, named_nodes}
use Rattle.aig_renumber.proofs.Circuits.{leaves-map}
use Rattle.aig_renumber.proofs.Places.{Contains-map, Contains-map_back}
use Rattle.aig_strash.specs.Exchange.{IsGate, representative_of, image_of, is_representative, kept_before, node_numbers}
use Rattle.aig_strash.specs.Strash.{KeepsRepresentatives, strashed}
use Rattle.aig_strash.proofs.Keeping.{KeepsRepresentatives-strashed, NumbersRepresentatives-images}
use Rattle.aig_strash.proofs.Merged.{MergesTrees-strashed}
use Rattle.aig_strash.proofs.Strashing.{inputs-strashed}

-- what is a leaf under its new number was one
leaf_before : (number : ℕ → ℕ) (o : Option AigNodeType) → renumbered_kind number o ≡ Leaf → o ≡ Some Leaf
leaf_before number None e = cc
leaf_before number (Some False) e = cc
leaf_before number (Some Leaf) e = refl
leaf_before number (Some (And a b)) e =
    elim (and_of-cases (renumbered_edge number a) (renumbered_edge number b)) [
      | inl p ↦ absurd (no_leaf (renumbered_edge number b) (renumbered_edge number a) (sym p.0 ∙ e))
      | inr p ↦ absurd (no_leaf (renumbered_edge number a) (renumbered_edge number b) (sym p.0 ∙ e))
    ]
  where
    no_leaf : (x y : AigEdge) → And x y ≡ Leaf → ⊥
    no_leaf x y is = cc

module _ (c : Circuit) (is : IsCircuit c) (w : IsWritable c) where
  keeps : KeepsRepresentatives c (strashed c) (image_of c.nodes)
  keeps = KeepsRepresentatives-strashed c is

  -- a leaf is its own representative
  own_first : (n : ℕ) → IsLeaf c.nodes n → representative_of c.nodes n ≡ n
  own_first n leaf = (NumbersRepresentatives-images c is).others n (kind_at-within c.nodes n Leaf leaf) (λ (g : IsGate c.nodes n). let (a, b, gate) = g in cc)

  -- false keeps its number
  zeroth : image_of c.nodes 0 ≡ 0
  zeroth =
      let numbers = NumbersRepresentatives-images c is in
      let first = is.nodes.false_first in
      let h = kind_at-within c.nodes 0 False first in
      let own = numbers.others 0 h (λ (g : IsGate c.nodes 0). let (a, b, gate) = g in cc) in
      numbers.places 0 h ∙ ap (kept_before c.nodes) own

  -- the nodes that the strashed circuit names are the images of those that the circuit names
  named-strashed : named_nodes (strashed c) ≡ map (image_of c.nodes) (named_nodes c)
  named-strashed = ap (λ inputs. inputs ++ latch_leaves (map (renumbered_latch (image_of c.nodes)) c.latchs)) (inputs-strashed c is) ∙ leaves-map (image_of c.nodes) c

  closed : (m : ℕ) → IsLeaf (strashed c).nodes m → Contains (named_nodes (strashed c)) m
  closed m leaf =
      let old = (MergesTrees-strashed c is).onto m (kind_at-within (strashed c).nodes m Leaf leaf) in
      let kind = keeps.kinds old.0 old.1 in
      let was : IsLeaf c.nodes old.0 = leaf_before (image_of c.nodes) (kind_at c.nodes old.0) (same_Some _ _ (sym kind ∙ ap (kind_at (strashed c).nodes) old.2 ∙ leaf)) in
      subst (λ n. Contains (named_nodes (strashed c)) n) old.2 (subst (λ (ns : List ℕ). Contains ns (image_of c.nodes old.0)) (sym named-strashed) (Contains-map (image_of c.nodes) (named_nodes c) old.0 (w.closed old.0 was)))

  -- a name that the strashed circuit writes is one that the circuit writes
  named : (m : ℕ) → Contains (named_nodes (strashed c)) m → ¬ HasLineFeed (strashed c).names m
  named m has feed =
      let old = Contains-map_back (image_of c.nodes) (named_nodes c) m (subst (λ (ns : List ℕ). Contains ns m) named-strashed has) in
      let leaf = All-contains (IsLeaf c.nodes) (named_nodes c) old.0 (AreLeaves-of_circuit c is).leaves old.1 in
      let same = keeps.names old.0 (kind_at-within c.nodes old.0 Leaf leaf) (own_first old.0 leaf) in
      All-contains (λ n. ¬ HasLineFeed c.names n) (named_nodes c) old.0 w.names old.1
      (subst (λ o. IsSomeAnd o (λ text. Contains text 10)) same (subst (λ n. HasLineFeed (strashed c).names n) (sym old.2) feed))

  start : (l : AigLatch) → HasConstantInit l → HasConstantInit (renumbered_latch (image_of c.nodes) l)
  start l plain = by_init l.init plain
    where
      by_init : (o : Option AigEdge) → IfSome o (λ e. e.node_id ≡ 0) → IfSome (option_map (renumbered_edge (image_of c.nodes)) o) (λ e. e.node_id ≡ 0)
      by_init (Some e) none = ap (image_of c.nodes) none ∙ zeroth
      by_init None none = tt

  as_long : list_lengths (strashed c) ≡ list_lengths c
  as_long =
      let edge = renumbered_edge (image_of c.nodes) in
      rw (ap length (inputs-strashed c is) ∙ length-map c.inputs (image_of c.nodes), length-map c.latchs (renumbered_latch (image_of c.nodes)), length-map c.properties.outputs edge, length-map c.properties.bads edge, length-map c.properties.constraints edge, length-map c.properties.justice (map edge), length-map c.properties.fairness edge) refl

  pub IsWritable-strashed : IsWritable (strashed c)
  IsWritable-strashed = record {
    closed = closed;
    start = All-map HasConstantInit (renumbered_latch (image_of c.nodes)) c.latchs (All-weaker HasConstantInit (λ l. HasConstantInit (renumbered_latch (image_of c.nodes) l)) start c.latchs w.start);
    names = λ k d h. named _ (Contains-get_or (named_nodes (strashed c)) k d h);
    small = record {
      nodes =
          let count = keeps.count in
          let kept = length-filter (is_representative c.nodes) (node_numbers c.nodes) in
          let low = count_by-le-length (is_representative c.nodes) (node_numbers c.nodes) in
          let all = length-map c.nodes (λ (node : AigNode). node.node_id) in
          omega (arith, w.small.nodes);
      lists = subst (All (λ n. n < 2 ^ 32)) (sym as_long) w.small.lists;
      sets = All-map (λ (set : List AigEdge). length set < 2 ^ 32) (map (renumbered_edge (image_of c.nodes))) c.properties.justice
          (All-weaker (λ (set : List AigEdge). length set < 2 ^ 32) (λ (set : List AigEdge). length (map (renumbered_edge (image_of c.nodes)) set) < 2 ^ 32)
          (λ set h. omega (arith, length-map set (renumbered_edge (image_of c.nodes)))) c.properties.justice w.small.sets);
    };
  }
