-- The places of leaves are nodes of the unrolled circuit, and its last bad edges are cut out.
use Rattle.aig_calls.proofs.Words.{◌≡◌, ℕ, zero, suc, ◌+◌, ◌-◌, ◌*◌, ◌<◌, Bool, false, List, length, take, drop, ap, ◌∙◌, arith, AigEdge, Circuit, IsCircuit, IsLeaf, place_at}
use Rattle.std.proofs.lemmas.List.{length-drop, take_all}
use Rattle.aig_circuit.specs.declared.node.AigNodeType.TheVariants.{False, Leaf}
use Rattle.aig_circuit.proofs.Trees.{kind_at-within}
use Rattle.aig_runs.specs.Queries.{last_bads}
use Rattle.aig_unroll.specs.Unroll.{UnrollsTo}
use Rattle.aig_witness.proofs.ShowingSolutions.{get_below}

module _ (c u : Circuit) (k : ℕ) (steps : UnrollsTo c k u) where
  pub leaf_below : (n : ℕ) → IsLeaf c.nodes n → n < length u.nodes
  leaf_below n leaf = omega (arith, kind_at-within c.nodes n Leaf leaf, steps.keeps.nodes.longer)

  pub place_below : IsCircuit u → (t n : ℕ) → IsLeaf c.nodes n → place_at c u t n < length u.nodes
  place_below is zero n leaf = leaf_below n leaf
  place_below is (suc t) n leaf =
      let below = λ (i d : ℕ) (h : i < length u.inputs). kind_at-within u.nodes _ Leaf (is.inputs i d h) in
      get_below u.inputs _ (length u.nodes) below (kind_at-within u.nodes 0 False is.nodes.false_first)

  module _ (one all : List AigEdge) (of_one : one ≡ c.properties.bads)
      (of_all : all ≡ u.properties.bads) where
    -- the bad edges of step k are the last of so many
    pub bads_room : k * length one + length one ≡ length all
    bads_room =
        let y : ℕ → Bool = λ n. false in
        let r = steps.run_of y in
        let count = (steps.same y r.0 r.1 r.2).properties.bads.count in
        rw (of_one, of_all) (omega (arith, count))

    -- and are cut out from there on
    pub bads_cut : take (length all - k * length one) (drop (k * length one) all)
        ≡ last_bads c k u
    bads_cut =
        let first = k * length one in
        take_all (length all - first) (drop first all) (omega (arith, length-drop first all))
        ∙ ap (λ (bads : List AigEdge). drop (k * length bads) all) of_one
        ∙ ap (drop (k * length c.properties.bads)) of_all
