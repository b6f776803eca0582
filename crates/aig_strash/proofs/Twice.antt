-- A circuit in which no two trees are equal is its own strashing, so strashing twice is strashing once.
use Rattle.aig_base.proofs.Words.{◌≡◌, ℕ, ◌<◌, true, List, length, get_or, ap, ◌∙◌, arith, filter, eq-eqb}
use Rattle.aig_circuit.proofs.Words.{AreNodes, Circuit, IsCircuit, is_in, only_kept, position_of, renumbered_circuit}
use Rattle.aig_circuit.specs.declared.node.AigNode.{AigNode}
use Rattle.aig_circuit.specs.declared.node.AigNodeType.TheVariants.{Leaf}
use Rattle.aig_circuit.proofs.Trees.{kind_at-within}
use Rattle.aig_renumber.proofs.Kept.{is_in-there}
use Rattle.aig_renumber.proofs.Places.{filter_all}
use Rattle.aig_renumber.proofs.Same.{renumbered-same, retained-all}
use Rattle.aig_strash.specs.Exchange.{HaveEqualTrees, representative_of, image_of, is_representative, kept_nodes, node_numbers}
use Rattle.aig_strash.specs.Strash.{strashed}
use Rattle.aig_strash.proofs.Firsts.{first-is, first-within, kept-from, numbers-count, numbers-length}
use Rattle.aig_strash.proofs.Listing.{counting-place}
use Rattle.aig_strash.proofs.Merged.{distinct-merged}
use Rattle.aig_strash.proofs.Strashing.{IsCircuit-strashed}

-- no two nodes have equal trees
abbrev AreDistinct : List AigNode → Type 0
AreDistinct nodes = (m n : ℕ) → m < length nodes → n < length nodes → HaveEqualTrees nodes m n → m ≡ n

module _ (nodes : List AigNode) (are : AreNodes nodes) (distinct : AreDistinct nodes) where
  -- each node is its own representative
  pub first-own : (n : ℕ) → n < length nodes → representative_of nodes n ≡ n
  first-own n h = distinct (representative_of nodes n) n (first-within nodes are n h) h (first-is nodes are n h).equal

  pub kept-all : kept_nodes nodes ≡ node_numbers nodes
  kept-all = filter_all (is_representative nodes) (node_numbers nodes) (λ k d h.
      let n = get_or (node_numbers nodes) k d in
      eq-eqb (representative_of nodes n) n (first-own n (omega (arith, numbers-length nodes are, numbers-count nodes are k d h))))

  -- each node is kept
  pub kept-own : (n : ℕ) → n < length nodes → is_in (kept_nodes nodes) n ≡ true
  kept-own n h = is_in-there (kept_nodes nodes) n (kept-from nodes are n h (first-own n h))

  -- and is its own image
  pub image-own : (n : ℕ) → n < length nodes → image_of nodes n ≡ n
  image-own n h =
      ap (position_of (kept_nodes nodes)) (first-own n h) ∙ ap (λ ns. position_of ns n) kept-all
      ∙ counting-place (node_numbers nodes) (numbers-count nodes are) n (omega (arith, numbers-length nodes are))

pub strashed-own : (c : Circuit) → IsCircuit c → AreDistinct c.nodes → strashed c ≡ c
strashed-own c is distinct =
    let kept : (n : ℕ) → n < length c.nodes → is_in (kept_nodes c.nodes) n ≡ true = kept-own c.nodes is.nodes distinct in
    let inputs : filter (is_in (kept_nodes c.nodes)) c.inputs ≡ c.inputs = filter_all (is_in (kept_nodes c.nodes)) c.inputs (λ k d h. kept (get_or c.inputs k d) (kind_at-within c.nodes (get_or c.inputs k d) Leaf (is.inputs k d h))) in
    let names = retained-all c.names (is_in (kept_nodes c.nodes)) (λ n has. kept n (is.named n has)) in
    let same : only_kept (kept_nodes c.nodes) c ≡ c = λ i. record c { inputs = inputs i; names = names i } in
    ap (renumbered_circuit (image_of c.nodes) (kept_nodes c.nodes)) same
    ∙ ap (λ ns. renumbered_circuit (image_of c.nodes) ns c) (kept-all c.nodes is.nodes distinct)
    ∙ renumbered-same c is (image_of c.nodes) (image-own c.nodes is.nodes distinct) (node_numbers c.nodes) (λ i h. omega (arith, numbers-count c.nodes is.nodes i 0 h)) (numbers-length c.nodes is.nodes)

-- twice is once
pub strashed-twice : (c : Circuit) → IsCircuit c → strashed (strashed c) ≡ strashed c
strashed-twice c is = strashed-own (strashed c) (IsCircuit-strashed c is) (distinct-merged c.nodes is.nodes)
