-- The numbers of all nodes and the kept nodes, as the renumbering takes them.
use Rattle.aig_base.proofs.Words.{◌≡◌, ℕ, ◌<◌, List, length, map, get_or, sym, ap, subst, ◌∙◌, arith, All, slice_index, get_or-map, get_or_default, length-map}
use Rattle.aig_circuit.proofs.Words.{Circuit, IsCircuit, kept_circuit}
use Rattle.aig_circuit.specs.declared.node.AigNodeType.TheVariants.{False}
use Rattle.aig_circuit.proofs.Trees.{kind_at-within}
use Rattle.aig_renumber.proofs.Agreeing.{circuits-agree}
use Rattle.aig_renumber.proofs.Circuits.{SpeaksOf-nodes}
use Rattle.aig_strash.specs.Exchange.{image_of, kept_nodes, node_numbers}
use Rattle.aig_strash.specs.Strash.{strashed}
use Rattle.aig_strash.proofs.Alike.{operands-there}
use Rattle.aig_strash.proofs.Firsts.{first-0, image-0, image-back, image-place, image-within, kept-within, kept_at-kept, numbers-count, numbers-length}
use Rattle.aig_strash.proofs.Strashing.{IsCircuit-cut, cut}

-- what the renumbering asks of the two lists, and what it makes of them
pub record AreTables (c : Circuit) (table kept : List ℕ) : Type 0 where
  pub count : length table ≡ length c.nodes
  pub there : All (λ n. n < length c.nodes) kept
  pub within : All (λ n. n < length kept) table
  pub places : (i : ℕ) → i < length kept → slice_index table (slice_index kept i) ≡ i
  pub false_first : (0 < length kept) × (slice_index kept 0 ≡ 0)
  pub circuit : kept_circuit (slice_index table) kept c ≡ strashed c

module _ (c : Circuit) (is : IsCircuit c) where
  abbrev images : List ℕ
  images = map (image_of c.nodes) (node_numbers c.nodes)

  images-length : length images ≡ length c.nodes
  images-length = length-map (node_numbers c.nodes) (image_of c.nodes) ∙ numbers-length c.nodes is.nodes

  images-at : (n d : ℕ) → n < length c.nodes → get_or images n d ≡ image_of c.nodes n
  images-at n d h =
      let low : n < length (node_numbers c.nodes) = omega (arith, numbers-length c.nodes is.nodes) in
      get_or-map (image_of c.nodes) (node_numbers c.nodes) n 0 d low ∙ ap (image_of c.nodes) (omega (arith, numbers-count c.nodes is.nodes n 0 low))

  AreTables-made : AreTables c images (kept_nodes c.nodes)
  AreTables-made = record {
    count = images-length;
    there = λ k d h. subst (λ n. n < length c.nodes) (get_or_default (kept_nodes c.nodes) k 0 d h) (kept-within c.nodes is.nodes (get_or (kept_nodes c.nodes) k 0) (kept_at-kept c.nodes is.nodes k h));
    within = λ k d h. let low : k < length c.nodes = omega (arith, images-length) in omega (arith, images-at k d low, image-within c.nodes is.nodes k low);
    places = λ i h. images-at (get_or (kept_nodes c.nodes) i 0) 0 (kept-within c.nodes is.nodes (get_or (kept_nodes c.nodes) i 0) (kept_at-kept c.nodes is.nodes i h)) ∙ image-place c.nodes is.nodes i h;
    false_first = (
        let low = kind_at-within c.nodes 0 False is.nodes.false_first in
        let first = image-0 c.nodes is.nodes in
        (omega (arith, image-within c.nodes is.nodes 0 low), ap (λ i. get_or (kept_nodes c.nodes) i 0) (sym first) ∙ image-back c.nodes is.nodes 0 low ∙ first-0 c.nodes is.nodes));
    circuit = circuits-agree (λ n. n < length c.nodes) (slice_index images) (image_of c.nodes) (λ n h. images-at n 0 h) (cut c is) (kept_nodes c.nodes) (SpeaksOf-nodes (cut c is) (IsCircuit-cut c is)) (λ n a b at. operands-there c.nodes is.nodes n a b at);
  }

  pub AreTables-same : (table kept : List ℕ) → table ≡ images → kept ≡ kept_nodes c.nodes → AreTables c table kept
  AreTables-same table kept e f = subst (λ (l : List ℕ). AreTables c l kept) (sym e) (subst (AreTables c images) (sym f) AreTables-made)
