-- Levels of nodes, and the greatest of them.
use Rattle.aig_base.proofs.Words.{◌≡◌, ◌⊎◌, ℕ, zero, suc, ◌+◌, ◌<◌, ◌≤◌, Some, List, length, refl, sym, ap, subst, ◌∙◌, inl, inr, arith, slice_index, same_Some}
use Rattle.aig_circuit.specs.declared.edge.AigEdge.{AigEdge}
use Rattle.aig_circuit.specs.declared.node.AigNode.{AigNode}
use Rattle.aig_circuit.specs.declared.node.AigNodeType.{AigNodeType}
use Rattle.aig_circuit.specs.declared.node.AigNodeType.TheVariants.{And}
use Rattle.aig_circuit.proofs.Words.{IsOrdered, kind_at, Circuit}
use Rattle.aig_circuit.proofs.Building.{same_first, same_second}
use Rattle.aig_circuit.proofs.Trees.{kind_at-within}
use Rattle.aig_format.proofs.Words.{circuit_of, File}
use Rattle.aig_edits.specs.Info.{HasPath, IsDepth, IsInfo, counts_of, info_text}
use Rattle.aig_edits.specs.declared.info.Counts.{Counts}
use Rattle.aig_edits.specs.Levels.{AreLevels, IsLevel}

module _ (nodes : List AigNode) (ordered : IsOrdered nodes) where
  -- a path to a node has no more gates than nodes before it
  pub short_path : (k n : ℕ) → HasPath nodes k n → k ≤ n
  short_path zero n path = omega arith
  short_path (suc k) n (m, (a, b, is, inl at), rest) =
      omega (arith, short_path k m rest, ordered.first_before n a b is, at)
  short_path (suc k) n (m, (a, b, is, inr at), rest) =
      omega (arith, short_path k m rest, ordered.second_before n a b is, at)

  -- a gate is one above the higher of its operands
  pub level-gate : (n top : ℕ) (a b : AigEdge) (first second : ℕ) → kind_at nodes n ≡ Some (And a b)
      → IsLevel nodes a.node_id first → IsLevel nodes b.node_id second → first ≤ top → second ≤ top
      → (top ≡ first) ⊎ (top ≡ second) → IsLevel nodes n (top + 1)
  level-gate n top a b first second is low high below also higher = record {
    path = let next : suc top ≡ top + 1 = omega arith in subst (λ k. HasPath nodes k n) next (longer
        higher);
    most = most;
  }
    where
      longer : (top ≡ first) ⊎ (top ≡ second) → HasPath nodes (suc top) n
      longer (inl same) = (
        a.node_id,
        (a, b, is, inl refl),
        subst (λ k. HasPath nodes k a.node_id)
            (sym same) low.path,
      )
      longer (inr same) = (
        b.node_id,
        (a, b, is, inr refl),
        subst (λ k. HasPath nodes k b.node_id)
            (sym same) high.path,
      )

      most : (k : ℕ) → HasPath nodes k n → k ≤ top + 1
      most zero path = omega arith
      most (suc k) (m, (c, d, was, inl at), rest) =
          let same = same_first c d a b (same_Some _ _ (sym was ∙ is)) in
          let short = low.most k (subst (HasPath nodes k) (at ∙ ap (λ (e : AigEdge). e.node_id)
          same) rest) in
          omega (arith, short, below)
      most (suc k) (m, (c, d, was, inr at), rest) =
          let same = same_second c d a b (same_Some _ _ (sym was ∙ is)) in
          let short = high.most k (subst (HasPath nodes k) (at ∙ ap (λ (e : AigEdge). e.node_id)
          same) rest) in
          omega (arith, short, also)

  -- no gate is above what is none
  pub level-other : (n : ℕ) (kind : AigNodeType) → kind_at nodes n ≡ Some kind → ((a b : AigEdge) →
      ¬ (kind ≡ And a b)) → IsLevel nodes n 0
  level-other n kind is other = record { path = tt; most = most }
    where
      most : (k : ℕ) → HasPath nodes k n → k ≤ 0
      most zero path = omega arith
      most (suc k) (m, (a, b, was, at), rest) = absurd (other a b (same_Some _ _ (sym is ∙ was)))

  -- a path of gates ends at a node that is there
  path_within : (n k : ℕ) → HasPath nodes (suc k) n → n < length nodes
  path_within n k (m, (a, b, is, at), rest) = kind_at-within nodes n (And a b) is

  -- the greatest level of all nodes is the greatest number of gates on a path
  pub depth-levels : (levels : List ℕ) (count greatest : ℕ) → length nodes ≤ count → AreLevels nodes
      count levels
      → ((n : ℕ) × HasPath nodes greatest n) → ((m : ℕ) → m < count → slice_index levels m ≤
      greatest)
      → IsDepth nodes greatest
  depth-levels levels count greatest all are path below = record { path = path; most = most }
    where
      most : (n k : ℕ) → HasPath nodes k n → k ≤ greatest
      most n zero p = omega arith
      most n (suc k) p =
          let within = path_within n k p in
          let there : n < count = omega arith in
          omega (arith, (are.each n there).most (suc k) p, below n there)

-- ---- the text

-- what is told of a file's circuit is told of the file
pub info_of : (f : File) (c : Circuit) (counts : Counts) → c ≡ circuit_of f
    → (levels : ℕ) × IsDepth c.nodes levels × (counts ≡ counts_of c levels) → IsInfo f (info_text
    counts)
info_of f c counts is (levels, depth, exact) = (
  levels,
  subst (λ (d : Circuit). IsDepth d.nodes levels) is depth,
  ap info_text (exact ∙ ap (λ (d : Circuit). counts_of d levels) is),
)
