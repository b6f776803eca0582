-- The nodes of a written file's circuit are those of the circuit.
use Rattle.aig_base.proofs.Words.{◌≡◌, ℕ, zero, suc, ◌+◌, ◌*◌, ◌/◌, ◌≤◌, true, false, cond, Some, None, List, [], ◌∷◌, length, refl, sym, ap, subst, ◌∙◌, arith, inl, inr, ◌==◌, find, ne_eqb, same_Some}
use Rattle.aig_circuit.specs.declared.edge.AigEdge.{AigEdge}
use Rattle.aig_circuit.specs.declared.node.AigNodeType.{AigNodeType}
use Rattle.aig_circuit.specs.declared.node.AigNodeType.TheVariants.{False, Leaf, And}
use Rattle.aig_circuit.specs.declared.node.AigNode.{AigNode}
use Rattle.aig_circuit.proofs.Words.{literal_of, kind_at, and_of, AreNodes, Circuit}
use Rattle.aig_circuit.proofs.Building.{and_of-cases, and_of-turned}
use Rattle.aig_circuit.proofs.Trees.{kind_at-within}
use Rattle.aig_format.specs.declared.FileKind.{FileKind}
use Rattle.aig_format.proofs.Words.{GateLine, defined, edge_of, file_of, kind_by, kind_of, nodes_from, gate_of_variable, is_compact, numbers_from, variables_in_order}
use Rattle.aig_format.proofs.Searches.{find_none}
use Rattle.aig_format.proofs.Rules.{compact_exact}
use Rattle.aig_format.proofs.Numbers.{order-compact}
use Rattle.aig_format_laws.proofs.Edges.{edge_again}
use Rattle.aig_format_laws.proofs.Gates.{AreNumbered, find_line, line_for, lines_all, lines_for}
use Rattle.aig_renumber.proofs.Order.{tail_numbered}

pub numbered : (nodes : List AigNode) → AreNodes nodes → AreNumbered 0 nodes
numbered nodes are = λ i node h. omega (arith, are.numbered i node h)

-- operands that are in order stay so
ordered_again : (a b : AigEdge) → literal_of a ≤ literal_of b → and_of b a ≡ And a b
ordered_again a b h = and_of-turned b a ∙ elim (and_of-cases a b) [ inl p ↦ absurd (omega (arith, h, p.1)) | inr p ↦ p.0 ]

module _ (kind : FileKind) (c : Circuit) (are : AreNodes c.nodes) (compact : is_compact (file_of kind c) ≡ true) where
  not_zero : (m : ℕ) → kind_of (file_of kind c) (suc m) ≡ kind_by (file_of kind c) (gate_of_variable (file_of kind c) (suc m))
  not_zero m = ap (λ b. cond b False (kind_by (file_of kind c) (gate_of_variable (file_of kind c) (suc m)))) (ne_eqb (suc m) 0 (λ e. absurd (omega arith)))

  kind_again : (n : ℕ) (k : AigNodeType) → kind_at c.nodes n ≡ Some k → kind_of (file_of kind c) n ≡ k
  kind_again zero k h = same_Some _ _ (sym are.false_first ∙ h)
  kind_again (suc m) False h = let none = are.false_once (suc m) h in absurd (omega arith)
  kind_again (suc m) (And a b) h =
      let e : 0 + suc m ≡ suc m = omega arith in
      let found : gate_of_variable (file_of kind c) (suc m) ≡ Some (line_for (suc m) a b) =
      subst (λ n. find (λ (g : GateLine). g.lhs / 2 == n) (lines_for c.nodes) ≡ Some (line_for n a b)) e (find_line 0 c.nodes (numbered c.nodes are) (suc m) a b h) in
      let there = kind_at-within c.nodes (suc m) (And a b) h in
      let first = are.ordered.first_before (suc m) a b h in
      let second = are.ordered.second_before (suc m) a b h in
      not_zero m
      ∙ ap (kind_by (file_of kind c)) found
      ∙ ap (λ x. and_of x (edge_of (file_of kind c) (literal_of a))) (edge_again (file_of kind c) compact b (omega arith))
      ∙ ap (and_of b) (edge_again (file_of kind c) compact a (omega arith))
      ∙ ordered_again a b (are.ordered.in_order (suc m) a b h)
  kind_again (suc m) Leaf h =
      let none : gate_of_variable (file_of kind c) (suc m) ≡ None =
      find_none (λ (g : GateLine). g.lhs / 2 == suc m) (lines_for c.nodes)
      (lines_all (λ (g : GateLine). (g.lhs / 2 == suc m) ≡ false) 0 c.nodes (numbered c.nodes are) (λ i a b is. ne_eqb (2 * (0 + i) / 2) (suc m) (λ e.
      let same : i ≡ suc m = omega arith in
      let both : Leaf ≡ And a b = same_Some _ _ (sym h ∙ ap (kind_at c.nodes) (sym same) ∙ is) in
      absurd cc))) in
      not_zero m ∙ ap (kind_by (file_of kind c)) none

  nodes_in_row : (v : ℕ) (nodes : List AigNode) → AreNumbered v nodes → ((i : ℕ) (k : AigNodeType) → kind_at nodes i ≡ Some k → kind_of (file_of kind c) (v + i) ≡ k) → nodes_from (file_of kind c) v (numbers_from (length nodes) v) ≡ nodes
  nodes_in_row v [] num each = refl
  nodes_in_row v (x ∷ xs) num each =
      let here : kind_of (file_of kind c) v ≡ x.typ = let e : v + 0 ≡ v = omega arith in subst (λ n. kind_of (file_of kind c) n ≡ x.typ) e (each 0 x.typ refl) in
      let own : v ≡ x.node_id = omega (arith, num 0 x refl) in
      let next : v + 1 ≡ suc v = omega arith in
      let rest = nodes_in_row (suc v) xs (tail_numbered v x xs num) (λ i k h. let e : v + suc i ≡ suc v + i = omega arith in subst (λ n. kind_of (file_of kind c) n ≡ k) e (each (suc i) k h)) in
      let first : record { node_id = v; typ = kind_of (file_of kind c) v } ≡ x = ap (λ t. let y : AigNode = record { node_id = v; typ = t } in y) here ∙ ap (λ n. let y : AigNode = record { node_id = n; typ = x.typ } in y) own in
      rw (next, rest) (ap (λ y. y ∷ xs) first)

  pub nodes_again : nodes_from (file_of kind c) 0 (0 ∷ variables_in_order (file_of kind c)) ≡ c.nodes
  nodes_again =
      let there = kind_at-within c.nodes 0 False are.false_first in
      let exact = compact_exact (file_of kind c) compact in
      let count : suc (length (defined (file_of kind c))) ≡ length c.nodes = omega arith in
      ap (λ vs. nodes_from (file_of kind c) 0 (0 ∷ vs)) (order-compact (file_of kind c) compact)
      ∙ ap (λ n. nodes_from (file_of kind c) 0 (numbers_from n 0)) count
      ∙ nodes_in_row 0 c.nodes (numbered c.nodes are) (λ i k h. let e : i ≡ 0 + i = omega arith in subst (λ n. kind_of (file_of kind c) n ≡ k) e (kind_again i k h))
