-- Operands in order, and as they are written.
use Rattle.aig_base.proofs.Words.{◌≡◌, ℕ, ◌+◌, ◌/◌, ◌%◌, max, true, ◌&&◌, List, Option, Some, None, refl, sym, ap, subst, ◌∙◌, arith, inl, inr, ◌==◌, is_some, option_map, unwrap_or, and_comm, same_Some}
use Rattle.aig_circuit.specs.declared.edge.AigEdge.{AigEdge}
use Rattle.aig_circuit.specs.declared.node.AigNodeType.{AigNodeType}
use Rattle.aig_circuit.specs.declared.node.AigNodeType.TheVariants.{And}
use Rattle.aig_circuit.specs.declared.node.AigNode.{AigNode}
use Rattle.aig_circuit.proofs.Words.{edge_to, IfAnd, and_of, renumbered_edge, renumbered_kind}
use Rattle.aig_circuit.proofs.Building.{and_of-cases, and_of-turned}
use Rattle.aig_ordering.specs.declared.gates.Operands.{Operands}
use Rattle.aig_ordering.specs.Gates.{kind_of_operands, node_in}
use Rattle.aig_ordering.specs.Lists.{edge_from}
use Rattle.aig_ordering.specs.Numbers.{has_number, has_operands, number_at, number_in, numbered_edge, with_numbers}
use Rattle.aig_ordering.specs.Search.{IsLevelBy, IsOperandOf}
use Rattle.aig_ordering.specs.Tables.{level_at}

module _ (a b : AigEdge) where
  -- what holds of an and in either order holds of it in order
  in_order : (P : AigNodeType → Type 0) → P (And b a) → P (And a b) → P (and_of a b)
  in_order P turned straight = elim (and_of-cases a b) [ inl p ↦ subst P (sym p.0) turned | inr p ↦ subst P (sym p.0) straight ]

  pub within_parts : (P : ℕ → Type 0) → IfAnd (and_of a b) P → P a.node_id × P b.node_id
  within_parts P h = elim (and_of-cases a b) [
    | inl p ↦ (let k = subst (λ (t : AigNodeType). IfAnd t P) p.0 h in (k.1, k.0))
    | inr p ↦ subst (λ (t : AigNodeType). IfAnd t P) p.0 h
  ]

  pub first_operand : IsOperandOf (and_of a b) a.node_id
  first_operand = in_order (λ t. IsOperandOf t a.node_id) (inr refl) (inl refl)

  pub second_operand : IsOperandOf (and_of a b) b.node_id
  second_operand = in_order (λ t. IsOperandOf t b.node_id) (inl refl) (inr refl)

  pub level_above : (levels : List ℕ) (i j : ℕ) → level_at levels a.node_id ≡ Some i
      → level_at levels b.node_id ≡ Some j → IsLevelBy levels (and_of a b) (max i j + 1)
  level_above levels i j first second =
      let turned : max i j + 1 ≡ max j i + 1 = omega arith in
      in_order (λ t. IsLevelBy levels t (max i j + 1)) (j, i, second, first, turned) (i, j, first, second, refl)

  -- whether both have numbers
  pub has_both : (numbers : List ℕ)
      → has_operands numbers (and_of a b) ≡ (has_number numbers a.node_id && has_number numbers b.node_id)
  has_both numbers =
      let has = λ (e : AigEdge). has_number numbers e.node_id in
      in_order (λ t. has_operands numbers t ≡ (has a && has b)) (and_comm (has b) (has a)) refl

  -- under new numbers they are put in order again
  pub renumbered : (number : ℕ → ℕ)
      → renumbered_kind number (Some (and_of a b)) ≡ and_of (renumbered_edge number a) (renumbered_edge number b)
  renumbered number =
      let new = renumbered_edge number in
      in_order (λ t. renumbered_kind number (Some t) ≡ and_of (new a) (new b)) (and_of-turned (new b) (new a)) refl

-- ---- operands under the numbers of their variables

abbrev made : ℕ → AigNodeType → AigNode
made place typ = record { node_id = place; typ = typ }

module _ (numbers : List ℕ) where
  -- the edge of a literal has its variable's number
  edge_told : (e : ℕ) (edge : AigEdge) → numbered_edge numbers e ≡ Some edge
      → (has_number numbers (e / 2) ≡ true) × (edge ≡ renumbered_edge (number_in numbers) (edge_from e))
  edge_told e edge is = by_number (number_at numbers (e / 2)) refl is
    where
      by_number : (o : Option ℕ) → number_at numbers (e / 2) ≡ o
          → option_map (λ n. edge_to n (e % 2 == 1)) o ≡ Some edge
          → (has_number numbers (e / 2) ≡ true) × (edge ≡ renumbered_edge (number_in numbers) (edge_from e))
      by_number None is h = absurd cc
      by_number (Some n) is h = (
        ap (λ (o : Option ℕ). is_some o) is,
        sym (same_Some _ _ h) ∙ ap (λ (o : Option ℕ). edge_to (unwrap_or o 0) (e % 2 == 1)) (sym is),
      )

  -- a gate whose operands have numbers
  pub numbered : (place : ℕ) (gate : Operands) (first second : AigEdge)
      → numbered_edge numbers gate.rhs0 ≡ Some first → numbered_edge numbers gate.rhs1 ≡ Some second
      → (has_operands numbers (kind_of_operands place (Some gate)) ≡ true)
      × (made place (and_of first second) ≡ with_numbers numbers (node_in place (Some gate)))
  numbered place gate first second one two =
      let a = edge_from gate.rhs0 in
      let b = edge_from gate.rhs1 in
      let new = renumbered_edge (number_in numbers) in
      let f = edge_told gate.rhs0 first one in
      let s = edge_told gate.rhs1 second two in (
        has_both a b numbers ∙ ap (λ t. t && has_number numbers (gate.rhs1 / 2)) f.0 ∙ s.0,
        ap (made place) (ap (λ (e : AigEdge). and_of e second) f.1 ∙ ap (λ (e : AigEdge). and_of (new a) e) s.1 ∙ sym (renumbered a b (number_in numbers))),
      )
