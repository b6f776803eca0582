-- The clauses of steps have those by which the unrolled circuit is encoded gate by gate.
use Rattle.aig_base.proofs.Words.{◌≡◌, ℕ, zero, suc, ◌<◌, ◌==◌, Bool, true, false, ◌&&◌, ◌||◌, Some, List, [], ◌∷◌, get_or, length, refl, sym, ap, subst, ◌∙◌, arith, inl, inr, All, All-contains_itself, AllByRecursion, Contains, Contains-from_any, flat_map, list_all, list_any, and_from, and_parts, cases_eq, eq-eqb, eqb-true, or_right, get_or_from_slice_get, length-map, recursion_from_All, All-from_recursion, slice_get, slice_get-get_or, true_from_ne_false}
use Rattle.aig_base.specs.declared.logic.literal.Lit.{Lit}
use Rattle.aig_base.specs.Formula.{clauses_in}
use Rattle.aig_circuit.specs.declared.node.AigNode.{AigNode}
use Rattle.aig_circuit.specs.declared.node.AigNodeType.{AigNodeType}
use Rattle.aig_circuit.specs.declared.node.AigNodeType.TheVariants.{False, And}
use Rattle.aig_circuit.proofs.Words.{Circuit, IsCircuit, kind_at}
use Rattle.aig_circuit.proofs.Lists.{All-flat_map}
use Rattle.aig_circuit.proofs.Trees.{kind_at-within}
use Rattle.aig_cnf.specs.declared.form.Form.{Form}
use Rattle.aig_cnf.specs.Cnf.{HasClauses, HasForm, clauses_of, ite, other, plain, xor}
use Rattle.aig_format.proofs.Entries.{rec_append, rec_flat_map, rec_map}
use Rattle.aig_runs.specs.Queries.{unit_clauses}
use Rattle.aig_unroll.specs.Frame.{with_steps}
use Rattle.aig_steps.specs.Stepwise.{kind_clauses, node_clauses, stepwise_clauses}
use Rattle.aig_steps.proofs.Further.{of_all_nodes}
use Rattle.aig_steps.proofs.Nodes.{clause_lists, listed}

-- ---- a test of membership

-- the clauses have the same literals in the same order
abbrev same_literals : List Lit → List Lit → Bool
same_literals [] [] = true
same_literals [] (y ∷ ys) = false
same_literals (x ∷ xs) [] = false
same_literals (x ∷ xs) (y ∷ ys) = (x.code == y.code) && same_literals xs ys

same_itself : (xs : List Lit) → same_literals xs xs ≡ true
same_itself [] = refl
same_itself (x ∷ xs) =
    and_from (x.code == x.code) (same_literals xs xs) (eq-eqb x.code x.code refl) (same_itself xs)

same_are : (xs ys : List Lit) → same_literals xs ys ≡ true → xs ≡ ys
same_are [] [] h = refl
same_are [] (y ∷ ys) h = cc
same_are (x ∷ xs) [] h = cc
same_are (x ∷ xs) (y ∷ ys) h =
    let both = and_parts (x.code == y.code) (same_literals xs ys) h in
    let first : x ≡ y = ap (λ (n : ℕ). record { code = n }) (eqb-true x.code y.code both.0) in
    ap (λ z. z ∷ xs) first ∙ ap (λ zs. y ∷ zs) (same_are xs ys both.1)

found : (clauses : List (List Lit)) (x : List Lit) → Contains clauses x
    → list_any (same_literals x) clauses ≡ true
found [] x has = absurd (omega (arith, has.1))
found (y ∷ ys) x (zero, h, e) = ap (λ b. b || list_any (same_literals x) ys)
    (subst (λ z. same_literals x z ≡ true) (sym e) (same_itself x))
found (y ∷ ys) x (suc k, h, e) =
    or_right (same_literals x y) (list_any (same_literals x) ys) (found ys x (k, omega arith, e))

module _ (clauses : List (List Lit)) where
  -- each of the others is among the clauses
  abbrev are_among : List (List Lit) → Bool
  are_among others = list_all (λ x. list_any (same_literals x) clauses) others

  tested : (others : List (List Lit)) → AllByRecursion (Contains clauses) others
      → are_among others ≡ true
  tested [] h = refl
  tested (x ∷ xs) h = and_from (list_any (same_literals x) clauses) (are_among xs)
      (found clauses x h.0) (tested xs h.1)

  among : (others : List (List Lit)) → are_among others ≡ true
      → AllByRecursion (Contains clauses) others
  among [] h = tt
  among (x ∷ xs) h =
      let both = and_parts (list_any (same_literals x) clauses) (are_among xs) h in
      (Contains-from_any {eq = same_literals} same_are x clauses both.0, among xs both.1)

-- ---- the clauses of an encoding

module _ (c : Circuit) (k : ℕ) (lists : List (List (List Lit))) (is : IsCircuit (with_steps c k))
    (has : HasClauses (with_steps c k) false lists) where
  abbrev nodes : List AigNode
  nodes = (with_steps c k).nodes

  abbrev clauses : List (List Lit)
  clauses = stepwise_clauses c k

  -- the clauses of a node of this kind are there
  kind_there : (n : ℕ) (kind : AigNodeType) → kind_at nodes n ≡ Some kind
      → are_among clauses (kind_clauses n kind) ≡ true
  kind_there n kind at =
      let Has = Contains clauses in
      let Have = λ (cs : List (List Lit)). AllByRecursion Has cs in
      let all =
      (of_all_nodes Has c k).0 (recursion_from_All Has clauses (All-contains_itself clauses)) in
      let of_nodes = ((rec_append Has (flat_map node_clauses nodes)
      (unit_clauses (with_steps c k).properties.constraints)).0 all).0 in
      let by_list : All Have (clause_lists nodes) =
      All-from_recursion Have (clause_lists nodes) ((rec_map Have node_clauses nodes).1
      ((rec_flat_map Has node_clauses nodes).0 of_nodes)) in
      let within : n < length nodes = kind_at-within nodes n kind at in
      tested clauses (kind_clauses n kind) (subst Have (listed nodes is.nodes n kind [] at)
      (by_list n [] (omega (arith, within, length-map nodes node_clauses))))

  -- so are those of its form, which is an and
  form_there : (n : ℕ) (form : Form) (optimize : Bool) → HasForm nodes optimize n form
      → optimize ≡ false → are_among clauses (clauses_of n form) ≡ true
  form_there n _ optimize (plain {a = a} {b = b} at _) off = kind_there n (And a b) at
  form_there n _ optimize (xor at on _) off = absurd (differ (sym on ∙ off))
    where
      differ : true ≡ false → ⊥
      differ e = cc
  form_there n _ optimize (ite at on _ _) off = absurd (differ (sym on ∙ off))
    where
      differ : true ≡ false → ⊥
      differ e = cc
  form_there n _ optimize (other at on _ _) off = absurd (differ (sym on ∙ off))
    where
      differ : true ≡ false → ⊥
      differ e = cc

  -- and those that the encoding has of the node
  list_there : (n : ℕ) (d : List (List Lit)) → n < length lists
      → are_among clauses (get_or lists n d) ≡ true
  list_there n d h = elim (cases_eq n 0) [
    | inl e ↦ subst (λ (cs : List (List Lit)). are_among clauses cs ≡ true) (sym
        (get_or_from_slice_get lists n (kind_clauses 0 False) d
        (subst (λ m. slice_get lists m ≡ Some (kind_clauses 0 False)) (sym e) has.zero)))
        (kind_there 0 False is.nodes.false_first)
    | inr ne ↦ true_from_ne_false (are_among clauses (get_or lists n d)) (λ no.
        let none : get_or lists n d ≡ [] =
        has.none n (get_or lists n d) ne (λ form p. differ (sym (subst
        (λ (cs : List (List Lit)). are_among clauses cs ≡ true)
        (sym (get_or_from_slice_get lists n (clauses_of n form) d (has.needed n form p.0 p.1)))
        (form_there n form false p.1 refl)) ∙ no)) (slice_get-get_or lists n d h) in
        differ (sym (ap (are_among clauses) none) ∙ no))
  ]
    where
      differ : true ≡ false → ⊥
      differ e = cc

  pub has_encoding : All (Contains clauses) (clauses_in lists)
  has_encoding =
      All-flat_map (Contains clauses) (λ (cs : List (List Lit)). cs) lists
      (λ n d h. All-from_recursion (Contains clauses) (get_or lists n d)
      (among clauses (get_or lists n d) (list_there n d h)))
