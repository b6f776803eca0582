-- A variable that is a leaf is an input's or a latch's.
use Rattle.aig_base.proofs.Words.{◌≡◌, ℕ, zero, suc, ◌/◌, Bool, true, false, ◌||◌, List, [], ◌∷◌, ◌++◌, map, Some, None, refl, sym, ap, ◌∙◌, subst, arith, inl, inr, find, ◌==◌, AllByRecursion, list_any, false≢true, eqb-true, eqb-false, ne_eqb}
use Rattle.aig_circuit.specs.declared.edge.AigEdge.{AigEdge}
use Rattle.aig_circuit.specs.declared.node.AigNodeType.TheVariants.{False, Leaf, And}
use Rattle.aig_circuit.proofs.Building.{and_of-cases}
use Rattle.aig_format.proofs.Words.{GateLine, LatchLine, File, defined, is_defined, is_known, gate_of_variable, edge_of, kind_of}
use Rattle.aig_format.proofs.Entries.{chosen, rec_append, rec_map, rec_weaker}
use Rattle.aig_format.proofs.Nodes.{VariableCase, at_gate, at_leaf, at_zero, variable_case}

none_found : {X : Type 0} (test : X → Bool) (xs : List X) → find test xs ≡ None → AllByRecursion (λ x. test x ≡ false) xs
none_found test [] h = tt
none_found test (x ∷ xs) h = elim (chosen (test x) (Some x) (find test xs) None h) [
  | inl p ↦ absurd (some_none x p.1)
  | inr p ↦ (p.0, none_found test xs p.1)
]
  where
    some_none : {X : Type 0} (x : X) → Some x ≡ None → ⊥
    some_none x h = cc

-- what holds wherever an entry's half is v, for the entry that there is
at_half : (P : Type 0) (v : ℕ) (es : List ℕ) → AllByRecursion (λ e. v ≡ e / 2 → P) es → list_any (λ e. e / 2 == v) es ≡ true → P
at_half P v [] all there = absurd (false≢true there)
at_half P v (e ∷ es) all there = by_test (e / 2 == v) refl there (at_half P v es all.1)
  where
    by_test : (b : Bool) → (e / 2 == v) ≡ b → (b || list_any (λ e. e / 2 == v) es) ≡ true → (list_any (λ e. e / 2 == v) es ≡ true → P) → P
    by_test true same there rest = all.0 (sym (eqb-true (e / 2) v same))
    by_test false differs there rest = rest there

module _ (f : File) (P : ℕ → Type 0) (inputs : AllByRecursion (λ e. P (e / 2)) f.inputs) (latches : AllByRecursion (λ (l : LatchLine). P (l.literal / 2)) f.latches) where
  -- a defined variable that no gate defines is an input's or a latch's
  without_gate : (v : ℕ) → is_defined f v ≡ true → gate_of_variable f v ≡ None → P v
  without_gate v there none =
      let To = λ (e : ℕ). v ≡ e / 2 → P v in
      let literals = map (λ (l : LatchLine). l.literal) f.latches in
      let from_inputs : AllByRecursion To f.inputs = rec_weaker (λ e. P (e / 2)) To (λ e p is. subst P (sym is) p) f.inputs inputs in
      let from_latches : AllByRecursion To literals =
      (rec_map To (λ (l : LatchLine). l.literal) f.latches).1 (rec_weaker (λ (l : LatchLine). P (l.literal / 2)) (λ (l : LatchLine). To l.literal) (λ l p is. subst P (sym is) p) f.latches latches) in
      let from_gates : AllByRecursion To (map (λ (g : GateLine). g.lhs) f.gates) =
      (rec_map To (λ (g : GateLine). g.lhs) f.gates).1 (rec_weaker (λ (g : GateLine). (g.lhs / 2 == v) ≡ false) (λ (g : GateLine). To g.lhs)
      (λ g h is. absurd (eqb-false (g.lhs / 2) v h (sym is))) f.gates (none_found (λ (g : GateLine). g.lhs / 2 == v) f.gates none)) in
      let all : AllByRecursion To (defined f) =
      (rec_append To (f.inputs ++ literals) (map (λ (g : GateLine). g.lhs) f.gates)).1 ((rec_append To f.inputs literals).1 (from_inputs, from_latches), from_gates) in
      at_half (P v) v (defined f) all there

  -- and so is a known variable that is a leaf
  pub leaf_is : (v : ℕ) → is_known f v ≡ true → kind_of f v ≡ Leaf → P v
  leaf_is zero known leaf = absurd (not_false leaf)
    where
      not_false : False ≡ Leaf → ⊥
      not_false e = cc
  leaf_is (suc v) known leaf = by_case (variable_case f (suc v))
    where
      there : is_defined f (suc v) ≡ true
      there = let same : (suc v == 0) ≡ false = ne_eqb (suc v) 0 (λ e. absurd (omega arith)) in ap (λ b. b || is_defined f (suc v)) (sym same) ∙ known

      gate_leaf : {a b : AigEdge} → And a b ≡ Leaf → ⊥
      gate_leaf e = cc

      by_case : VariableCase f (suc v) → P (suc v)
      by_case (at_zero z k) = absurd (omega arith)
      by_case (at_leaf none k) = without_gate (suc v) there none
      by_case (at_gate g found k) = absurd (elim (and_of-cases (edge_of f g.rhs0) (edge_of f g.rhs1)) [
        | inl p ↦ gate_leaf (sym p.0 ∙ sym k ∙ leaf)
        | inr p ↦ gate_leaf (sym p.0 ∙ sym k ∙ leaf)
      ])
