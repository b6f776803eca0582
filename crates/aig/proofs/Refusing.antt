-- Facts on lists that a refusal tells, or that its absence does.
use Rattle.aig_base.proofs.Words.{◌≡◌, ◌↔◌, ℕ, ◌<◌, Bool, false, None, List, [], ◌∷◌, ◌++◌, length, map, get_or, sym, ap, subst, ◌∙◌, inl, inr, ◌⊎◌, Vec, Global, false≢true, get_or-map, length-map, All-map, Contains-get_or, Contains-append_left, Contains-append_right, Contains-append_cases}
use Rattle.std.specs.Prelude.{IsTrue, All, Any, Contains}
use Rattle.aig_circuit.specs.declared.edge.AigEdge.{AigEdge}
use Rattle.aig_circuit.specs.declared.node.AigLatch.{AigLatch}
use Rattle.aig_circuit.proofs.Words.{edge_to, Circuit, latch_leaves}
use Rattle.aig_format.specs.Writable.{list_lengths}
use Rattle.aig_circuit.proofs.Lists.{All-from_no_Any}

module _ {X : Type 0} (P : X → Type 0) where
  Any-Contains : (xs : List X) (x : X) → Contains xs x → P x → Any P xs
  Any-Contains xs x found has = (found.0, x, found.1, found.2, has)

  -- one list after another
  pub Any-append : (xs ys : List X) → Any P (xs ++ ys) ↔ (Any P xs ⊎ Any P ys)
  Any-append xs ys = (
    λ any. elim (Contains-append_cases xs ys any.1 (any.0, any.2, any.3)) [
      | inl left ↦ inl (Any-Contains xs any.1 left any.4)
      | inr right ↦ inr (Any-Contains ys any.1 right any.4)
    ],
    λ either. elim either [
      | inl any ↦ Any-Contains (xs ++ ys) any.1 (Contains-append_left xs ys any.1 (any.0, any.2, any.3)) any.4
      | inr any ↦ Any-Contains (xs ++ ys) any.1 (Contains-append_right xs ys any.1 (any.0, any.2, any.3)) any.4
    ],
  )

-- the leaf of some latch
pub Any-latch_leaves : (P : ℕ → Type 0) (latchs : List AigLatch) → Any (λ latch. P latch.input) latchs ↔ Any P (latch_leaves latchs)
Any-latch_leaves P latchs = (
  λ any.
      let at : get_or (latch_leaves latchs) any.0 any.1.input ≡ any.1.input = get_or-map (λ (latch : AigLatch). latch.input) latchs any.0 any.1 any.1.input any.2 ∙ ap (λ (latch : AigLatch). latch.input) any.3 in
      (any.0, any.1.input, rw length-map any.2, at, any.4),
  λ any.
      let other : AigLatch = record { input = any.1; next = edge_to 0 false; init = None } in
      let low : any.0 < length latchs = rw length-map at any.2 in
      let at : any.1 ≡ (get_or latchs any.0 other).input = sym any.3 ∙ get_or-map (λ (latch : AigLatch). latch.input) latchs any.0 other any.1 low in
      Any-Contains (λ (latch : AigLatch). P latch.input) latchs (get_or latchs any.0 other) (Contains-get_or latchs any.0 other low) (subst P at any.4),
)

-- the lengths of a circuit's lists, one by one
pub lists-numbers : (P : ℕ → Type 0) (c : Circuit) (i l o b k j f : ℕ) → i ≡ length c.inputs → l ≡ length c.latchs → o ≡ length c.properties.outputs → b ≡ length c.properties.bads → k ≡ length c.properties.constraints → j ≡ length c.properties.justice → f ≡ length c.properties.fairness
    → All P (i ∷ l ∷ o ∷ b ∷ k ∷ j ∷ f ∷ []) ↔ All P (list_lengths c)
lists-numbers P c i l o b k j f ei el eo eb ek ej ef =
    let same : (i ∷ l ∷ o ∷ b ∷ k ∷ j ∷ f ∷ []) ≡ list_lengths c = cc in
    (subst (All P) same, subst (All P) (sym same))

-- a fact on the elements of a list of vectors, by their items
pub sets-items : (P : ℕ → Type 0) (sets : List (Vec AigEdge Global)) → All (λ (set : Vec AigEdge Global). P (length set.items)) sets ↔ All (λ (set : List AigEdge). P (length set)) (map (λ (set : Vec AigEdge Global). set.items) sets)
sets-items P sets = (
  All-map (λ (set : List AigEdge). P (length set)) (λ (set : Vec AigEdge Global). set.items) sets,
  λ all k d h. subst (λ (set : List AigEdge). P (length set)) (get_or-map (λ (set : Vec AigEdge Global). set.items) sets k d d.items h) (all k d.items (rw length-map h)),
)

-- no element where a test of some element failed
pub none_where_false : {X : Type 0} (P : X → Type 0) (xs : List X) (r : Bool) → (IsTrue r ↔ Any P xs) → r ≡ false → All (λ x. ¬ P x) xs
none_where_false P xs r told is = All-from_no_Any P xs (λ any. false≢true (sym is ∙ told.1 any))
