-- Marks that are pushed, one after another.
use Rattle.aig_base.proofs.Words.{◌≡◌, ◌≤◌, ◌⊎◌, ◌+◌, ◌<◌, ◌∙◌, ℕ, Bool, false, IsTrue, List, [], ◌∷◌, ◌++◌, ◌↔◌, get_or, length, sym, ap, subst, inl, inr, arith, cases_lt, get_or_append_left, get_or-append_seam}
use Rattle.aig_circuit.specs.Marks.{IsMarked}

-- one more mark tells of one more node
pub marks_more : (marks new : List Bool) (b : Bool) (P : ℕ → Type 0) (k : ℕ) → length marks ≡ k
    → new ≡ marks ++ b ∷ [] → ((n : ℕ) → n < k → IsMarked marks n ↔ P n) → IsTrue b ↔ P k
    → (n : ℕ) → n < k + 1 → IsMarked new n ↔ P n
marks_more marks new b P k long is each last n lt =
    let tells : (x : Bool) → get_or (marks ++ b ∷ []) n false ≡ x → IsTrue x ↔ P n → IsMarked new n ↔ P n =
    λ x e told. subst (λ y. IsTrue y ↔ P n) (sym (ap (λ l. get_or l n false) is ∙ e)) told in
    at (cases_lt n k) tells
  where
    at : (n < k) ⊎ (k ≤ n)
        → ((x : Bool) → get_or (marks ++ b ∷ []) n false ≡ x → IsTrue x ↔ P n → IsMarked new n ↔ P n)
        → IsMarked new n ↔ P n
    at (inl less) tells =
        tells (get_or marks n false) (get_or_append_left marks (b ∷ []) false n (omega (arith, less, long)))
        (each n less)
    at (inr more) tells =
        let same : n ≡ length marks = omega (arith, lt, more, long) in
        tells b (ap (λ i. get_or (marks ++ b ∷ []) i false) same ∙ get_or-append_seam marks b [] false)
        (subst (λ i. IsTrue b ↔ P i) (sym (same ∙ long)) last)
