-- Which nodes are kept: those that stand in the list, at the places of their new numbers.
use Rattle.aig_base.proofs.Words.{◌≡◌, ℕ, suc, Bool, true, false, eqb, List, [], ◌∷◌, get_or, refl, sym, ap, ◌∙◌, arith, Contains, eqb-true, eqb-false, eq-eqb, false≢true, list_any_at, get_or_default}
use Rattle.aig_circuit.specs.Renumber.{is_in}
use Rattle.aig_renumber.specs.Numbers.{HavePlaces, IsIndex}

-- what the list has is in it
pub is_in-back : (ns : List ℕ) (n : ℕ) → is_in ns n ≡ true → Contains ns n
is_in-back [] n h = absurd (false≢true h)
is_in-back (m ∷ ns) n h = by_test (eqb m n) refl h (is_in-back ns n)
  where
    by_test : (b : Bool) → eqb m n ≡ b → is_in (m ∷ ns) n ≡ true → (is_in ns n ≡ true → Contains ns n) → Contains (m ∷ ns) n
    by_test true same h rest = (0, omega arith, eqb-true m n same)
    by_test false differs h rest = let r = rest (let e : is_in (m ∷ ns) n ≡ is_in ns n = rw differs refl in sym e ∙ h) in (suc r.0, omega (arith, r.1), r.2)

pub is_in-there : (ns : List ℕ) (n : ℕ) → Contains ns n → is_in ns n ≡ true
is_in-there ns n has = list_any_at (λ m. eqb m n) ns has.0 n has.1 (eq-eqb (get_or ns has.0 n) n has.2)

module _ (numbers kept : List ℕ) (has : HavePlaces numbers kept) where
  -- a node is kept exactly where it is the node of its new number
  pub is_in-test : (n : ℕ) → IsIndex numbers n → eqb (get_or kept (get_or numbers n 0) 0) n ≡ is_in kept n
  is_in-test n h = by_test (eqb (get_or kept (get_or numbers n 0) 0) n) refl (is_in kept n) refl
    where
      by_test : (b : Bool) → eqb (get_or kept (get_or numbers n 0) 0) n ≡ b → (d : Bool) → is_in kept n ≡ d → eqb (get_or kept (get_or numbers n 0) 0) n ≡ is_in kept n
      by_test true same d is = same ∙ sym (is_in-there kept n (get_or numbers n 0, has.within n 0 h, get_or_default kept (get_or numbers n 0) n 0 (has.within n 0 h) ∙ eqb-true _ n same))
      by_test false differs false is = differs ∙ sym is
      by_test false differs true is =
          let there = is_in-back kept n is in
          let at : get_or kept there.0 0 ≡ n = get_or_default kept there.0 0 n there.1 ∙ there.2 in
          let place : get_or numbers n 0 ≡ there.0 = ap (λ m. get_or numbers m 0) (sym at) ∙ has.places there.0 there.1 in
          absurd (eqb-false _ n differs (ap (λ i. get_or kept i 0) place ∙ at))

  -- kept nodes have numbers of their own
  pub kept-apart : (m n : ℕ) → is_in kept m ≡ true → is_in kept n ≡ true → get_or numbers m 0 ≡ get_or numbers n 0 → m ≡ n
  kept-apart m n is_m is_n same = sym (back m is_m) ∙ ap (λ i. get_or kept i 0) same ∙ back n is_n
    where
      back : (n : ℕ) → is_in kept n ≡ true → get_or kept (get_or numbers n 0) 0 ≡ n
      back n is =
          let there = is_in-back kept n is in
          let at : get_or kept there.0 0 ≡ n = get_or_default kept there.0 0 n there.1 ∙ there.2 in
          let place : get_or numbers n 0 ≡ there.0 = ap (λ m. get_or numbers m 0) (sym at) ∙ has.places there.0 there.1 in
          ap (λ i. get_or kept i 0) place ∙ at
