-- Literals of a clause that are kept once.
use Rattle.aig_base.proofs.Words.{◌≡◌, ℕ, ◌+◌, ◌<◌, Bool, true, false, ◌||◌, List, [], ◌∷◌, ◌++◌, length, replicate, get_or, refl, sym, ap, subst, ◌∙◌, arith, below_more, All, slice_index_or, slice_set, fun_ext, nat_eq_equiv, common_steps, All-append, All-cons, Contains-append_left, Contains-get_or, Contains-push, list_any-append, Contains-from_any}
use Rattle.std.specs.Cmp.{IsEquivalence}
use Rattle.std.specs.List.{Contains, IsDistinct}
use Rattle.std.proofs.lemmas.Map.Keys.{IsDistinct-push}
use Rattle.aig_base.specs.declared.logic.literal.Lit.{Lit}
use Rattle.aig_base.specs.Clauses.{number_of_lit}
use Rattle.aig_refutation.specs.Propagation.{also, has, is_lit, marked}
use Rattle.aig_refutation.proofs.Literals.{marked_also}
use Rattle.aig_refutation.proofs.Rup.{same_lit}

-- of the first i literals of a clause each is kept once, and marked
pub record KeepsOnce (marks : List Bool) (clause : List Lit) (i : ℕ) (kept : List Lit) : Type 0 where
  pub are_marked : marked marks ≡ has kept
  pub from : All (Contains clause) kept
  pub all : (k : ℕ) → k < i → (d : Lit) → Contains kept (slice_index_or clause k d)
  pub once : IsDistinct is_lit kept

pub is_lit-equiv : IsEquivalence is_lit
is_lit-equiv = record {
  refl = λ x. nat_eq_equiv.refl x.code;
  symm = λ x y. nat_eq_equiv.symm x.code y.code;
  congr = λ x y z. nat_eq_equiv.congr x.code y.code z.code;
}

pub marked-none : (n : ℕ) (lit : Lit) → marked (replicate n false) lit ≡ false
marked-none n lit = grind (arith, common_steps)

pub none_kept : (n : ℕ) (clause : List Lit) → KeepsOnce (replicate n false) clause 0 []
unfolding IsDistinct
none_kept n clause = record {
  are_marked = fun_ext (marked-none n);
  from = λ k d h. absurd (omega (arith, h));
  all = λ k h d. absurd (omega (arith, h));
  once = tt;
}

turned : (a b : Bool) → (a || (b || false)) ≡ (b || a)
turned true true = refl
turned true false = refl
turned false true = refl
turned false false = refl

pub has_more : (kept : List Lit) (lit other : Lit) → also lit (has kept) other ≡ has (kept ++ lit ∷ []) other
has_more kept lit other =
    sym (list_any-append (is_lit other) kept (lit ∷ []) ∙ ap (λ (b : Bool). has kept other || (b || false)) (is_lit-equiv.symm other lit) ∙ turned (has kept other) (is_lit lit other))

module _ (marks : List Bool) (clause : List Lit) (i : ℕ) (lit d : Lit) (there : i < length clause) (is : lit ≡ get_or clause i d) (kept : List Lit) (before : KeepsOnce marks clause i kept) where
  -- the literal at i is the same whatever stands for none
  at_i : (e : Lit) → slice_index_or clause i e ≡ lit
  at_i e = grind (arith, common_steps)

  -- a literal that isn't marked is kept
  pub one_kept : marked marks lit ≡ false → number_of_lit lit < length marks → KeepsOnce (slice_set marks (number_of_lit lit) true) clause (i + 1) (kept ++ lit ∷ [])
  one_kept new fits = record {
    are_marked = marked_also marks lit fits ∙ ap (also lit) before.are_marked ∙ fun_ext (has_more kept lit);
    from = All-append (Contains clause) kept (lit ∷ []) before.from (All-cons (Contains clause) lit [] (subst (Contains clause) (sym is) (Contains-get_or clause i d there)) (λ k e h. absurd (omega (arith, h))));
    all =
        below_more (λ k. (e : Lit) → Contains (kept ++ lit ∷ []) (slice_index_or clause k e)) i
        (λ k h e. Contains-append_left kept (lit ∷ []) (slice_index_or clause k e) (before.all k h e))
        (λ e. subst (Contains (kept ++ lit ∷ [])) (sym (at_i e)) (Contains-push kept lit));
    once = IsDistinct-push is_lit-equiv kept lit before.once (ap (λ (holds : Lit → Bool). holds lit) (sym before.are_marked) ∙ new);
  }

  -- a literal that is marked is there
  pub none_more : marked marks lit ≡ true → KeepsOnce marks clause (i + 1) kept
  none_more old = record {
    are_marked = before.are_marked;
    from = before.from;
    all =
        below_more (λ k. (e : Lit) → Contains kept (slice_index_or clause k e)) i before.all
        (λ e. subst (Contains kept) (sym (at_i e)) (Contains-from_any same_lit lit kept (ap (λ (holds : Lit → Bool). holds lit) (sym before.are_marked) ∙ old)));
    once = before.once;
  }
