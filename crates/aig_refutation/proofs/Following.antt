-- Clauses that follow, and are added.
use Rattle.std.proofs.Common.{◌≡◌, ℕ, ◌+◌, ◌<◌, true, Result, Ok, Err, OnOk, OnErr, Some, List, [], ◌∷◌, ◌++◌, length, take, get_or, slice_get, refl, sym, ap, subst, ◌∙◌, arith, append_assoc, append-nil}
use Rattle.std.specs.Prelude.{All, slice_index_or}
use Rattle.std.specs.List.{Contains}
use Rattle.aig_base.proofs.Words.{take_more, All-append, All-cons, All-contains, All-contains_itself, Contains-get_or, get_or_from_slice_get, slice_get_within}
use Rattle.std.proofs.lemmas.List.Sums.{AllPass-from_list_all}
use Rattle.aig_base.specs.declared.logic.literal.Lit.{Lit}
use Rattle.aig_base.specs.Clauses.{AreBelow, is_true_clause, variable_of}
use Rattle.aig_base.specs.Formula.{clauses_in}
use Rattle.aig_refutation.specs.Formula.{Implies}
use Rattle.aig_refutation.specs.Propagation.{is_rup}
use Rattle.aig_refutation.proofs.Literals.{clause_there}
use Rattle.aig_refutation.proofs.Rup.{rup_is_true}

-- a clause that follows along its hints is implied by the clauses
pub rup_implied : (clauses : List (List Lit)) (clause : List Lit) (hints : List ℕ) → is_rup (slice_get clauses) clause hints ≡ true → Implies clauses clause
rup_implied clauses clause hints rup v holds =
    rup_is_true v (slice_get clauses) (λ n other is. clause_there (λ c. is_true_clause v c ≡ true) clauses n other is (AllPass-from_list_all (is_true_clause v) clauses holds)) clause hints rup

pub clauses_in-append : (lists more : List (List (List Lit))) → clauses_in (lists ++ more) ≡ clauses_in lists ++ clauses_in more
clauses_in-append [] more = refl
clauses_in-append (clauses ∷ lists) more = ap (λ rest. clauses ++ rest) (clauses_in-append lists more) ∙ sym (append_assoc clauses (clauses_in lists) (clauses_in more))

-- one more element of a list is put after what was there
pub put_more : {X : Type 0} (base now xs : List X) (i : ℕ) (x : X) → i < length xs → slice_get xs i ≡ Some x → now ≡ base ++ take i xs → now ++ x ∷ [] ≡ base ++ take (i + 1) xs
put_more base now xs i x there is so_far =
    ap (λ front. front ++ x ∷ []) so_far
    ∙ append_assoc base (take i xs) (x ∷ [])
    ∙ ap (λ last. base ++ (take i xs ++ last ∷ [])) (sym (get_or_from_slice_get xs i x x is))
    ∙ ap (λ back. base ++ back) (sym (take_more xs i x there))

-- and so one more list of clauses
pub clauses_in_more : (now : List (List Lit)) (lists : List (List (List Lit))) (i : ℕ) (clauses : List (List Lit)) → i < length lists → slice_get lists i ≡ Some clauses → now ≡ clauses_in (take i lists) → now ++ clauses ≡ clauses_in (take (i + 1) lists)
clauses_in_more now lists i clauses there is so_far =
    ap (λ front. front ++ clauses) so_far
    ∙ ap (λ back. clauses_in (take i lists) ++ back) (sym (append-nil clauses))
    ∙ ap (λ last. clauses_in (take i lists) ++ clauses_in (last ∷ [])) (sym (get_or_from_slice_get lists i clauses clauses is))
    ∙ sym (clauses_in-append (take i lists) (get_or lists i clauses ∷ []))
    ∙ ap clauses_in (sym (take_more lists i clauses there))

-- one clause more whose variables are below the bound
pub below_more : (variables : ℕ) (clauses : List (List Lit)) (clause : List Lit) → AreBelow variables clauses → All (λ lit. variable_of lit < variables) clause → AreBelow variables (clauses ++ clause ∷ [])
below_more variables clauses clause before here =
    let Below : List Lit → Type 0 = λ lits. All (λ lit. variable_of lit < variables) lits in
    All-append Below clauses (clause ∷ []) before (All-cons Below clause [] here (λ k d h. absurd (omega arith)))

-- what holds of each clause holds of each that is kept
pub kept_all : (P : List Lit → Type 0) (clauses kept : List (List Lit)) → All P clauses → All (Contains clauses) kept → All P kept
kept_all P clauses kept each there k d h = All-contains P clauses (slice_index_or kept k d) each (there k d h)

pub kept_below : (variables : ℕ) (clauses kept : List (List Lit)) → AreBelow variables clauses → All (Contains clauses) kept → AreBelow variables kept
kept_below variables clauses kept below there = kept_all (λ clause. All (λ lit. variable_of lit < variables) clause) clauses kept below there

pub kept_itself : (clauses : List (List Lit)) → All (Contains clauses) clauses
kept_itself clauses = All-contains_itself clauses

-- one clause more that is kept
pub kept_more : (clauses kept now : List (List Lit)) (i : ℕ) (clause : List Lit) → slice_get clauses i ≡ Some clause → All (Contains clauses) kept → now ≡ kept ++ clause ∷ [] → All (Contains clauses) now
kept_more clauses kept now i clause is before e =
    let there : Contains clauses clause = subst (Contains clauses) (get_or_from_slice_get clauses i clause [] is) (Contains-get_or clauses i [] (slice_get_within clauses i clause is)) in
    subst (All (Contains clauses)) (sym e) (All-append (Contains clauses) kept (clause ∷ []) before (All-cons (Contains clauses) clause [] there (λ k d h. absurd (omega arith))))

-- what holds of each literal of a clause holds of each that is kept
pub kept_literals : (P : Lit → Type 0) (clause kept : List Lit) → All P clause → All (Contains clause) kept → All P kept
kept_literals P clause kept each there k d h = All-contains P clause (slice_index_or kept k d) each (there k d h)

-- where a clause is added, or none
module _ {X E : Type 0} where
  pub below_either : (r : Result X E) (variables : ℕ) (old now : List (List Lit)) (clause : List Lit) → OnOk r (now ≡ old ++ clause ∷ []) → OnErr r (now ≡ old)
      → AreBelow variables old → All (λ lit. variable_of lit < variables) clause → AreBelow variables now
  below_either (Ok x) variables old now clause ok err below here = subst (AreBelow variables) (sym ok) (below_more variables old clause below here)
  below_either (Err e) variables old now clause ok err below here = subst (AreBelow variables) (sym err) below

  -- where clauses are kept, or all are
  pub kept_either : (r : Result X E) (variables : ℕ) (given middle now : List (List Lit)) → middle ≡ given → OnOk r (All (Contains middle) now) → OnErr r (now ≡ middle)
      → AreBelow variables given → AreBelow variables now
  kept_either (Ok x) variables given middle now e ok err below = kept_below variables middle now (subst (AreBelow variables) (sym e) below) ok
  kept_either (Err f) variables given middle now e ok err below = subst (AreBelow variables) (sym (err ∙ e)) below
