-- Steps that refute clauses are taken, where their numbers are in order.
use Rattle.aig_base.proofs.Words.{◌≡◌, ℕ, ◌+◌, ◌<◌, ◌==◌, Bool, true, false, ◌&&◌, ◌||◌, not, cond, List, [], ◌∷◌, length, Option, Some, None, Result, Ok, Err, refl, sym, ap, ◌∙◌, arith, eqb-true, ne_eqb, and_from, and_parts, fold, fun_ext, list_all, list_any, lookup, false≢true}
use Rattle.aig_base.specs.declared.logic.literal.Lit.{Lit}
use Rattle.aig_refutation.specs.declared.error.RefutationError.{RefutationError}
use Rattle.aig_refutation.specs.declared.error.RefutationError.TheVariants as errors
use Rattle.aig_refutation.specs.Checking.{Live, added, all_live, clause_at, deleted, is_named, outcome, stands, taken, with_clause, with_next, without_clause}
use Rattle.aig_refutation.specs.Propagation.{is_rup, is_tautology}
use Rattle.aig_refutation.specs.Rat.{is_apart, is_rat, is_rat_refutation, refutes_by_rat}
use Rattle.aig_refutation.specs.Steps.{Step, Adds, Deletes, is_empty, is_refutation, numbered, refutes, without}
use Rattle.aig_refutation.specs.Written.{AreInOrder}

-- the clause of a number
abbrev found : List (ℕ × List Lit) → ℕ → Option (List Lit)
found clauses n = lookup (λ m. n == m) clauses

-- the clauses that are there have the same numbers
abbrev AreFound : List (ℕ × List Lit) → Live → Type 0
AreFound clauses live = (n : ℕ) → found clauses n ≡ clause_at live n

-- ---- deletions

abbrev is_among : List ℕ → ℕ → Bool
is_among numbers n = list_any (λ k. k == n) numbers

found-without : (numbers : List ℕ) (clauses : List (ℕ × List Lit)) (n : ℕ) → found (without numbers clauses) n ≡ cond (is_among numbers n) None (found clauses n)
found-without numbers [] n = none (is_among numbers n) None refl
  where
    none : (b : Bool) (o : Option (List Lit)) → o ≡ None → o ≡ cond b None o
    none true o is = is
    none false o is = refl
found-without numbers (entry ∷ clauses) n = by (is_among numbers entry.0) (n == entry.0) refl refl (found-without numbers clauses n)
  where
    same : (c : Bool) → (n == entry.0) ≡ true → is_among numbers entry.0 ≡ c → is_among numbers n ≡ c
    same c f e = ap (is_among numbers) (eqb-true n entry.0 f) ∙ e

    by : (b c : Bool) → is_among numbers entry.0 ≡ b → (n == entry.0) ≡ c → found (without numbers clauses) n ≡ cond (is_among numbers n) None (found clauses n)
        → found (cond (not b) (entry ∷ without numbers clauses) (without numbers clauses)) n ≡ cond (is_among numbers n) None (cond c (Some entry.1) (found clauses n))
    by true true e f later = later ∙ rw (same true f e) refl
    by true false e f later = later
    by false true e f later = rw (f, same false f e) refl
    by false false e f later = rw f later

clause_at-deleted : (numbers : List ℕ) (live next : Live) → deleted live numbers ≡ Ok next → (n : ℕ) → clause_at next n ≡ cond (is_among numbers n) None (clause_at live n)
unfolding deleted
clause_at-deleted [] live next is n = let same : live ≡ next = cc in ap (λ (l : Live). clause_at l n) (sym same)
clause_at-deleted (m ∷ numbers) live next is n = by (is_named live m) (λ e. clause_at-deleted numbers (without_clause live m) next e n) is
  where
    either : (a b : Bool) (o : Option (List Lit)) → cond b None (cond (a || false) None o) ≡ cond (a || b) None o
    either true true o = refl
    either true false o = refl
    either false true o = refl
    either false false o = refl

    by : (b : Bool) → (deleted (without_clause live m) numbers ≡ Ok next → clause_at next n ≡ cond (is_among numbers n) None (clause_at (without_clause live m) n))
        → cond b (deleted (without_clause live m) numbers) (Err errors.Unnamed) ≡ Ok next → clause_at next n ≡ cond ((m == n) || is_among numbers n) None (clause_at live n)
    by true later e =
        later e ∙ ap (λ o. cond (is_among numbers n) None o) (found-without (m ∷ []) live.clauses n) ∙ either (m == n) (is_among numbers n) (clause_at live n)
    by false later e = absurd cc

found_deleted : (numbers : List ℕ) (clauses : List (ℕ × List Lit)) (live next : Live) → AreFound clauses live → deleted live numbers ≡ Ok next → AreFound (without numbers clauses) next
found_deleted numbers clauses live next are is n =
    found-without numbers clauses n ∙ ap (λ o. cond (is_among numbers n) None o) (are n) ∙ sym (clause_at-deleted numbers live next is n)

-- ---- the clauses at first

abbrev or_else : Option (List Lit) → Option (List Lit) → Option (List Lit)
or_else (Some clause) other = Some clause
or_else None other = other

found_below : (clauses : List (List Lit)) (k n : ℕ) → n < k → found (numbered k clauses) n ≡ None
found_below [] k n below = refl
found_below (clause ∷ clauses) k n below = rw (ne_eqb n k (λ e. omega arith), found_below clauses (k + 1) n (omega arith)) refl

clause_at-numbered : (clauses : List (List Lit)) (live : Live) (n : ℕ) → clause_at (fold with_next live clauses) n ≡ or_else (found (numbered (length live.used + 1) clauses) n) (clause_at live n)
clause_at-numbered [] live n = refl
clause_at-numbered (clause ∷ clauses) live n =
    clause_at-numbered clauses (with_next live clause) n
    ∙ ap (λ (k : ℕ). or_else (found (numbered (k + 1) clauses) n) (clause_at (with_next live clause) n)) longer
    ∙ by (n == length live.used + 1) refl
  where
    longer : length (with_next live clause).used ≡ length live.used + 1
    longer = omega arith

    by : (b : Bool) → (n == length live.used + 1) ≡ b
        → or_else (found (numbered (length live.used + 1 + 1) clauses) n) (cond (n == length live.used + 1) (Some clause) (clause_at live n))
        ≡ or_else (cond (n == length live.used + 1) (Some clause) (found (numbered (length live.used + 1 + 1) clauses) n)) (clause_at live n)
    by true e = let same = eqb-true n (length live.used + 1) e in rw (e, found_below clauses (length live.used + 1 + 1) n (omega (arith, same))) refl
    by false e = rw e refl

found_first : (clauses : List (List Lit)) → AreFound (numbered 1 clauses) (all_live clauses)
unfolding all_live
found_first clauses n = alone (found (numbered 1 clauses) n) ∙ sym (clause_at-numbered clauses (record { clauses = []; used = [] }) n)
  where
    alone : (o : Option (List Lit)) → o ≡ or_else o None
    alone None = refl
    alone (Some clause) = refl

-- ---- all clauses that are there

-- what holds of all clauses of the one list holds of all of the other
abbrev AreSame : List (ℕ × List Lit) → Live → Type 0
AreSame clauses live = (p : ℕ × List Lit → Bool) → list_all p clauses ≡ list_all p live.clauses

all_without : (numbers : List ℕ) (clauses : List (ℕ × List Lit)) (p : ℕ × List Lit → Bool) → list_all p (without numbers clauses) ≡ list_all (λ entry. is_among numbers entry.0 || p entry) clauses
all_without numbers [] p = refl
all_without numbers (entry ∷ clauses) p = by (is_among numbers entry.0) (all_without numbers clauses p)
  where
    by : (b : Bool)
        → list_all p (without numbers clauses) ≡ list_all (λ e. is_among numbers e.0 || p e) clauses
        → list_all p (cond (not b) (entry ∷ without numbers clauses) (without numbers clauses)) ≡ ((b || p entry) && list_all (λ e. is_among numbers e.0 || p e) clauses)
    by true later = later
    by false later = ap (λ (b : Bool). p entry && b) later

all_deleted : (numbers : List ℕ) (live next : Live) → deleted live numbers ≡ Ok next
    → (p : ℕ × List Lit → Bool)
    → list_all p next.clauses ≡ list_all (λ entry. is_among numbers entry.0 || p entry) live.clauses
unfolding deleted
all_deleted [] live next is p = let same : live ≡ next = cc in ap (λ (l : Live). list_all p l.clauses) (sym same)
all_deleted (m ∷ numbers) live next is p = by (is_named live m) (λ e. all_deleted numbers (without_clause live m) next e p) is
  where
    either : (a b c : Bool) → ((a || false) || (b || c)) ≡ ((a || b) || c)
    either true b c = refl
    either false b c = refl

    by : (b : Bool) → (deleted (without_clause live m) numbers ≡ Ok next → list_all p next.clauses ≡ list_all (λ e. is_among numbers e.0 || p e) (without_clause live m).clauses)
        → cond b (deleted (without_clause live m) numbers) (Err errors.Unnamed) ≡ Ok next
        → list_all p next.clauses ≡ list_all (λ e. is_among (m ∷ numbers) e.0 || p e) live.clauses
    by true later e =
        later e ∙ all_without (m ∷ []) live.clauses (λ e. is_among numbers e.0 || p e)
        ∙ ap (λ (q : ℕ × List Lit → Bool). list_all q live.clauses) (fun_ext (λ e. either (m == e.0) (is_among numbers e.0) (p e)))
    by false later e = absurd cc

same_deleted : (numbers : List ℕ) (clauses : List (ℕ × List Lit)) (live next : Live)
    → AreSame clauses live → deleted live numbers ≡ Ok next → AreSame (without numbers clauses) next
same_deleted numbers clauses live next same is p =
    all_without numbers clauses p ∙ same (λ entry. is_among numbers entry.0 || p entry) ∙ sym (all_deleted numbers live next is p)

all_numbered : (clauses : List (List Lit)) (live : Live) (p : ℕ × List Lit → Bool) → list_all p (fold with_next live clauses).clauses ≡ (list_all p (numbered (length live.used + 1) clauses) && list_all p live.clauses)
all_numbered [] live p = refl
all_numbered (clause ∷ clauses) live p =
    all_numbered clauses (with_next live clause) p
    ∙ ap (λ (k : ℕ). list_all p (numbered (k + 1) clauses) && list_all p (with_next live clause).clauses) longer
    ∙ turned (list_all p (numbered (length live.used + 1 + 1) clauses)) (p (length live.used + 1, clause)) (list_all p live.clauses)
  where
    longer : length (with_next live clause).used ≡ length live.used + 1
    longer = omega arith

    turned : (a b c : Bool) → (a && (b && c)) ≡ ((b && a) && c)
    turned true true c = refl
    turned true false c = refl
    turned false true c = refl
    turned false false c = refl

same_first : (clauses : List (List Lit)) → AreSame (numbered 1 clauses) (all_live clauses)
unfolding all_live
same_first clauses p = whole (list_all p (numbered 1 clauses)) ∙ sym (all_numbered clauses (record { clauses = []; used = [] }) p)
  where
    whole : (b : Bool) → b ≡ (b && true)
    whole true = refl
    whole false = refl

rat_same : (clauses : List (ℕ × List Lit)) (live : Live) → AreFound clauses live
    → AreSame clauses live → (clause : List Lit) (hints : List ℕ) (groups : List (Bool × ℕ))
    → is_rat clauses clause hints groups ≡ is_rat live.clauses clause hints groups
rat_same clauses live are same [] hints groups = refl
rat_same clauses live are same (pivot ∷ lits) hints groups =
    ap (λ (f : ℕ → Option (List Lit)). list_all (is_apart f pivot (pivot ∷ lits) hints groups) clauses) (fun_ext are)
    ∙ same (is_apart (clause_at live) pivot (pivot ∷ lits) hints groups)

-- ---- steps

-- a clause that follows or has the RAT property stands
stands_same : (clauses : List (ℕ × List Lit)) (live : Live) → AreFound clauses live
    → AreSame clauses live → (clause : List Lit) (hints : List ℕ) (groups : List (Bool × ℕ))
    → (is_rup (found clauses) clause hints || is_rat clauses clause hints groups) ≡ true
    → stands live clause hints groups ≡ true
stands_same clauses live are same clause hints groups is =
    by (is_rup (clause_at live) clause hints) (is_tautology clause) (is_rat live.clauses clause hints groups)
    (ap (λ (f : ℕ → Option (List Lit)). is_rup f clause hints || is_rat live.clauses clause hints groups) (sym (fun_ext are))
    ∙ ap (λ (b : Bool). is_rup (found clauses) clause hints || b) (sym (rat_same clauses live are same clause hints groups)) ∙ is)
  where
    by : (a b c : Bool) → (a || c) ≡ true → ((a || b) || c) ≡ true
    by true b c e = refl
    by false true c e = refl
    by false false c e = e

module _ (fault : RefutationError) where
  added_ok : (live : Live) (number : ℕ) (clause : List Lit) (hints : List ℕ) (groups : List (Bool × ℕ)) (steps : List Step)
      → AreInOrder live (Adds number clause hints groups ∷ steps)
      → stands live clause hints groups ≡ true
      → added live number clause hints groups ≡ Ok (with_clause live number clause)
  unfolding added
  added_ok live number clause hints groups steps order there =
      rw (order.0, there, order.1, order.2) refl

  refuted_ok : (steps : List Step) (clauses : List (ℕ × List Lit)) (live : Live)
      → AreFound clauses live → AreSame clauses live → AreInOrder live steps
      → refutes_by_rat clauses steps ≡ true → outcome live steps fault ≡ Ok tt
  unfolding outcome taken
  refuted_ok [] clauses live are same order is = absurd (false≢true is)
  refuted_ok (Adds number clause hints groups ∷ steps) clauses live are same order is =
      let parts = and_parts (is_rup (found clauses) clause hints || is_rat clauses clause hints groups) (is_empty clause || refutes_by_rat ((number, clause) ∷ clauses) steps) is in
      rw (added_ok live number clause hints groups steps order (stands_same clauses live are same clause hints groups parts.0))
      (by (is_empty clause) (λ later. refuted_ok steps ((number, clause) ∷ clauses) (with_clause live number clause) more (λ p. ap (λ (b : Bool). p (number, clause) && b) (same p)) order.3 later) parts.1)
    where
      more : AreFound ((number, clause) ∷ clauses) (with_clause live number clause)
      more n = ap (λ o. cond (n == number) (Some clause) o) (are n)

      by : (b : Bool) {r : Result (Unit {0}) RefutationError}
          → (refutes_by_rat ((number, clause) ∷ clauses) steps ≡ true → r ≡ Ok tt)
          → (b || refutes_by_rat ((number, clause) ∷ clauses) steps) ≡ true
          → cond b (Ok tt) r ≡ Ok tt
      by true later e = refl
      by false later e = later e
  refuted_ok (Deletes numbers ∷ steps) clauses live are same order is =
      rw order.1 (refuted_ok steps (without numbers clauses) order.0 (found_deleted numbers clauses live order.0 are order.1) (same_deleted numbers clauses live order.0 same order.1) order.2 is)

-- steps that follow are a refutation with RAT steps
follows_rat : (steps : List Step) (clauses : List (ℕ × List Lit)) → refutes clauses steps ≡ true
    → refutes_by_rat clauses steps ≡ true
follows_rat [] clauses is = is
follows_rat (Deletes numbers ∷ steps) clauses is = follows_rat steps (without numbers clauses) is
follows_rat (Adds number clause hints groups ∷ steps) clauses is =
    let parts = and_parts (is_rup (found clauses) clause hints) (is_empty clause || refutes ((number, clause) ∷ clauses) steps) is in
    and_from (is_rup (found clauses) clause hints || is_rat clauses clause hints groups) (is_empty clause || refutes_by_rat ((number, clause) ∷ clauses) steps)
    (ap (λ (b : Bool). b || is_rat clauses clause hints groups) parts.0)
    (by (is_empty clause) (follows_rat steps ((number, clause) ∷ clauses)) parts.1)
  where
    by : (b : Bool) → (refutes ((number, clause) ∷ clauses) steps ≡ true → refutes_by_rat ((number, clause) ∷ clauses) steps ≡ true)
        → (b || refutes ((number, clause) ∷ clauses) steps) ≡ true
        → (b || refutes_by_rat ((number, clause) ∷ clauses) steps) ≡ true
    by true later e = refl
    by false later e = later e

pub ordered_rat_taken : (clauses : List (List Lit)) (steps : List Step) (fault : RefutationError) → AreInOrder (all_live clauses) steps
    → is_rat_refutation clauses steps ≡ true
    → outcome (all_live clauses) steps fault ≡ Ok tt
ordered_rat_taken clauses steps fault order is =
    refuted_ok fault steps (numbered 1 clauses) (all_live clauses) (found_first clauses) (same_first clauses) order is

pub ordered_taken : (clauses : List (List Lit)) (steps : List Step) (fault : RefutationError) → AreInOrder (all_live clauses) steps
    → is_refutation clauses steps ≡ true → outcome (all_live clauses) steps fault ≡ Ok tt
ordered_taken clauses steps fault order is =
    ordered_rat_taken clauses steps fault order (follows_rat steps (numbered 1 clauses) is)
