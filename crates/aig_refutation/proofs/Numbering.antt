-- A table of numbers, beside the clauses that are there.
use Rattle.std.proofs.Common.{◌≡◌, ◌≢◌, inl, inr, ℕ, zero, suc, ◌+◌, ◌-◌, ◌*◌, ◌<◌, ◌≤◌, ◌^◌, Bool, true, false, cond, not, ◌||◌, List, [], ◌∷◌, ◌++◌, length, length-append, slice_get, Option, Some, None, refl, sym, ap, subst, ◌∙◌, arith}
use Rattle.std.specs.Prelude.{◌==◌, ◌/◌, OnOk, min, nat_le, nat_lt, slice_index_or, is_some, Result, Ok, Err}
use Rattle.aig_base.proofs.Words.{AllByRecursion, lookup, false≢true, eqb-true, ne_eqb, cond-true, cond-false, nat_tests, nat_eq_equiv, common_steps, slice_get-get_or, slice_get_past}
use borrow.Author.Tests.{ltb-true}
use Rattle.aig_base.specs.declared.logic.literal.Lit.{Lit}
use Rattle.aig_refutation.specs.Checking.{Live, all_live, are_in, clause_at, is_named, is_too_large, is_used, numbered_clause, with_clause, with_next, without_clause}
use Rattle.aig_refutation.specs.declared.error.RefutationError.{RefutationError}
use Rattle.aig_refutation.proofs.Known.{tells_on}
use Rattle.std.proofs.lemmas.List.Sums.{fold-append}
use Rattle.aig_refutation.specs.declared.error.RefutationError.TheVariants as errors
use Rattle.aig_refutation.specs.Propagation.{reading_of}
use Rattle.aig_refutation.specs.Steps.{without}
use Rattle.aig_refutation.specs.Tables.{Holds, HoldsFormula, IsEntry, IsInRow, IsMoved, IsMovedUpTo, HoldsNext, RefusesClause, IsNumbering, SaysSame, Table, clause_by, clause_in, entry_at, place_by, place_in}

-- ---- clauses by entries

last_item : (clauses : List (List Lit)) (clause : List Lit) → slice_get (clauses ++ clause ∷ [])
    (length clauses) ≡ Some clause
last_item [] clause = refl
last_item (one ∷ clauses) clause = last_item clauses clause

front_item : (clauses : List (List Lit)) (clause : List Lit) (k : ℕ) → k < length clauses →
    slice_get (clauses ++ clause ∷ []) k ≡ slice_get clauses k
front_item [] clause k h = absurd (omega (arith, h))
front_item (one ∷ clauses) clause zero h = refl
front_item (one ∷ clauses) clause (suc k) h = front_item clauses clause k (omega (arith, h))

above : (n : ℕ) → (n == 0) ≡ false → 0 < n
above zero e = absurd (false≢true (sym e))
above (suc n) e = omega arith

not_below : (m n : ℕ) → nat_lt m n ≡ false → n ≤ m
not_below m n e = grind (arith, nat_tests, e)

pub some_item : (clauses : List (List Lit)) (k : ℕ) → is_some (slice_get clauses k) ≡ nat_lt k (length
    clauses)
some_item clauses k = by (nat_lt k (length clauses)) refl
  where
    by : (b : Bool) → nat_lt k (length clauses) ≡ b → is_some (slice_get clauses k) ≡ b
    by true e = ap is_some (slice_get-get_or clauses k [] (ltb-true k (length clauses) e))
    by false e = ap is_some (slice_get_past clauses k (not_below k (length clauses) e))

-- a clause more doesn't change those that are there
front_clause : (clauses : List (List Lit)) (clause : List Lit) (entry : ℕ) → entry ≤ length clauses
    → clause_by (clauses ++ clause ∷ []) entry ≡ clause_by clauses entry
front_clause clauses clause entry h = by (entry == 0) refl
  where
    by : (b : Bool) → (entry == 0) ≡ b → cond b None (slice_get (clauses ++ clause ∷ []) (entry -
        1)) ≡ cond b None (slice_get clauses (entry - 1))
    by true e = refl
    by false e = front_item clauses clause (entry - 1) (omega (arith, h, ne_from e))
      where
        ne_from : (entry == 0) ≡ false → 0 < entry
        ne_from f = above entry f

last_clause : (clauses : List (List Lit)) (clause : List Lit) → clause_by (clauses ++ clause ∷ [])
    (length clauses + 1) ≡ Some clause
last_clause clauses clause =
    let at : length clauses + 1 - 1 ≡ length clauses = omega arith in
    rw (ne_eqb (length clauses + 1) 0 (λ e. omega arith), at) (last_item clauses clause)

-- and an entry past them all names none
no_clause : (clauses : List (List Lit)) (entry : ℕ) → length clauses < entry → clause_by clauses
    entry ≡ None
no_clause clauses entry h = rw (ne_eqb entry 0 (λ e. omega (arith, h))) (slice_get_past clauses
    (entry - 1) (omega (arith, h)))

last_number : (numbers : List ℕ) (number i : ℕ) → i ≡ length numbers → slice_index_or (numbers ++
    number ∷ []) i 0 ≡ number
last_number numbers number i e = grind (arith, common_steps)

front_number : (numbers : List ℕ) (number i : ℕ) → i < length numbers → slice_index_or (numbers ++
    number ∷ []) i 0 ≡ slice_index_or numbers i 0
front_number numbers number i h = grind (arith, common_steps)

-- each of some clauses is that of its number
abbrev Own : Live → List (ℕ × List Lit) → Type 0
Own live = AllByRecursion (λ entry. clause_at live entry.0 ≡ Some entry.1)

-- ---- a clause is added

module _ (old new : Table) (live : Live) (number : ℕ) (clause said : List Lit) (before : Holds old
    live) (few : length old.clauses + 1 < 2 ^ 32 - 1)
    (clauses : new.clauses ≡ old.clauses ++ clause ∷ []) (numbers : new.numbers ≡ old.numbers ++
    number ∷ [])
    (entries : (n : ℕ) → entry_at new.places n ≡ cond (n == number) (length old.clauses + 1)
    (entry_at old.places n)) where
  count : length new.clauses ≡ length old.clauses + 1
  count = ap length clauses ∙ length-append old.clauses (clause ∷ [])

  entry_new : (n : ℕ) → (n == number) ≡ true → entry_at new.places n ≡ length old.clauses + 1
  entry_new n is = entries n ∙ cond-true (n == number) _ _ is

  entry_old : (n : ℕ) → (n == number) ≡ false → entry_at new.places n ≡ entry_at old.places n
  entry_old n is = entries n ∙ cond-false (n == number) _ _ is

  within : (n : ℕ) → IsEntry (length new.clauses) (entry_at new.places n)
  within n = by (n == number) refl
    where
      kept : IsEntry (length old.clauses) (entry_at old.places n) → (n == number) ≡ false → IsEntry
          (length new.clauses) (entry_at new.places n)
      kept (inl h) is = inl (let e = entry_old n is in omega (arith, count))
      kept (inr h) is = inr (entry_old n is ∙ h)

      by : (b : Bool) → (n == number) ≡ b → IsEntry (length new.clauses) (entry_at new.places n)
      by true is = inl (let e = entry_new n is in omega (arith, count))
      by false is = kept (before.table.numbering.within n) is

  named : (n i : ℕ) → entry_at new.places n ≡ i + 1 → i < length new.clauses → slice_index_or
      new.numbers i 0 ≡ n
  named n i is h = rw numbers (by (n == number) refl)
    where
      kept : IsEntry (length old.clauses) (entry_at old.places n) → (n == number) ≡ false →
          slice_index_or (old.numbers ++ number ∷ []) i 0 ≡ n
      kept (inl le) e =
          let same = entry_old n e in
          let below : i < length old.clauses = omega arith in
          front_number old.numbers number i (omega (arith, before.table.count)) ∙
          before.table.numbering.named n i (sym same ∙ is) below
      kept (inr deleted) e = let same = entry_old n e in absurd (omega (arith, count, few))

      by : (b : Bool) → (n == number) ≡ b → slice_index_or (old.numbers ++ number ∷ []) i 0 ≡ n
      by true e = let same = entry_new n e in last_number old.numbers number i (omega (
        arith,
        before.table.count,
      )) ∙ sym (eqb-true n number e)
      by false e = kept (before.table.numbering.within n) e

  there : ((holds : Lit → Bool) → reading_of holds clause ≡ reading_of holds said) → (n : ℕ) →
      SaysSame (clause_in new n) (clause_at (with_clause live number said) n)
  there same n = by (n == number) refl
    where
      kept_clause : IsEntry (length old.clauses) (entry_at old.places n) → clause_by (old.clauses
          ++ clause ∷ []) (entry_at old.places n) ≡ clause_in old n
      kept_clause (inl le) = front_clause old.clauses clause (entry_at old.places n) le
      kept_clause (inr deleted) =
          no_clause (old.clauses ++ clause ∷ []) (entry_at old.places n) (omega (
            arith,
            length-append old.clauses (clause ∷ []),
          ))
          ∙ sym (no_clause old.clauses (entry_at old.places n) (omega arith))

      by : (b : Bool) → (n == number) ≡ b → SaysSame (clause_by new.clauses (entry_at new.places
          n)) (cond (n == number) (Some said) (clause_at live n))
      by true e = rw (e, clauses, entry_new n e, last_clause old.clauses clause) same
      by false e = rw (e, clauses, entry_old n e, kept_clause (before.table.numbering.within n))
          (before.there n)

  used : (n : ℕ) → is_used (with_clause live number said) n ≡ not (entry_at new.places n == 0)
  used n = by (n == number) refl
    where
      by : (b : Bool) → (n == number) ≡ b → (n == number || is_used live n) ≡ not (entry_at
          new.places n == 0)
      by true e = rw (
        e,
        ne_eqb (entry_at new.places n) 0 (λ z. let same = entry_new n e in omega
            arith),
      ) refl
      by false e = rw (e, entry_old n e) (before.used n)

  -- a number that was never used names none of the clauses
  own_more : entry_at old.places number ≡ 0 → (some : List (ℕ × List Lit)) → Own live some → Own
      (with_clause live number said) some
  own_more none [] each = tt
  own_more none (entry ∷ some) each = (
    by (entry.0 == number) refl,
    own_more none some each.1,
  )
    where
      no_other : SaysSame (clause_in old number) (clause_at live number) → clause_at live number ≡
          Some entry.1 → ⊥
      no_other s is = rw (none, is) at s

      by : (b : Bool) → (entry.0 == number) ≡ b → cond (entry.0 == number) (Some said) (clause_at
          live entry.0) ≡ Some entry.1
      by true e = absurd (no_other (before.there number) (ap (clause_at live) (sym (eqb-true entry.0
          number e)) ∙ each.0))
      by false e = rw e each.0

  pub holds_added : ((holds : Lit → Bool) → reading_of holds clause ≡ reading_of holds said) →
      entry_at old.places number ≡ 0 →
      new.added ≡ min (old.added + 1) (2 ^ 64 - 1) → Holds new (with_clause live number said)
  holds_added same none more = record {
    table = record {
      count = rw (numbers, clauses) (length-append old.numbers (number ∷ []) ∙ ap (λ k. k + 1)
          before.table.count ∙ sym (length-append old.clauses (clause ∷ [])));
      numbering = record {
        few = omega (arith, count, few);
        within = within;
        named = named;
      };
    };
    there = there same;
    own = (
      cond-true (number == number) (Some said) (clause_at live number) (nat_eq_equiv.refl number),
      own_more none live.clauses before.own,
    );
    used = used;
    added = let so_far = before.added in omega arith;
  }

-- ---- a clause is deleted

-- an entry names a clause where it has a place
pub named_by_place : (t : Table) (live : Live) (n : ℕ) → Holds t live → is_named live n ≡ is_some
    (place_in t n)
named_by_place t live n h = by (clause_in t n) (clause_at live n) (h.there n) ∙ placed (entry_at
    t.places n)
  where
    by : (a b : Option (List Lit)) → SaysSame a b → is_some b ≡ is_some a
    by None None same = refl
    by None (Some b) same = absurd same
    by (Some a) None same = absurd same
    by (Some a) (Some b) same = refl

    placed : (entry : ℕ) → is_some (clause_by t.clauses entry) ≡ is_some (place_by (length
        t.clauses) entry)
    placed entry = at (entry == 0)
      where
        at : (b : Bool) → is_some (cond b None (slice_get t.clauses (entry - 1))) ≡ is_some (cond b
            None (cond (nat_lt (entry - 1) (length t.clauses)) (Some (entry - 1)) None))
        at true = refl
        at false = some_item t.clauses (entry - 1) ∙ some_if (nat_lt (entry - 1) (length t.clauses))
          where
            some_if : (c : Bool) → c ≡ is_some (cond c (Some (entry - 1)) None)
            some_if true = refl
            some_if false = refl

either_same : (b : Bool) (o : Option (List Lit)) → o ≡ cond b o o
either_same true o = refl
either_same false o = refl

pub lookup_without : (n number : ℕ) (clauses : List (ℕ × List Lit)) → lookup (λ m. n == m) (without
    (number ∷ []) clauses) ≡ cond (n == number) None (lookup (λ m. n == m) clauses)
lookup_without n number [] = either_same (n == number) None
lookup_without n number (entry ∷ clauses) = by (number == entry.0) (n == entry.0) (n == number)
    refl refl refl (lookup_without n number clauses)
  where
    by : (a b c : Bool) → (number == entry.0) ≡ a → (n == entry.0) ≡ b → (n == number) ≡ c → lookup
        (λ m. n == m) (without (number ∷ []) clauses) ≡ cond c None (lookup (λ m. n == m) clauses)
        → lookup (λ m. n == m) (cond (not (a || false)) (entry ∷ without (number ∷ []) clauses)
        (without (number ∷ []) clauses)) ≡ cond c None (cond b (Some entry.1) (lookup (λ m. n
        == m) clauses))
    by true true true p q r h = h
    by true true false p q r h = absurd (false≢true (sym r ∙ subst (λ k. (n == k) ≡ true) (sym
        (eqb-true number entry.0 p)) q))
    by true false true p q r h = h
    by true false false p q r h = h
    by false true true p q r h = absurd (false≢true (sym p ∙ subst (λ k. (k == entry.0) ≡ true)
        (eqb-true n number r) q))
    by false true false p q r h = ap (λ b. cond b (Some entry.1) (lookup (λ m. n == m) (without
        (number ∷ []) clauses))) q
    by false false true p q r h = ap (λ b. cond b (Some entry.1) (lookup (λ m. n == m) (without
        (number ∷ []) clauses))) q ∙ h
    by false false false p q r h = ap (λ b. cond b (Some entry.1) (lookup (λ m. n == m) (without
        (number ∷ []) clauses))) q ∙ h

module _ (old new : Table) (live : Live) (number : ℕ) (before : Holds old live) (clauses :
    new.clauses ≡ old.clauses) (numbers : new.numbers ≡ old.numbers) (some : entry_at old.places
    number ≢ 0)
    (entries : (n : ℕ) → entry_at new.places n ≡ cond (n == number) (2 ^ 32 - 1) (entry_at
    old.places n)) where
  gone : (n : ℕ) → (n == number) ≡ true → entry_at new.places n ≡ 2 ^ 32 - 1
  gone n is = entries n ∙ cond-true (n == number) _ _ is

  stays : (n : ℕ) → (n == number) ≡ false → entry_at new.places n ≡ entry_at old.places n
  stays n is = entries n ∙ cond-false (n == number) _ _ is

  own_without : (some : List (ℕ × List Lit)) → Own live some → Own (without_clause live number)
      (without (number ∷ []) some)
  own_without [] each = tt
  own_without (entry ∷ some) each = by (number == entry.0) refl (own_without some each.1)
    where
      by : (b : Bool) → (number == entry.0) ≡ b → Own (without_clause live number) (without (number
          ∷ []) some) → Own (without_clause live number) (cond (not (b || false)) (entry ∷ without
          (number ∷ []) some) (without (number ∷ []) some))
      by true e later = later
      by false e later = (
        lookup_without entry.0 number live.clauses ∙ cond-false (entry.0 == number) None (clause_at
            live entry.0) (nat_eq_equiv.symm entry.0 number ∙ e) ∙ each.0,
        later,
      )

  pub holds_removed : new.added ≡ old.added → Holds new (without_clause live number)
  holds_removed same = record {
    table = record {
      count = rw (numbers, clauses) before.table.count;
      numbering = record {
        few = rw clauses before.table.numbering.few;
        within = λ n. within n (n == number) refl;
        named = λ n i is h. named n i (n == number) refl is (rw clauses at h);
      };
    };
    there = λ n. there n (n == number) refl;
    own = own_without live.clauses before.own;
    used = λ n. used n (n == number) refl;
    added = same ∙ before.added;
  }
    where
      within : (n : ℕ) (b : Bool) → (n == number) ≡ b → IsEntry (length new.clauses) (entry_at
          new.places n)
      within n true e = inr (gone n e)
      within n false e = rw (clauses, stays n e) (before.table.numbering.within n)

      named : (n i : ℕ) (b : Bool) → (n == number) ≡ b → entry_at new.places n ≡ i + 1 → i < length
          old.clauses → slice_index_or new.numbers i 0 ≡ n
      named n i true e is h = let g = gone n e in absurd (omega (arith, before.table.numbering.few))
      named n i false e is h = rw numbers (before.table.numbering.named n i (sym (stays n e) ∙ is)
          h)

      there : (n : ℕ) (b : Bool) → (n == number) ≡ b → SaysSame (clause_in new n) (clause_at
          (without_clause live number) n)
      there n true e = rw (
        lookup_without n number live.clauses,
        e,
        gone n e,
        clauses,
        no_clause
            old.clauses (2 ^ 32 - 1) before.table.numbering.few,
      ) tt
      there n false e = rw (lookup_without n number live.clauses, e, stays n e, clauses)
          (before.there n)

      used : (n : ℕ) (b : Bool) → (n == number) ≡ b → is_used live n ≡ not (entry_at new.places n
          == 0)
      used n true e = before.used n ∙ rw (
        gone n e,
        eqb-true n number e,
        ne_eqb (entry_at
            old.places number) 0 some,
      ) refl
      used n false e = rw (stays n e) (before.used n)

-- ---- clauses are moved together

pub holds_moved : (old new : Table) (live : Live) → Holds old live → IsMoved old.clauses old.places
    new.clauses new.numbers new.places → new.added ≡ old.added → Holds new live
holds_moved old new live before moved same = record {
  table = record {
    count = moved.count;
    numbering = record {
      few = omega (arith, moved.most, before.table.numbering.few);
      within = λ n. within n (before.table.numbering.within n);
      named = λ n i is h. named n i (before.table.numbering.within n) is h;
    };
  };
  own = before.own;
  there = λ n. there n (before.table.numbering.within n);
  used = λ n. before.used n ∙ ap not (sym (zero_same n (before.table.numbering.within n)));
  added = same ∙ before.added;
}
  where
    within : (n : ℕ) → IsEntry (length old.clauses) (entry_at old.places n) → IsEntry (length
        new.clauses) (entry_at new.places n)
    within n (inl le) = inl (zero_or (entry_at old.places n) refl)
      where
        zero_or : (k : ℕ) → entry_at old.places n ≡ k → entry_at new.places n ≤ length new.clauses
        zero_or zero e = omega (arith, moved.unused n e)
        zero_or (suc k) e = moved.below n (omega arith) le
    within n (inr deleted) = inr (moved.kept n (omega (arith, before.table.numbering.few)) ∙
        deleted)

    named : (n i : ℕ) → IsEntry (length old.clauses) (entry_at old.places n) → entry_at new.places
        n ≡ i + 1 → i < length new.clauses → slice_index_or new.numbers i 0 ≡ n
    named n i (inl le) is h = by (entry_at old.places n) refl
      where
        by : (k : ℕ) → entry_at old.places n ≡ k → slice_index_or new.numbers i 0 ≡ n
        by zero e = absurd (omega (arith, moved.unused n e))
        by (suc k) e =
            let at : entry_at new.places n - 1 ≡ i = omega arith in
            subst (λ (j : ℕ). slice_index_or new.numbers j 0 ≡ n) at (moved.named n (omega arith)
            le)
    named n i (inr deleted) is h = absurd (omega (
      arith,
      moved.kept n (omega (
        arith,
        before.table.numbering.few,
      )),
      moved.most,
      before.table.numbering.few,
    ))

    there : (n : ℕ) → IsEntry (length old.clauses) (entry_at old.places n) → SaysSame (clause_in
        new n) (clause_at live n)
    there n (inl le) = by (entry_at old.places n) refl
      where
        by : (k : ℕ) → entry_at old.places n ≡ k → SaysSame (clause_in new n) (clause_at live n)
        by zero e =
            let none : clause_in old n ≡ None = rw e refl in
            rw (moved.unused n e) (subst (λ (o : Option (List Lit)). SaysSame o (clause_at live n))
            none (before.there n))
        by (suc k) e =
            let above : 0 < entry_at new.places n = moved.above n (omega arith) le in
            let here : clause_in new n ≡ clause_in old n =
            rw (
              ne_eqb (entry_at new.places n) 0 (λ z. omega arith),
              ne_eqb (entry_at old.places n)
                  0 (λ z. omega arith),
            ) (moved.same n (omega arith) le) in
            subst (λ (o : Option (List Lit)). SaysSame o (clause_at live n)) (sym here)
            (before.there n)
    there n (inr deleted) =
        let stays = moved.kept n (omega (arith, before.table.numbering.few)) in
        let none : clause_in new n ≡ clause_in old n =
        no_clause new.clauses (entry_at new.places n) (omega (
          arith,
          moved.most,
          before.table.numbering.few,
        )) ∙ sym (no_clause old.clauses (entry_at old.places n)
        (omega (arith, before.table.numbering.few))) in
        subst (λ (o : Option (List Lit)). SaysSame o (clause_at live n)) (sym none) (before.there n)

    zero_same : (n : ℕ) → IsEntry (length old.clauses) (entry_at old.places n) → (entry_at
        new.places n == 0) ≡ (entry_at old.places n == 0)
    zero_same n (inl le) = by (entry_at old.places n) refl
      where
        by : (k : ℕ) → entry_at old.places n ≡ k → (entry_at new.places n == 0) ≡ (entry_at
            old.places n == 0)
        by zero e = rw (moved.unused n e, e) refl
        by (suc k) e = ne_eqb (entry_at new.places n) 0 (λ z. omega (
          arith,
          moved.above n (omega
              arith) le,
        )) ∙ sym (ne_eqb (entry_at old.places n) 0 (λ z. omega arith))
    zero_same n (inr deleted) = ap (λ (k : ℕ). k == 0) (moved.kept n (omega (
      arith,
      before.table.numbering.few,
    )))

-- ---- clauses are moved one by one

module _ (clauses : List (List Lit)) (before : List ℕ) where
  pub moved_start : IsMovedUpTo 0 clauses before [] [] before
  moved_start = record {
    count = refl;
    most = omega arith;
    above = λ n h k. absurd (omega arith);
    below = λ n h k. absurd (omega arith);
    same = λ n h k. absurd (omega arith);
    named = λ n h k. absurd (omega arith);
    unused = λ n h. h;
    kept = λ n h. refl;
  }

  module _ (own : List ℕ) (numbering : IsNumbering clauses own before) (i : ℕ) (inside : i < length
      clauses) (live : List (List Lit)) (numbers now : List ℕ) (so_far : IsMovedUpTo i clauses
      before live numbers now) where
    -- the number of this place
    is_here : (n : ℕ) → entry_at before n ≡ i + 1 → n ≡ slice_index_or own i 0
    is_here n e = sym (numbering.named n i e inside)

    -- where that number names another place, none names this one
    pub moved_past : entry_at now (slice_index_or own i 0) ≢ i + 1 → IsMovedUpTo (i + 1) clauses
        before live numbers now
    moved_past other = record {
      count = so_far.count;
      most = omega (arith, so_far.most);
      above = λ n h k. so_far.above n h (below n h k);
      below = λ n h k. so_far.below n h (below n h k);
      same = λ n h k. so_far.same n h (below n h k);
      named = λ n h k. so_far.named n h (below n h k);
      unused = so_far.unused;
      kept = λ n h. so_far.kept n (omega (arith, h));
    }
      where
        not_here : (n : ℕ) → entry_at before n ≡ i + 1 → ⊥
        not_here n e = other (subst (λ (m : ℕ). entry_at now m ≡ i + 1) (is_here n e) (so_far.kept
            n (omega (arith, e)) ∙ e))

        below : (n : ℕ) → 0 < entry_at before n → entry_at before n ≤ i + 1 → entry_at before n ≤ i
        below n h k = omega (arith, h, k, not_here n)

    -- where it names this place, its clause is moved
    module _ (here : entry_at now (slice_index_or own i 0) ≡ i + 1) (clause : List Lit) (is :
        slice_get clauses i ≡ Some clause) (more : List (List Lit)) (more_numbers then : List ℕ)
        (place : ℕ)
        (clauses_are : more ≡ live ++ clause ∷ []) (numbers_are : more_numbers ≡ numbers ++
        slice_index_or own i 0 ∷ []) (place_is : place ≡ length live + 1)
        (entries : (n : ℕ) → entry_at then n ≡ cond (n == slice_index_or own i 0) place (entry_at
        now n)) where
      was : entry_at before (slice_index_or own i 0) ≡ i + 1
      was =
          let m = slice_index_or own i 0 in
          grind (arith, so_far.unused m, so_far.below m, so_far.kept m, here, so_far.most)

      count_more : length more ≡ length live + 1
      count_more = ap length clauses_are ∙ length-append live (clause ∷ [])

      at_number : (n : ℕ) → (n == slice_index_or own i 0) ≡ true → entry_at then n ≡ length live + 1
      at_number n e = entries n ∙ cond-true _ _ _ e ∙ place_is

      at_other : (n : ℕ) → (n == slice_index_or own i 0) ≡ false → entry_at then n ≡ entry_at now n
      at_other n e = entries n ∙ cond-false _ _ _ e

      -- another number's place was before
      earlier : (n : ℕ) → (n == slice_index_or own i 0) ≡ false → 0 < entry_at before n → entry_at
          before n ≤ i + 1 → entry_at before n ≤ i
      earlier n e h k = omega (
        arith,
        h,
        k,
        λ (f : entry_at before n ≡ i + 1). false≢true (sym e ∙
            subst (λ (m : ℕ). (n == m) ≡ true) (is_here n f) (nat_eq_equiv.refl n)),
      )

      pub moved_more : IsMovedUpTo (i + 1) clauses before more more_numbers then
      moved_more = record {
        count = rw (numbers_are, clauses_are) (length-append numbers _ ∙ ap (λ (k : ℕ). k + 1)
            so_far.count ∙ sym (length-append live _));
        most = omega (arith, count_more, so_far.most);
        above = λ n h k. above n h k (n == slice_index_or own i 0) refl;
        below = λ n h k. below n h k (n == slice_index_or own i 0) refl;
        same = λ n h k. same n h k (n == slice_index_or own i 0) refl;
        named = λ n h k. named n h k (n == slice_index_or own i 0) refl;
        unused = λ n e. unused n e (n == slice_index_or own i 0) refl;
        kept = λ n h. kept n h (n == slice_index_or own i 0) refl;
      }
        where
          above : (n : ℕ) → 0 < entry_at before n → entry_at before n ≤ i + 1 → (b : Bool) → (n ==
              slice_index_or own i 0) ≡ b → 0 < entry_at then n
          above n h k true e = let f = at_number n e in omega arith
          above n h k false e = let f = at_other n e in omega (
            arith,
            so_far.above n h (earlier n e
                h k),
          )

          below : (n : ℕ) → 0 < entry_at before n → entry_at before n ≤ i + 1 → (b : Bool) → (n ==
              slice_index_or own i 0) ≡ b → entry_at then n ≤ length more
          below n h k true e = let f = at_number n e in omega (arith, count_more)
          below n h k false e = let f = at_other n e in omega (
            arith,
            count_more,
            so_far.below n h
                (earlier n e h k),
          )

          same : (n : ℕ) → 0 < entry_at before n → entry_at before n ≤ i + 1 → (b : Bool) → (n ==
              slice_index_or own i 0) ≡ b → slice_get more (entry_at then n - 1) ≡ slice_get
              clauses (entry_at before n - 1)
          same n h k true e =
              let at : entry_at then n - 1 ≡ length live = let f = at_number n e in omega arith in
              let old : entry_at before n - 1 ≡ i = let f = ap (entry_at before) (eqb-true n _ e)
              in omega (arith, was) in
              rw (at, old, clauses_are) (last_item live clause ∙ sym is)
          same n h k false e =
              let lower = so_far.below n h (earlier n e h k) in
              let some = so_far.above n h (earlier n e h k) in
              rw (at_other n e, clauses_are) (front_item live clause (entry_at now n - 1) (omega
              (arith, lower, some)) ∙ so_far.same n h (earlier n e h k))

          named : (n : ℕ) → 0 < entry_at before n → entry_at before n ≤ i + 1 → (b : Bool) → (n ==
              slice_index_or own i 0) ≡ b → slice_index_or more_numbers (entry_at then n - 1) 0 ≡ n
          named n h k true e =
              let at : entry_at then n - 1 ≡ length numbers = let f = at_number n e in omega
              (arith, so_far.count) in
              rw numbers_are (last_number numbers _ (entry_at then n - 1) at ∙ sym (eqb-true n _ e))
          named n h k false e =
              let lower = so_far.below n h (earlier n e h k) in
              let some = so_far.above n h (earlier n e h k) in
              rw (at_other n e, numbers_are) (front_number numbers _ (entry_at now n - 1) (omega
              (arith, lower, some, so_far.count)) ∙ so_far.named n h (earlier n e h k))

          unused : (n : ℕ) → entry_at before n ≡ 0 → (b : Bool) → (n == slice_index_or own i 0) ≡ b
              → entry_at then n ≡ 0
          unused n h true e = absurd (let f = ap (entry_at before) (eqb-true n _ e) in omega
              (arith, was, h))
          unused n h false e = at_other n e ∙ so_far.unused n h

          kept : (n : ℕ) → i + 1 < entry_at before n → (b : Bool) → (n == slice_index_or own i 0) ≡
              b → entry_at then n ≡ entry_at before n
          kept n h true e = absurd (let f = ap (entry_at before) (eqb-true n _ e) in omega (
            arith,
            was,
            h,
          ))
          kept n h false e = at_other n e ∙ so_far.kept n (omega (arith, h))

-- ---- numbers that are new

large_same : (count number : ℕ) → number < 2 ^ 32 → nat_le (4 * count + 65540) number ≡ nat_lt (min
    (min count (2 ^ 64 - 1) + 16384) (2 ^ 64 - 1)) (number / 4)
large_same count number h = grind (arith, nat_tests)

module _ (t : Table) (live : Live) (number : ℕ) (said : List Lit) (before : Holds t live) where
  pub number_twice : entry_at t.places number ≢ 0 → numbered_clause live number said ≡ Err
      errors.Twice
  number_twice some = rw (before.used number, ne_eqb (entry_at t.places number) 0 some) refl

  module _ (none : entry_at t.places number ≡ 0) (fits : number < 2 ^ 32) where
    size : is_too_large live number ≡ nat_lt (min (t.added + 16384) (2 ^ 64 - 1)) (number / 4)
    size = large_same (length live.used) number fits ∙ ap (λ (k : ℕ). nat_lt (min (k + 16384) (2 ^
        64 - 1)) (number / 4)) (sym before.added)

    pub number_large : nat_lt (min (t.added + 16384) (2 ^ 64 - 1)) (number / 4) ≡ true →
        numbered_clause live number said ≡ Err errors.Large
    number_large large = rw (before.used number, none, size ∙ large) refl

    pub number_new : nat_lt (min (t.added + 16384) (2 ^ 64 - 1)) (number / 4) ≡ false →
        numbered_clause live number said ≡ Ok (with_clause live number said)
    number_new small = rw (before.used number, none, size ∙ small) refl

pub placed_some : (count entry place : ℕ) → place_by count entry ≡ Some place → entry ≢ 0
placed_some count entry place is none = let at_none : place_by count 0 ≡ Some place = subst (λ (e :
    ℕ). place_by count e ≡ Some place) none is in cc

-- ---- clauses of a formula

past_entry : (places : List ℕ) (n : ℕ) → length places ≤ n → entry_at places n ≡ 0
past_entry places n h = grind (arith, common_steps)

all_live_more : (clauses : List (List Lit)) (clause : List Lit) → all_live (clauses ++ clause ∷ [])
    ≡ with_next (all_live clauses) clause
unfolding all_live
all_live_more clauses clause = fold-append with_next _ clauses (clause ∷ [])

module _ (old : Table) (before : HoldsFormula old) (number : ℕ) (is : number ≡ old.added + 1) where
  used_count : length (all_live old.clauses).used ≡ old.added
  used_count = omega (arith, before.holds.added, before.row.all, before.holds.table.numbering.few)

  pub is_next : (clause : List Lit) → numbered_clause (all_live old.clauses) number clause ≡ Ok
      (with_clause (all_live old.clauses) number clause)
  is_next clause =
      let few = before.holds.table.numbering.few in
      let all = before.row.all in
      let small : nat_lt (min (old.added + 16384) (2 ^ 64 - 1)) (number / 4) ≡ false = grind
      (arith, nat_tests, few, all, is) in
      number_new old (all_live old.clauses) number clause before.holds (past_entry old.places
      number (omega (arith, is, before.row.next))) (omega (arith, few, all, is)) small

  same_next : (clause : List Lit) → with_clause (all_live old.clauses) number clause ≡ all_live
      (old.clauses ++ clause ∷ [])
  same_next clause = ap (λ (n : ℕ). with_clause (all_live old.clauses) n clause) (is ∙ ap
      (λ (n : ℕ). n + 1) (sym used_count)) ∙ sym (all_live_more old.clauses clause)

  pub assumed : {X : Type 0} (new : Table) (clause : List Lit) (r : Result X RefutationError) →
      HoldsNext new r (numbered_clause (all_live old.clauses) number clause) → OnOk r (new.clauses ≡
      old.clauses ++ clause ∷ []) → OnOk r (IsInRow new)
      → OnOk r (HoldsFormula new)
  assumed new clause (Ok x) moves clauses row = record {
    holds =
        let live = all_live old.clauses in
        let same : with_clause live number clause ≡ moves.0 = let e = sym (is_next clause) ∙
        moves.1 in cc in
        let list : all_live (old.clauses ++ clause ∷ []) ≡ all_live new.clauses = ap all_live (sym
        clauses) in
        subst (λ (l : Live). Holds new l) (sym same ∙ same_next clause ∙ list) moves.2;
    row = row;
  }
  assumed new clause (Err e) moves clauses row = tt

  pub not_refused : (new : Table) (variables : ℕ) (clause : List Lit) (r : Result (Unit {0})
      RefutationError) → are_in variables clause ≡ true → HoldsNext new r (numbered_clause (all_live
      old.clauses) number clause) → RefusesClause variables clause r
  not_refused new variables clause (Ok x) inside moves = inside
  not_refused new variables clause (Err e) inside moves =
      let live = all_live old.clauses in
      tells_on e (numbered_clause live number clause ≡ Err e) ((e ≡ errors.Variable) × (are_in
      variables clause ≡ false)) (λ wrong. absurd (let b = sym (is_next clause) ∙ wrong in cc))
      moves
