-- Steps without numbers keep at least the clauses that they are to leave.
use Rattle.aig_base.proofs.Words.{◌≡◌, ℕ, ◌+◌, ◌-◌, ◌<◌, ◌^◌, Bool, true, false, cond, not, Option, Some, None, Result, Ok, Err, List, [], ◌∷◌, length, refl, sym, ap, subst, ◌∙◌, arith, eqb-true, false≢true, nat_tests}
use Rattle.std.specs.Prelude.{◌==◌, ◌/◌, is_some, min, nat_lt}
use Rattle.aig_base.specs.declared.logic.literal.Lit.{Lit}
use Rattle.aig_refutation.specs.declared.error.RefutationError.{RefutationError}
use Rattle.aig_refutation.specs.declared.error.RefutationError.TheVariants as errors
use Rattle.aig_refutation.specs.declared.step.Step as held
use Rattle.aig_refutation.specs.Ahead.{AddsAhead, IsAhead, LearnsAhead, StaysAhead, TakesPlain, copies}
use Rattle.aig_refutation.specs.Checking.{Live, all_live, clause_at, deleted, numbered_clause, with_clause, with_next, without_clause}
use Rattle.aig_refutation.specs.Reading.{plain_by}
use Rattle.aig_refutation.specs.Steps.{Drops, Follows, Learns, are_same, dropped, is_empty, is_unit, without_one}
use Rattle.aig_refutation.specs.Tables.{Holds, HoldsFormula, HoldsNext, SaysSame, Table, clause_in, entry_at}
use Rattle.aig_refutation.specs.Tokens.{TellsOfText}
use Rattle.aig_refutation.proofs.Adding.{deleted_one}
use Rattle.aig_refutation.proofs.Amounts.{copies_without, enough_all, enough_next, enough_without, row_all, row_next, row_without}
use Rattle.aig_refutation.proofs.Known.{tells_on}
use Rattle.aig_refutation.proofs.Numbering.{number_new}
use Rattle.aig_refutation.proofs.Sameness.{said_are_same}

-- ---- a clause is added

module _ (old new : Table) (clauses : List (List Lit)) (ahead : IsAhead clauses old) (number : ℕ)
    (next : number ≡ old.added + 1) (fits : number < 2 ^ 32) (clause : List Lit) where
  abbrev more : Live
  more = with_next ahead.live clause

  used_count : length ahead.live.used + 1 ≡ number
  used_count = omega (arith, ahead.holds.added, next, fits)

  unused : entry_at old.places number ≡ 0
  unused = by (entry_at old.places number == 0) refl
    where
      by : (b : Bool) → (entry_at old.places number == 0) ≡ b → entry_at old.places number ≡ 0
      by true e = eqb-true (entry_at old.places number) 0 e
      by false e =
          absurd (false≢true (sym (ahead.row number (omega (arith, used_count)))
          ∙ ahead.holds.used number ∙ ap not e))

  taken : numbered_clause ahead.live number clause ≡ Ok more
  taken =
      let small : nat_lt (min (old.added + 16384) (2 ^ 64 - 1)) (number / 4) ≡ false =
      grind (arith, nat_tests, next, fits) in
      number_new old ahead.live number clause ahead.holds unused fits small
      ∙ ap (λ (n : ℕ). Ok (with_clause ahead.live n clause)) (sym used_count)

  more_ahead : Holds new more → IsAhead (clause ∷ clauses) new
  more_ahead holds = record {
    live = more;
    holds = holds;
    row = row_next ahead.live ahead.row clause;
    enough = enough_next ahead.live ahead.row clause (λ c. copies c clauses) ahead.enough;
  }

  pub put_ahead : {X : Type 0} (r : Result X RefutationError)
      → ((live : Live) → Holds old live → HoldsNext new r (numbered_clause live number clause))
      → StaysAhead (clause ∷ clauses) new r
  put_ahead (Ok x) moves =
      let then = moves ahead.live ahead.holds in
      let same : then.0 ≡ more = let e = sym then.1 ∙ taken in cc in
      more_ahead (subst (Holds new) same then.2)
  put_ahead (Err e) moves =
      tells_on e (numbered_clause ahead.live number clause ≡ Err e) ⊥
      (λ wrong. let both = sym taken ∙ wrong in absurd cc) (moves ahead.live ahead.holds)

-- ---- a clause is dropped

-- there are enough without it
pub drop_ahead : (t : Table) (clauses : List (List Lit)) (dropped : List Lit) → IsAhead clauses t
    → IsAhead (without_one dropped clauses) t
drop_ahead t clauses dropped ahead = record {
  live = ahead.live;
  holds = ahead.holds;
  row = ahead.row;
  enough = λ c.
      let fewer = copies_without c dropped clauses in
      let before = ahead.enough c in
      omega (arith, fewer, before);
}

module _ (old new : Table) (clauses : List (List Lit)) (ahead : IsAhead clauses old) (number : ℕ)
    (own dropped : List Lit) (there : clause_in old number ≡ Some own)
    (same : are_same dropped own ≡ true) where
  abbrev less : Live
  less = without_clause ahead.live number

  alike : (o : Option (List Lit)) → clause_at ahead.live number ≡ o → SaysSame (Some own) o
      → (clause : List Lit) × (clause_at ahead.live number ≡ Some clause)
      × (are_same dropped clause ≡ true)
  alike None e says = absurd says
  alike (Some clause) e says = (clause, e, said_are_same dropped own clause says same)

  found : (clause : List Lit) × (clause_at ahead.live number ≡ Some clause)
      × (are_same dropped clause ≡ true)
  found =
      alike (clause_at ahead.live number) refl
      (subst (λ (o : Option (List Lit)). SaysSame o (clause_at ahead.live number)) there
      (ahead.holds.there number))

  gone : deleted ahead.live (number ∷ []) ≡ Ok less
  gone = let is = found in deleted_one ahead.live number (ap is_some is.1)

  pub delete_ahead : {X : Type 0} (r : Result X RefutationError)
      → ((live : Live) → Holds old live → HoldsNext new r (deleted live (number ∷ [])))
      → StaysAhead (without_one dropped clauses) new r
  delete_ahead (Ok x) moves =
      let is = found in
      let then = moves ahead.live ahead.holds in
      let next : then.0 ≡ less = let e = sym then.1 ∙ gone in cc in
      record {
        live = less;
        holds = subst (Holds new) next then.2;
        row = row_without ahead.live number is.0 dropped clauses ahead.row;
        enough = enough_without ahead.live number is.0 dropped clauses ahead.enough is.1 is.2;
      }
  delete_ahead (Err e) moves =
      tells_on e (deleted ahead.live (number ∷ []) ≡ Err e) ⊥
      (λ wrong. let both = sym gone ∙ wrong in absurd cc) (moves ahead.live ahead.holds)

-- ---- a formula's clauses

pub formula_ahead : (t : Table) → HoldsFormula t → IsAhead t.clauses t
unfolding all_live
formula_ahead t formula =
    let none : Live = record { clauses = []; used = [] } in
    record {
      live = all_live t.clauses;
      holds = formula.holds;
      row = row_all t.clauses none (λ n h. refl);
      enough = λ c.
          let all = enough_all t.clauses none (λ n h. refl) (λ c. 0) (λ c. omega arith) c in
          omega (arith, all);
    }

-- one clause less is there, too
pub ahead_less : (t : Table) (clauses : List (List Lit)) (clause : List Lit)
    → IsAhead (clause ∷ clauses) t → IsAhead clauses t
ahead_less t clauses clause ahead = record {
  live = ahead.live;
  holds = ahead.holds;
  row = ahead.row;
  enough = λ c. let before = ahead.enough c in omega (arith, before);
}

pub adds_stays : (clauses : List (List Lit)) (clause : List Lit) (new : Table) (o : Option ℕ)
    → AddsAhead clauses clause new (Ok o) → IsAhead clauses new
adds_stays clauses clause new (Some n) ahead = ahead_less new clauses clause ahead
adds_stays clauses clause new None ahead = ahead

-- ---- steps

pub learns_from : (clauses : List (List Lit)) (clause : List Lit) (new : Table)
    (r : Result Bool RefutationError) → StaysAhead (clause ∷ clauses) new r
    → is_empty clause ≡ false → LearnsAhead clauses clause new r
learns_from clauses clause new (Ok true) stays some = tt
learns_from clauses clause new (Ok false) stays some = (stays, some)
learns_from clauses clause new (Err e) stays some =
    tells_on e ⊥ ((e ≡ errors.Step) × (Follows clauses clause → ⊥))
    (λ none. absurd none) stays

pub learns_err : (clauses : List (List Lit)) (clause : List Lit) (new : Table)
    (e : RefutationError) → TellsOfText e ⊥ → LearnsAhead clauses clause new (Err e)
learns_err clauses clause new e tells =
    tells_on e ⊥ ((e ≡ errors.Step) × (Follows clauses clause → ⊥))
    (λ none. absurd none) tells

module _ (clauses : List (List Lit)) (s : held.Step) (new : Table)
    (r : Result Bool RefutationError) where
  pub takes_learned : s.deletes ≡ false → LearnsAhead clauses s.clause.items new r
      → TakesPlain clauses (plain_by s) new r
  takes_learned is learns =
      subst (λ (b : Bool). TakesPlain clauses (cond b (Drops s.clause.items)
      (Learns s.clause.items)) new r) (sym is) learns

  takes_drops : s.deletes ≡ true → StaysAhead (dropped s.clause.items clauses) new r
      → TakesPlain clauses (plain_by s) new r
  takes_drops is stays =
      subst (λ (b : Bool). TakesPlain clauses (cond b (Drops s.clause.items)
      (Learns s.clause.items)) new r) (sym is) stays

  pub takes_dropped : s.deletes ≡ true → is_unit s.clause.items ≡ false
      → StaysAhead (without_one s.clause.items clauses) new r → TakesPlain clauses (plain_by s) new r
  takes_dropped is long stays =
      takes_drops is (subst (λ (b : Bool). StaysAhead (cond b clauses
      (without_one s.clause.items clauses)) new r) (sym long) stays)

  pub takes_unit : s.deletes ≡ true → is_unit s.clause.items ≡ true → StaysAhead clauses new r
      → TakesPlain clauses (plain_by s) new r
  takes_unit is unit stays =
      takes_drops is (subst (λ (b : Bool). StaysAhead (cond b clauses
      (without_one s.clause.items clauses)) new r) (sym unit) stays)
