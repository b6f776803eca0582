-- What steps leave can all be true where what was there before can.
use Rattle.aig_base.proofs.Words.{◌≡◌, ◌⊎◌, ℕ, ◌||◌, Bool, true, false, inl, inr, Option, Some, None, Result, Ok, Err, List, [], ◌∷◌, refl, sym, ap, subst, ◌∙◌, false≢true, is_some, list_all, or_cases, slice_get}
use Rattle.aig_base.specs.declared.logic.literal.Lit.{Lit}
use Rattle.aig_base.specs.Clauses.{is_true_clause, literal_value}
use Rattle.aig_refutation.specs.declared.error.RefutationError.{RefutationError}
use Rattle.aig_refutation.specs.declared.error.RefutationError.TheVariants as errors
use Rattle.aig_refutation.specs.Checking.{Live, clause_at, deleted, follows, is_too_large, is_used, numbered_clause, with_clause}
use Rattle.aig_refutation.specs.Closure.{AreTrue, IsImplied}
use Rattle.aig_refutation.specs.Kept.{IsKept, Keeps, KeepsMore, KeepsOrEnds}
use Rattle.aig_refutation.specs.Propagation.{has, is_rup, is_tautology}
use Rattle.aig_refutation.specs.Rat.{is_rat}
use Rattle.aig_refutation.specs.Steps.{is_empty}
use Rattle.aig_refutation.specs.Tables.{Holds, HoldsNext, SaysSame, Table, place_in, places_of}
use Rattle.aig_refutation.specs.Taken.{CanHold, KeepsLive}
use Rattle.aig_refutation.proofs.Apart.{any_among, any_at}
use Rattle.aig_refutation.proofs.HintedRup.{rup_same}
use Rattle.aig_refutation.proofs.RatSteps.{rat_goes_on}
use Rattle.aig_refutation.proofs.Refuting.{AllTrue, empty_false, found_true}
use Rattle.aig_refutation.proofs.Sameness.{said_same}
use Rattle.aig_refutation.proofs.Taken.{chosen, deleted_keeps, follows_true}

-- ---- the clauses that numbers name

-- the clauses of a table are true where those are that are there
pub table_true : (t : Table) (live : Live) → Holds t live → (v : ℕ → Bool)
    → AllTrue v live.clauses → AreTrue v t
table_true t live h v are n clause there =
    by (clause_at live n) refl
    (subst (λ (o : Option (List Lit)). SaysSame o (clause_at live n)) there (h.there n))
  where
    by : (o : Option (List Lit)) → clause_at live n ≡ o → SaysSame (Some clause) o
        → is_true_clause v clause ≡ true
    by None e says = absurd says
    by (Some other) e says =
        any_among (literal_value v) other clause (λ lit is. said_same lit clause other says ∙ is)
        (found_true v live.clauses are n other e)

-- a clause follows along places as it does along the numbers
pub same_follows : (t : Table) (live : Live) → Holds t live → (clause : List Lit)
    (hints : List ℕ) (clauses : List (List Lit)) (places : List ℕ)
    → list_all (λ n. is_some (place_in t n)) hints ≡ true → clauses ≡ t.clauses
    → places ≡ places_of t hints
    → (is_rup (slice_get clauses) clause places || is_tautology clause)
    ≡ follows live clause hints
same_follows t live h clause hints clauses places have list at =
    ap (λ (b : Bool). b || is_tautology clause)
    (ap (λ (l : List (List Lit)). is_rup (slice_get l) clause places) list
    ∙ ap (λ (p : List ℕ). is_rup (slice_get t.clauses) clause p) at
    ∙ rup_same t live h clause hints have)

-- ---- a clause is added

module _ (live : Live) (clause : List Lit) (n : ℕ) where
  pub numbered_is : (next : Live) → numbered_clause live n clause ≡ Ok next
      → with_clause live n clause ≡ next
  numbered_is next is =
      let a = chosen (is_used live n) errors.Twice _ next is in
      let b = chosen (is_too_large live n) errors.Large _ next a.1 in
      let e = b.1 in
      cc

  -- it follows along hints
  pub follows_keeps : (hints : List ℕ) → follows live clause hints ≡ true
      → KeepsLive live (with_clause live n clause)
  follows_keeps hints is can =
      (can.0, (follows_true can.0 live clause hints can.1 is, can.1))

  -- it has the RAT property on one of its literals
  pub rat_keeps : (pivot : Lit) (groups : List (Bool × ℕ)) → has clause pivot ≡ true
      → is_rat live.clauses (pivot ∷ clause) [] groups ≡ true
      → KeepsLive live (with_clause live n clause)
  rat_keeps pivot groups own is can =
      let w = rat_goes_on live.clauses can.0 can.1 (pivot ∷ clause) [] groups is in
      let one = or_cases (literal_value w.0 pivot) (is_true_clause w.0 clause) w.2 in
      (w.0, (by w.0 one, w.1))
    where
      by : (v : ℕ → Bool) → (literal_value v pivot ≡ true) ⊎ (is_true_clause v clause ≡ true)
          → is_true_clause v clause ≡ true
      by v (inl here) = any_at (literal_value v) clause pivot here own
      by v (inr there) = there

  -- it is true where the clauses of the table are
  pub implied_keeps : (t : Table) → Holds t live → IsImplied t clause
      → KeepsLive live (with_clause live n clause)
  implied_keeps t h implied can =
      (can.0, (implied can.0 (table_true t live h can.0 can.1), can.1))

-- ---- one step after another

pub kept_itself : (live : Live) (new : Table) → Holds new live → IsKept live new
kept_itself live new h = (live, h, λ can. can)

pub kept_on : (live now : Live) (new : Table) → KeepsLive live now → IsKept now new
    → IsKept live new
kept_on live now new before after = (after.0, after.1, λ can. after.2 (before can))

pub moved_kept : {X : Type 0} (live : Live) (numbers : List ℕ) (new : Table)
    (r : Result X RefutationError) → HoldsNext new r (deleted live numbers) → Keeps live new r
moved_kept live numbers new (Ok x) moves =
    (moves.0, moves.2, deleted_keeps numbers live moves.0 moves.1)
moved_kept live numbers new (Err e) moves = tt

-- a clause was added, or not
pub more_kept : (live : Live) (clause : List Lit) (new : Table) (o : Option ℕ)
    → KeepsMore live clause new (Ok o) → IsKept live new
more_kept live clause new (Some n) kept = (with_clause live n clause, kept.0, kept.1)
more_kept live clause new None holds = kept_itself live new holds

-- the clauses can't all be true where the empty one was added
pub more_ends : (live : Live) (clause : List Lit) (new : Table) (n : ℕ)
    → KeepsMore live clause new (Ok (Some n)) → is_empty clause ≡ true → ¬ CanHold live
more_ends live clause new n kept none can =
    let after = kept.1 can in empty_false after.0 clause none after.1.0

pub empty_ends : (live : Live) (new : Table) (o : Option ℕ)
    → KeepsMore live [] new (Ok o) → KeepsOrEnds live new (Ok (is_some o))
empty_ends live new (Some n) kept = more_ends live [] new n kept refl
empty_ends live new None holds = kept_itself live new holds

pub ends_on : (live now : Live) (new : Table) (r : Result Bool RefutationError)
    → KeepsLive live now → KeepsOrEnds now new r → KeepsOrEnds live new r
ends_on live now new (Ok true) before none = λ can. none (before can)
ends_on live now new (Ok false) before kept = kept_on live now new before kept
ends_on live now new (Err e) before kept = tt

-- the table is as before where none was added
pub none_kept : (live : Live) (clause : List Lit) (new : Table) (o : Option ℕ)
    → is_some o ≡ false → KeepsMore live clause new (Ok o) → Holds new live
none_kept live clause new (Some n) none kept = absurd (false≢true (sym none))
none_kept live clause new None none holds = holds
