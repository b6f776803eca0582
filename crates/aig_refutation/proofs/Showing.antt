-- What a proof's text shows: no assignment satisfies the clauses.
use Rattle.aig_base.proofs.Words.{◌≡◌, ℕ, Bool, true, false, cond, Option, Some, None, Result, Ok, Err, List, [], ◌∷◌, refl, option_map, fold, and_parts, OnOk}
use Rattle.aig_base.specs.declared.logic.literal.Lit.{Lit}
use Rattle.aig_base.specs.Clauses.{are_true, is_true_clause}
use Rattle.aig_base.specs.Formula.{IsSatisfiable}
use Rattle.aig_refutation.specs.declared.error.RefutationError.{RefutationError}
use Rattle.aig_refutation.specs.Checking.{Live, all_live, is_last_step, outcome, shown_by, taken, with_next}
use Rattle.aig_refutation.specs.Forms.{steps_in}
use Rattle.aig_refutation.specs.Proofs.{Script}
use Rattle.aig_refutation.specs.Steps.{Step}
use Rattle.aig_refutation.specs.Taken.{CanHold}
use Rattle.aig_refutation.proofs.LineParts.{bound_ok}
use Rattle.aig_refutation.proofs.Refuting.{AllTrue}
use Rattle.aig_refutation.proofs.Taken.{last_fails, taken_keeps}

-- steps up to the empty clause leave clauses that can't all be true
no_outcome : (steps : List Step) (live : Live) (fault : RefutationError)
    → outcome live steps fault ≡ Ok tt → CanHold live → ⊥
unfolding outcome
no_outcome [] live fault is can = absurd cc
no_outcome (step ∷ steps) live fault is can =
    let b = bound_ok (taken live step)
    (λ next. cond (is_last_step step) (Ok tt) (outcome next steps fault)) tt is in
    by (is_last_step step) (λ last. last_fails live b.0 step b.1 last can)
    (λ later. no_outcome steps b.0 fault later
    (taken_keeps live b.0 step b.1 can)) b.2
  where
    by : (c : Bool) {r : Result (Unit {0}) RefutationError} → (c ≡ true → ⊥)
        → (r ≡ Ok tt → ⊥) → cond c (Ok tt) r ≡ Ok tt → ⊥
    by true none later e = none refl
    by false none later e = later e

live_true : (v : ℕ → Bool) (clauses : List (List Lit)) (live : Live) → AllTrue v live.clauses
    → are_true v clauses ≡ true → AllTrue v (fold with_next live clauses).clauses
live_true v [] live are t = are
live_true v (clause ∷ clauses) live are t =
    let parts = and_parts (is_true_clause v clause) (are_true v clauses) t in
    live_true v clauses (with_next live clause) (parts.0, are) parts.1

-- the clauses of a formula can hold where they can be satisfied
pub formula_holds : (clauses : List (List Lit)) → IsSatisfiable clauses
    → CanHold (all_live clauses)
unfolding all_live
formula_holds clauses s =
    (s.0, live_true s.0 clauses (record { clauses = []; used = [] }) tt s.1)

-- what follows of a value follows of one that is given
pub ok_on : {X : Type 0} (r : Result X RefutationError) (P Q : Type 0) → (P → Q) → OnOk r P
    → OnOk r Q
ok_on (Ok x) P Q f p = f p
ok_on (Err e) P Q f p = tt

pub shown : (variables : ℕ) (clauses : List (List Lit)) (bytes : List ℕ) → shown_by variables
    clauses bytes ≡ Some (Ok tt) → ¬ IsSatisfiable clauses
shown variables clauses bytes is s = by (steps_in variables bytes) is
  where
    by : (o : Option (Script Step)) → option_map (λ script. outcome (all_live clauses)
        script.steps script.fault) o ≡ Some (Ok tt) → ⊥
    by None e = absurd cc
    by (Some script) e =
        let is_ok : outcome (all_live clauses) script.steps script.fault ≡ Ok tt = cc in
        no_outcome script.steps (all_live clauses) script.fault is_ok
        (formula_holds clauses s)
