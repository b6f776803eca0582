-- Questions of a circuit: there is one list of clauses of each, and it holds where these are
-- refuted; plans that are enough; and what is told of a question in the words of each kind.
use Rattle.aig_answers.proofs.Words.{◌≡◌, ◌≢◌, ◌↔◌, ◌++◌, ℕ, ◌<◌, ◌≤◌, Bool, Option, Some, None, List, length, Result, Ok, Err, inl, inr, refl, sym, ap, ap₂, subst, ◌∙◌, arith, below_more, set, ◌+◌, All, IsErrOf, get_or_from_slice_get, slice_get, slice_get_within, IsSatisfiable, clauses_in, Lit, Memory, Circuit, IsCircuit, HasClauses, AsksOfCircuit, IsKInductive, IsSafeTo, query_clauses, IsCircuitSafeAt, IsSafeAt, AsksWindow, Window, IsCircuitOf, AsksOfBads, IsSettled, AnswersAt, AreRefuted, AreTaken, AreUnread, Covers, HasNone, Includes, IsTooLarge, Makes, Tells, BoundedClauses, Why, Question, WindowClauses, zero, suc, [], ◌∷◌, without_names, IsCircuitWitness}
use Rattle.aig_bounded.specs.declared.error.BoundedError.{BoundedError}
use Rattle.aig_bounded.specs.declared.error.BoundedError.TheVariants.{TooLarge}
use Rattle.aig_format.specs.Circuit.{circuit_of}
use Rattle.aig_format.specs.File.{File}
use Rattle.aig_format.specs.Fits.{Fits}
use Rattle.aig_answers.specs.Plans.{Holds}
use Rattle.aig_answers.specs.declared.plans.asking.Ask.{Ask}
use Rattle.aig_answers.specs.declared.plans.asking.Ask.TheVariants as asks
use Rattle.aig_answers.proofs.Alike.{AreOne, WindowsAreOne}
use Rattle.aig_answers.proofs.NamelessWindows.{asks_of_file}
use Rattle.aig_answers.proofs.Single.{settled_back}

-- ---- lists

-- a list after a write, at a place where it wrote nothing else
get_set_kept : {X : Type 0} (xs : List X) (i j : ℕ) (x : X)
    → (i ≡ j → slice_get xs j ≡ Some x) → slice_get (set xs i x) j ≡ slice_get xs j
get_set_kept [] i j x same = refl
get_set_kept (y ∷ ys) zero zero x same = sym (same refl)
get_set_kept (y ∷ ys) zero (suc j) x same = refl
get_set_kept (y ∷ ys) (suc i) zero x same = refl
get_set_kept (y ∷ ys) (suc i) (suc j) x same = get_set_kept ys i j x (λ is. same (ap suc is))

-- and at the place itself
get_set_here : {X : Type 0} (xs : List X) (i : ℕ) (x : X) → i < length xs
    → slice_get (set xs i x) i ≡ Some x
get_set_here [] i x low = absurd (omega (arith, low))
get_set_here (y ∷ ys) zero x low = refl
get_set_here (y ∷ ys) (suc i) x low = get_set_here ys i x (omega (arith, low))

-- ---- of a circuit and its file

-- names are nothing to witnesses
unnamed : (c d : Circuit) (k : ℕ) (x : ℕ → ℕ → Bool) → without_names c ≡ without_names d
    → IsCircuitWitness d k x → IsCircuitWitness c k x
unnamed c d k x same w =
    let bare : IsCircuitWitness (without_names d) k x =
    record { is_run = w.is_run; start = w.start; constraints = w.constraints; bad = w.bad } in
    let other = subst (λ e. IsCircuitWitness e k x) (sym same) bare in
    record {
      is_run = other.is_run;
      start = other.start;
      constraints = other.constraints;
      bad = other.bad;
    }

-- so a circuit without a bad state at a step is that of a file without one
file_safe : (f : File) (c : Circuit) (k : ℕ) → IsCircuitOf f c → IsCircuitSafeAt c k
    → IsCircuitSafeAt (circuit_of f) k
file_safe f c k is safe (x, w) = safe (x, unnamed c (circuit_of f) k x is w)

-- ---- refuted clauses

-- what is known of refuted clauses of each kind
pub record Known : Type 0 where
  pub steps : (c unrolled : Circuit) (k : ℕ) (clauses : List (List (List Lit)))
      (extra : List (List Lit)) → AsksOfCircuit c k unrolled clauses extra
      → ¬ IsSatisfiable (clauses_in clauses ++ extra) → IsCircuitSafeAt c k
  pub firsts : (c : Circuit) (k : ℕ) (optimize : Bool) (made : BoundedClauses) → IsCircuit c
      → AsksOfBads c k optimize made
      → (¬ IsSatisfiable (clauses_in made.clauses ++ made.extra))
      ↔ ((n : ℕ) → n ≤ k → IsCircuitSafeAt c n)
  pub settled : (c : Circuit) (k : ℕ) (optimize : Bool) (made : BoundedClauses) → IsCircuit c
      → AsksOfBads c k optimize made → IsSettled made → (n : ℕ) → n ≤ k → IsCircuitSafeAt c n
  pub windows : (form : Window) (f : File) (limit k : ℕ) (optimize : Bool)
      (clauses : List (List (List Lit))) (extra : List (List Lit)) → Fits f limit
      → AsksWindow form (circuit_of f) k optimize clauses extra
      → ¬ IsSatisfiable (clauses_in clauses ++ extra) → IsKInductive form f k

pub hold : Known → (a : Ask) (optimize : Bool) (c : Circuit) (made : Option WindowClauses)
    → IsCircuit c → Makes a optimize c made → AreRefuted made → Holds a c
hold known (asks.Step k) optimize c (Some made) circuit (u, is) none =
    known.steps c u k made.clauses made.extra is.asks none
hold known (asks.Step k) optimize c None circuit is none = absurd is
hold known (asks.UpTo k) optimize c (Some made) circuit (q, is, some, same) none =
    (known.firsts c k optimize q circuit is).0
    (subst (λ (m : WindowClauses). ¬ IsSatisfiable (clauses_in m.clauses ++ m.extra)) (sym same)
    none)
hold known (asks.UpTo k) optimize c None circuit (q, is, settled) none =
    known.settled c k optimize q circuit is settled
hold known (asks.Window k form) optimize c (Some made) circuit is none =
    λ f bound fits of. known.windows form f bound k optimize made.clauses made.extra fits
    (asks_of_file form f bound c k optimize made.clauses made.extra fits of is) none
hold known (asks.Window k form) optimize c None circuit is none = absurd is

-- ---- one list of clauses

abbrev pub FirstsAreOne : Type 0
FirstsAreOne =
    (c : Circuit) (k : ℕ) (optimize : Bool) (one other : BoundedClauses)
    → AsksOfBads c k optimize one → AsksOfBads c k optimize other
    → (one.clauses ≡ other.clauses) × (one.extra ≡ other.extra)

abbrev made_of : List (List (List Lit)) → List (List Lit) → WindowClauses
made_of lists extra = record { clauses = lists; extra = extra }

module _ (are_one : AreOne) (firsts_are_one : FirstsAreOne) (windows_are_one : WindowsAreOne) where
  pub one : (a : Ask) (optimize : Bool) (c : Circuit) (first other : Option WindowClauses)
      → Makes a optimize c first → Makes a optimize c other → first ≡ other
  one (asks.Step k) optimize c (Some first) (Some other) (u, is) (v, also) =
      let steps : u ≡ v = is.steps.exact ∙ sym also.steps.exact in
      let lists = are_one v optimize first.clauses other.clauses
      (subst (λ w. HasClauses w optimize first.clauses) steps is.has_clauses) also.has_clauses in
      let extra = is.asks.exact ∙ ap (query_clauses c k) steps ∙ sym also.asks.exact in
      ap₂ (λ ls es. Some (made_of ls es)) lists extra
  one (asks.Step k) optimize c None other is also = absurd is
  one (asks.Step k) optimize c (Some first) None is also = absurd also
  one (asks.UpTo k) optimize c (Some first) (Some other) (q, is, some, same)
      (r, also, more, alike) =
      let both = firsts_are_one c k optimize q r is also in
      ap Some (sym same ∙ ap₂ made_of both.0 both.1 ∙ alike)
  one (asks.UpTo k) optimize c (Some first) None (q, is, some, same) (r, also, settled) =
      absurd (some (settled_back c k optimize q r is also settled))
  one (asks.UpTo k) optimize c None (Some other) (q, is, settled) (r, also, some, same) =
      absurd (some (settled_back c k optimize r q also is settled))
  one (asks.UpTo k) optimize c None None is also = refl
  one (asks.Window k form) optimize c (Some first) (Some other) is also =
      let both = windows_are_one form c k optimize first.clauses other.clauses first.extra
      other.extra is also in
      ap₂ (λ ls es. Some (made_of ls es)) both.0 both.1
  one (asks.Window k form) optimize c None other is also = absurd is
  one (asks.Window k form) optimize c (Some first) None is also = absurd also

-- ---- plans that are enough

pub record KnownOfFiles : Type 0 where
  pub machines : (f : File) (limit k : ℕ) → Fits f limit
      → IsCircuitSafeAt (circuit_of f) k ↔ IsSafeAt f k
  pub steps : (f : File) (n : ℕ) → ((k : ℕ) → k ≤ n → IsSafeAt f k) → IsSafeTo f n
  pub inductive : (form : Window) (f : File) (k : ℕ) → IsSafeTo f k → IsKInductive form f k
      → (n : ℕ) → IsSafeTo f n

module _ (known : KnownOfFiles) where
  pub window_closes : (form : Window) (k : ℕ) (c : Circuit) (f : File) (bound : ℕ)
      → Holds (asks.UpTo k) c → Holds (asks.Window k form) c
      → Fits f bound → IsCircuitOf f c → (n : ℕ) → IsSafeTo f n
  window_closes form k c f bound safe window fits of =
      known.inductive form f k
      (known.steps f k
      (λ n low. (known.machines f bound n fits).0 (file_safe f c n of (safe n low))))
      (window f bound fits of)

  -- what a plan includes holds where all of it does
  included : (plan : List Question) (c : Circuit) (a : Ask) → All (λ q. Holds q.ask c) plan
      → Includes plan a → Holds a c
  included plan c a all (i, q, at, same) =
      subst (λ b. Holds b c) same
      (subst (λ (x : Question). Holds x.ask c) (get_or_from_slice_get plan i q q at)
      (all i q (slice_get_within plan i q at)))

  pub plan_closes : (plan : List Question) (c : Circuit) (f : File) (bound : ℕ) → Covers plan
      → All (λ q. Holds q.ask c) plan
      → Fits f bound → IsCircuitOf f c → (n : ℕ) → IsSafeTo f n
  plan_closes plan c f bound covers all =
      let step : (n : ℕ) → n ≤ covers.last → IsCircuitSafeAt c n = λ n low.
      elim (covers.steps n low) [
        | inl at ↦ included plan c (asks.Step n) all at
        | inr at ↦ included plan c (asks.UpTo at.0) all at.2 n at.1
      ] in
      window_closes covers.form covers.last c f bound step
      (included plan c (asks.Window covers.last covers.form) all covers.window)

-- ---- one question

pub has_none : (limit : ℕ) (a : Ask) (c : Circuit) (e : BoundedError)
    → (IsErrOf {T = Option WindowClauses} (Err e) TooLarge → IsTooLarge limit a c)
    → HasNone limit a c e
has_none limit a c Memory large = tt
has_none limit a c TooLarge large = large refl

-- what is asked holds where its clauses are refuted
abbrev pub AsksHold : Type 0
AsksHold =
    (a : Ask) (optimize : Bool) (c : Circuit) (made : Option WindowClauses) → IsCircuit c
    → Makes a optimize c made → AreRefuted made → Holds a c

-- and so where a proof is taken
told_holds : {P : Type 0} (left : P → Option (List ℕ)) (failed : P → Bool) (limit : ℕ)
    (q : Question) (c : Circuit) (p rest : P) → AsksHold → IsCircuit c
    → Tells left failed limit q c p rest (Ok tt) → Holds q.ask c
told_holds left failed limit q c p rest asks circuit (made, is, none, held) =
    asks q.ask q.optimize c made circuit is none

-- ---- a plan

-- a list after a write, at another place
get_set_other : {X : Type 0} (xs : List X) (i j : ℕ) (x : X) → i ≢ j
    → slice_get (set xs i x) j ≡ slice_get xs j
get_set_other xs i j x apart = get_set_kept xs i j x (λ same. absurd (apart same))

module _ {P : Type 0} (left : P → Option (List ℕ)) (failed : P → Bool) (limit : ℕ)
    (plan : List Question) (c : Circuit) (before : List P) where
  -- what each question of a plan asks holds
  pub all_hold : AsksHold → IsCircuit c → (after : List P)
      → AreTaken left failed limit plan c before after (length plan)
      → All (λ q. Holds q.ask c) plan
  all_hold asks circuit after each i d low =
      let at = each i low in
      subst (λ (q : Question). Holds q.ask c)
      (sym (get_or_from_slice_get plan i at.question d at.asked))
      (told_holds left failed limit at.question c at.proof at.rest asks circuit at.tells)

  -- the next question is answered, and its proof is written back
  module _ (now : List P) (i : ℕ) (rest : P) (low : i < length now)
      (taken : AreTaken left failed limit plan c before now i) (unread : AreUnread before now i)
    where
      pub answered : (q : Question) (p : P) (answer : Result Unit Why) → slice_get plan i ≡ Some q
          → slice_get now i ≡ Some p → Tells left failed limit q c p rest answer
          → AnswersAt left failed limit plan c before (set now i rest) i answer
      answered q p answer asked is tells = record {
        question = q;
        proof = p;
        rest = rest;
        asked = asked;
        was = sym (unread i (omega arith)) ∙ is;
        is = get_set_here now i rest low;
        tells = tells;
      }

      pub kept : AreTaken left failed limit plan c before (set now i rest) i
      kept j before_it =
          let at = taken j before_it in
          record {
            question = at.question;
            proof = at.proof;
            rest = at.rest;
            asked = at.asked;
            was = at.was;
            is = get_set_other now i j rest (λ same. omega (arith, same, before_it)) ∙ at.is;
            tells = at.tells;
          }

      pub one_more : AnswersAt left failed limit plan c before (set now i rest) i (Ok tt)
          → AreTaken left failed limit plan c before (set now i rest) (i + 1)
      one_more here =
          below_more (λ j. AnswersAt left failed limit plan c before (set now i rest) j (Ok tt)) i
          kept here

      pub after_it : AreUnread before (set now i rest) (i + 1)
      after_it j more =
          get_set_other now i j rest (λ same. omega (arith, same, more))
          ∙ unread j (omega (arith, more))
