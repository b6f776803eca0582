-- Part of what is promised.
-- Questions of a circuit as data: what each asks, which clauses ask it, and what an answer tells
-- of it and of its proof; plans, which are lists of questions, and which of them show that no bad
-- state is ever reached. (Bounded model checking; temporal induction: Sheeran, Singh and Stålmarck,
-- 2000.)
use Rattle.std.specs.Prelude.{◌≡◌, ◌⊎◌, ℕ, ◌+◌, ◌<◌, ◌≤◌, ◌^◌, ◌==◌, nat_lt, if◌then◌else◌, ◌++◌, ◌∷◌, [], Bool, true, false, IsTrue, List, length, map, All, Option, Some, None, slice_get, Result, Ok, Err, IsErrOf}
use Rattle.std.specs.List.{position, range_with_len}
use Rattle.aig_base.specs.Formula.{IsSatisfiable, clauses_in}
use Rattle.aig_bounded.specs.Question.{question_size}
use Rattle.aig_bounded.specs.declared.error.BoundedError.{BoundedError}
use Rattle.aig_bounded.specs.declared.error.BoundedError.TheVariants.{Memory, TooLarge}
use Rattle.aig_circuit.specs.Circuit.{Circuit, IsClosed}
use Rattle.aig_circuit.specs.Edges.{HasConstantInit}
use Rattle.aig_format.specs.File.{File}
use Rattle.aig_format.specs.Fits.{Fits}
use Rattle.aig_refutation.specs.Checking.{Shows}
use Rattle.aig_refutation.specs.declared.error.RefutationError.{RefutationError}
use Rattle.aig_refutation.specs.declared.error.RefutationError.TheVariants as refutation
use Rattle.aig_runs.specs.Induction.{IsKInductive}
use Rattle.aig_runs.specs.Safety.{IsCircuitSafeAt}
use Rattle.aig_runs.specs.WindowClauses.{AsksWindow}
use Rattle.aig_runs.specs.declared.window.Window.{Window}
use Rattle.aig_runs.specs.declared.window.Window.TheVariants.{Plain}
use Rattle.aig_unroll.specs.Places.{unrolled_size}
use Rattle.aig_answers.specs.Answers.{IsCircuitOf, IsCircuitQuery, query_with, window_size}
use Rattle.aig_answers.specs.Asking.{AsksOfBads, IsSettled}
use Rattle.aig_answers.specs.declared.bounded_checks.clauses.BoundedClauses.{BoundedClauses}
use Rattle.aig_answers.specs.declared.plans.asking.Ask.{Ask}
use Rattle.aig_answers.specs.declared.plans.asking.Ask.TheVariants as asks
use Rattle.aig_answers.specs.declared.plans.asking.Question.{Question}
use Rattle.aig_answers.specs.declared.plans.errors.PlanError.{PlanError}
use Rattle.aig_answers.specs.declared.plans.errors.PlanError.TheVariants as errors
use Rattle.aig_answers.specs.declared.plans.errors.Refused.{Refused}
use Rattle.aig_answers.specs.declared.plans.errors.Why.{Why}
use Rattle.aig_answers.specs.declared.plans.errors.Why.TheVariants as whys
use Rattle.aig_answers.specs.declared.windows.WindowClauses.{WindowClauses}

-- ---- what is asked

-- what is asked holds of the circuit; of a window it is said of each file whose circuit it is
abbrev pub Holds : Ask → Circuit → Type 0
Holds (asks.Step k) c = IsCircuitSafeAt c k
Holds (asks.UpTo k) c = (n : ℕ) → n ≤ k → IsCircuitSafeAt c n
Holds (asks.Window k form) c =
    (f : File) (bound : ℕ) → Fits f bound → IsCircuitOf f c → IsKInductive form f k

-- it can be asked of the circuit: the first steps where the start is constant or open, and a window
-- of fewer than 2^32 steps
abbrev pub CanBeAsked : ℕ → Ask → Circuit → Type 0
CanBeAsked limit (asks.Step k) c = Unit {0}
CanBeAsked limit (asks.UpTo k) c = (1 ≤ limit) × IsClosed c × All HasConstantInit c.latchs
CanBeAsked limit (asks.Window k form) c = k < 2 ^ 32

-- ---- its clauses

abbrev pub clauses_only : BoundedClauses → WindowClauses
clauses_only q = record { clauses = q.clauses; extra = q.extra }

-- these clauses ask it
abbrev pub Asks : Ask → Bool → Circuit → WindowClauses → Type 0
Asks (asks.Step k) optimize c made =
    (unrolled : Circuit) × IsCircuitQuery c k optimize (query_with unrolled made)
Asks (asks.UpTo k) optimize c made =
    (q : BoundedClauses) × AsksOfBads c k optimize q × (¬ IsSettled q) × (clauses_only q ≡ made)
Asks (asks.Window k form) optimize c made = AsksWindow form c k optimize made.clauses made.extra

-- it holds without clauses: the question of the first steps is the constant false
abbrev pub NeedsNone : Ask → Bool → Circuit → Type 0
NeedsNone (asks.UpTo k) optimize c =
    (q : BoundedClauses) × AsksOfBads c k optimize q × IsSettled q
NeedsNone a optimize c = ⊥

-- the clauses that ask it, if it needs some; there is one list of them (`question_clauses_are_one`)
abbrev pub Makes : Ask → Bool → Circuit → Option WindowClauses → Type 0
Makes a optimize c (Some made) = Asks a optimize c made
Makes a optimize c None = NeedsNone a optimize c

-- none are needed, or no assignment satisfies them
abbrev pub AreRefuted : Option WindowClauses → Type 0
AreRefuted (Some made) = ¬ IsSatisfiable (clauses_in made.clauses ++ made.extra)
AreRefuted None = Unit {0}

-- the question of the first steps passes the limit, and so does the bound of what is made for it
abbrev pub IsTooLarge : ℕ → Ask → Circuit → Type 0
IsTooLarge limit (asks.UpTo k) c = limit < question_size c k
IsTooLarge limit a c = ⊥

-- why there are no clauses
abbrev pub HasNone : ℕ → Ask → Circuit → BoundedError → Type 0
HasNone limit a c Memory = Unit {0}
HasNone limit a c TooLarge = IsTooLarge limit a c

-- ---- a question and its proof

-- What becomes of a proof, p before and rest after: it is what its text shows of the clauses, and
-- Stream only where a read failed. Where none are needed it isn't read.
abbrev pub IsHeld : {P : Type 0} → (P → Option (List ℕ)) → (P → Bool) → Option WindowClauses → P → P
    → Result Unit RefutationError → Type 0
IsHeld left failed (Some made) p rest result =
    Shows (length made.clauses) (clauses_in made.clauses ++ made.extra) (left p) result
    × (IsErrOf result refutation.Stream → IsTrue (failed rest))
IsHeld left failed None p rest result = (result ≡ Ok tt) × (rest ≡ p)

-- What an answer to a question tells: what the proof shows of its clauses, which can't be satisfied
-- where it is taken; or why there are none, and then the proof isn't read.
abbrev pub Tells : {P : Type 0} → (P → Option (List ℕ)) → (P → Bool) → ℕ → Question → Circuit → P
    → P → Result Unit Why → Type 0
Tells left failed limit q c p rest (Ok done) =
    (made : Option WindowClauses) × Makes q.ask q.optimize c made × AreRefuted made
    × IsHeld left failed made p rest (Ok tt)
Tells left failed limit q c p rest (Err (whys.Refutation e)) =
    (made : Option WindowClauses) × Makes q.ask q.optimize c made
    × IsHeld left failed made p rest (Err e)
Tells left failed limit q c p rest (Err (whys.Clauses e)) =
    (rest ≡ p) × HasNone limit q.ask c e

-- ---- a plan and its proofs

-- question i of a plan is answered so by proof i
pub record AnswersAt {P : Type 0} (left : P → Option (List ℕ)) (failed : P → Bool) (limit : ℕ)
    (plan : List Question) (c : Circuit) (before after : List P) (i : ℕ) (answer : Result Unit Why)
    : Type 0 where
  pub question : Question
  pub proof : P
  pub rest : P
  pub asked : slice_get plan i ≡ Some question
  pub was : slice_get before i ≡ Some proof
  pub is : slice_get after i ≡ Some rest
  pub tells : Tells left failed limit question c proof rest answer

-- each of the first n proofs is taken for its question
abbrev pub AreTaken : {P : Type 0} → (P → Option (List ℕ)) → (P → Bool) → ℕ → List Question
    → Circuit → List P → List P → ℕ → Type 0
AreTaken left failed limit plan c before after n =
    (i : ℕ) → i < n → AnswersAt left failed limit plan c before after i (Ok tt)

-- none from n on is read
abbrev pub AreUnread : {P : Type 0} → List P → List P → ℕ → Type 0
AreUnread before after n = (i : ℕ) → n ≤ i → slice_get after i ≡ slice_get before i

-- How a plan is answered: each proof is taken; or one is refused, each before it is taken, and none
-- after it is read.
abbrev pub Checks : {P : Type 0} → (P → Option (List ℕ)) → (P → Bool) → ℕ → List Question → Circuit
    → List P → List P → Result Unit Refused → Type 0
Checks left failed limit plan c before after (Ok done) =
    AreTaken left failed limit plan c before after (length plan)
Checks left failed limit plan c before after (Err e) =
    AreTaken left failed limit plan c before after e.index
    × AnswersAt left failed limit plan c before after e.index (Err e.why)
    × AreUnread before after (e.index + 1)

-- ---- room

-- how many variables its clauses have at most, as far as that is known before they are made: one
-- for each node with the further steps, and, unless they are left out, those that tell states apart
abbrev pub size_of : Bool → Ask → Circuit → ℕ
size_of plain (asks.Step k) c = unrolled_size c k
size_of plain (asks.UpTo k) c = 0
size_of true (asks.Window k form) c = unrolled_size c (k + 1)
size_of false (asks.Window k form) c = window_size form c k

-- they are within the limit
abbrev pub HasRoom : ℕ → Ask → Circuit → Type 0
HasRoom limit a c = size_of false a c ≤ limit

-- the place of the first question of a plan that may pass the limit
abbrev pub first_over : Bool → ℕ → List Question → Circuit → Option ℕ
first_over plain limit plan c = position (λ q. nat_lt limit (size_of plain q.ask c)) plan

-- The verdict on a circuit, by its tests in their order: whether it has more nodes than the limit;
-- the first question whose nodes may pass it; whether there is no bad edge; and the first question
-- that is crowded.
abbrev pub room_by : Bool → Option ℕ → Bool → Option ℕ → Result Unit PlanError
room_by true large none crowded = Err errors.TooMany
room_by false (Some i) none crowded = Err (errors.TooLarge i)
room_by false None true crowded = Err errors.NoBads
room_by false None false (Some i) = Err (errors.Crowded i)
room_by false None false None = Ok tt

-- the verdict on a circuit of which a plan is asked
abbrev pub room_of : ℕ → List Question → Circuit → Result Unit PlanError
room_of limit plan c =
    room_by (nat_lt limit (length c.nodes)) (first_over true limit plan c)
    (length c.properties.bads == 0) (first_over false limit plan c)

-- What an answer about a circuit tells: how the plan is answered where there is room for it, or why
-- nothing is asked, and then no proof is read.
abbrev pub ChecksCircuit : {P : Type 0} → (P → Option (List ℕ)) → (P → Bool) → ℕ → List Question
    → Circuit → List P → List P → Result Unit PlanError → Type 0
ChecksCircuit left failed limit plan c before after (Ok done) =
    (room_of limit plan c ≡ Ok tt) × Checks left failed limit plan c before after (Ok tt)
ChecksCircuit left failed limit plan c before after (Err (errors.Refused e)) =
    (room_of limit plan c ≡ Ok tt) × Checks left failed limit plan c before after (Err e)
ChecksCircuit left failed limit plan c before after (Err e) =
    (room_of limit plan c ≡ Err e) × (after ≡ before)

-- ---- plans that are enough

-- the plan asks this
abbrev pub Includes : List Question → Ask → Type 0
Includes plan a = (i : ℕ) × (q : Question) × (slice_get plan i ≡ Some q) × (q.ask ≡ a)

-- it asks for a window, and of each step before its last one
pub record Covers (plan : List Question) : Type 0 where
  pub last : ℕ
  pub form : Window
  pub window : Includes plan (asks.Window last form)
  pub steps : (n : ℕ) → n ≤ last
      → Includes plan (asks.Step n) ⊎ ((k : ℕ) × (n ≤ k) × Includes plan (asks.UpTo k))

abbrev pub asked_with : Bool → Ask → Question
asked_with optimize a = record { ask = a; optimize = optimize }

-- `safe .. to`: the steps 0 to k at once, and a window of k + 2
abbrev pub plan_to : ℕ → Window → Bool → Bool → List Question
plan_to k form base step =
    asked_with base (asks.UpTo k) ∷ asked_with step (asks.Window k form) ∷ []

-- the steps from 0 on, each for itself
abbrev pub step_questions : ℕ → Bool → List Question
step_questions count optimize =
    map (λ n. asked_with optimize (asks.Step n)) (range_with_len 0 count)

-- `safe .. each`: each of the steps 0 to k, and a window of k + 2
abbrev pub plan_each : ℕ → Window → Bool → Bool → List Question
plan_each k form base step =
    step_questions (k + 1) base ++ asked_with step (asks.Window k form) ∷ []

-- a certificate's: step 0 of the joint circuit, and a window of two
abbrev pub plan_certified : Bool → List Question
plan_certified optimize =
    asked_with optimize (asks.Step 0) ∷ asked_with optimize (asks.Window 0 Plain) ∷ []
