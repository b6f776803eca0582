-- The plan of a goal can be asked of a subject's circuit, and where all that it asks holds, the goal
-- says what is so of the files.
use Rattle.aig_answers.proofs.Words.{◌≡◌, ◌↔◌, ◌≤◌, ◌<◌, ◌^◌, ◌+◌, ◌∷◌, [], ℕ, All, All-cons, All-map, All-nil, Bool, List, ap, arith, refl, length, length-append, length-map, range_with_len, IsCircuitOf, without_names, Covers, asked_with, plan_each, plan_to, step_questions, Question, Circuit, IsCircuitSafeAt, IsKInductive, IsSafeAt, IsSafeTo, Window, File, Fits, safe_is}
use Rattle.std.proofs.lemmas.List.Elements.{All-append}
use Rattle.std.proofs.lemmas.List.FromFn.{length-range_with_len}
use Rattle.aig_subjects.specs.Reads.{AreAccepted}
use Rattle.aig_subjects.specs.Shown.{HasNoCertificate, ShowsAlways, ShowsAt}
use Rattle.aig_subjects.specs.Subjects.{IsCircuitOfFile, IsReady, IsSubject}
use Rattle.aig_subjects.specs.declared.subject.FileSubject.TheVariants.{Own}
use Rattle.aig_subjects.specs.declared.subject.Subject.{Subject}
use Rattle.aig_subjects.specs.declared.subject.Subject.TheVariants as subjects
use Rattle.aig_answers.specs.Goals.{Shows, ShowsWindow, last_step, plan_of, proof_count}
use Rattle.aig_answers.specs.Plans.{CanBeAsked, Holds}
use Rattle.aig_answers.specs.declared.goals.goal.Goal.{Goal}
use Rattle.aig_answers.specs.declared.goals.goal.Goal.TheVariants as goals
use Rattle.aig_answers.specs.declared.plans.asking.Ask.TheVariants as asks

-- ---- plans

-- there is a proof for each question
pub plan_length : (goal : Goal) (base step : Bool)
    → length (plan_of goal base step) ≡ proof_count goal
plan_length (goals.SafeBySteps k form) base step =
    let firsts = step_questions (k + 1) base in
    omega (
      arith,
      length-append firsts (asked_with step (asks.Window k form) ∷ []),
      length-map (range_with_len 0 (k + 1)) (λ n. asked_with base (asks.Step n)),
      length-range_with_len 0 (k + 1),
    )
plan_length (goals.Refuted k) base step = refl
plan_length (goals.RefutedTo k) base step = refl
plan_length (goals.Inductive k form) base step = refl
plan_length (goals.Safe k form) base step = refl

pub plan_asked : (limit : ℕ) (goal : Goal) (base step : Bool) (m : Circuit) → 1 ≤ limit
    → last_step goal < 2 ^ 32 → IsReady m
    → All (λ q. CanBeAsked limit q.ask m) (plan_of goal base step)
plan_asked limit goal base step m some small ready = by goal small
  where
    P : Question → Type 0
    P q = CanBeAsked limit q.ask m

    all_one : (q : Question) → P q → All P (q ∷ [])
    all_one q is = All-cons P q [] is (All-nil P)

    by : (goal : Goal) → last_step goal < 2 ^ 32 → All P (plan_of goal base step)
    by (goals.Refuted k) small = all_one (asked_with base (asks.Step k)) tt
    by (goals.RefutedTo k) small =
        all_one (asked_with base (asks.UpTo k)) (some, ready.closed, ready.starts)
    by (goals.Inductive k form) small = all_one (asked_with step (asks.Window k form)) small
    by (goals.Safe k form) small =
        All-cons P (asked_with base (asks.UpTo k)) (asked_with step (asks.Window k form) ∷ [])
        (some, ready.closed, ready.starts) (all_one (asked_with step (asks.Window k form)) small)
    by (goals.SafeBySteps k form) small =
        let window = asked_with step (asks.Window k form) ∷ [] in
        let steps : ℕ → Question = λ n. asked_with base (asks.Step n) in
        let each : All (λ n. P (steps n)) (range_with_len 0 (k + 1)) = λ i n low. tt in
        All-append P (step_questions (k + 1) base) window
        (All-map P steps (range_with_len 0 (k + 1)) each)
        (all_one (asked_with step (asks.Window k form)) small)

-- ---- what is so

-- what is known of files, of plans and of subjects
pub record Known : Type 0 where
  pub steps : (f : File) (n : ℕ) → ((k : ℕ) → k ≤ n → IsSafeAt f k) → IsSafeTo f n
  pub inductive : (form : Window) (f : File) (k : ℕ) → IsSafeTo f k → IsKInductive form f k
      → (n : ℕ) → IsSafeTo f n
  pub covering : (plan : List Question) (c : Circuit) (f : File) (bound : ℕ) → Covers plan
      → All (λ q. Holds q.ask c) plan
      → Fits f bound → IsCircuitOf f c → (n : ℕ) → IsSafeTo f n
  pub to : (k : ℕ) (form : Window) (base step : Bool) → Covers (plan_to k form base step)
  pub each : (k : ℕ) (form : Window) (base step : Bool) → Covers (plan_each k form base step)
  pub of_files : (subject : Subject) (files : List File) (limit : ℕ) (m : Circuit) → limit ≤ 2 ^ 31
      → AreAccepted limit files → IsSubject subject files m
      → (h : File) × (bound : ℕ) × Fits h bound × IsCircuitOfFile m h
      × ((k : ℕ) → IsCircuitSafeAt m k ↔ IsSafeAt h k)
  pub step_shows : (subject : Subject) (files : List File) (limit k : ℕ) (m : Circuit)
      → limit ≤ 2 ^ 31 → AreAccepted limit files → IsSubject subject files m
      → IsCircuitSafeAt m k → ShowsAt subject files k
  pub exact : (subject : Subject) (files : List File) (limit k : ℕ) (m : Circuit)
      → limit ≤ 2 ^ 31 → AreAccepted limit files → IsSubject subject files m
      → HasNoCertificate subject → ShowsAt subject files k → IsCircuitSafeAt m k
  pub always : (subject : Subject) (files : List File) (limit : ℕ) (m : Circuit)
      → limit ≤ 2 ^ 31 → AreAccepted limit files → IsSubject subject files m
      → ((k : ℕ) → IsCircuitSafeAt m k) → ShowsAlways subject files

-- a window of FILE's own circuit is one of FILE
module _ (k : ℕ) (form : Window) (m : Circuit) (window : Holds (asks.Window k form) m) (limit : ℕ)
  where
    window_shown : (subject : Subject) (files : List File) → AreAccepted limit files
        → IsSubject subject files m → ShowsWindow form subject files k
    window_shown (subjects.File Own) (f ∷ []) are is = window f limit are.0.1.1 (ap without_names is)
    window_shown subject files are is = tt

module _ (known : Known) (limit : ℕ) (low : limit ≤ 2 ^ 31) (base step : Bool)
    (subject : Subject) (files : List File) (m : Circuit) (are : AreAccepted limit files)
    (is : IsSubject subject files m) where
  abbrev AreSo : Goal → Type 0
  AreSo goal = All (λ q. Holds q.ask m) (plan_of goal base step)

  -- the one question of a plan holds
  only : (q : Question) → All (λ x. Holds x.ask m) (q ∷ []) → Holds q.ask m
  only q all = all 0 q (omega arith)

  at_step : (k : ℕ) → IsCircuitSafeAt m k → ShowsAt subject files k
  at_step k = known.step_shows subject files limit k m low are is

  -- the file whose circuit it is, names aside
  of : (h : File) × (bound : ℕ) × Fits h bound × IsCircuitOfFile m h
      × ((k : ℕ) → IsCircuitSafeAt m k ↔ IsSafeAt h k)
  of = known.of_files subject files limit m low are is

  circuit : IsCircuitOf of.0 m
  circuit = ap without_names of.3

  always : ((n : ℕ) → IsSafeTo of.0 n) → ShowsAlways subject files
  always safe =
      known.always subject files limit m low are is
      (λ k. (of.4 k).1 ((safe_is of.0 k).1 (safe k) k (omega arith)))

  covered : (plan : List Question) → Covers plan → All (λ q. Holds q.ask m) plan
      → ShowsAlways subject files
  covered plan covers all =
      always (known.covering plan m of.0 of.1 covers all of.2 circuit)

  -- a window that holds shows more only where what is shown of a step is all that is asked
  inductive : (k : ℕ) (form : Window) → Holds (asks.Window k form) m → HasNoCertificate subject
      → ((n : ℕ) → n ≤ k → ShowsAt subject files n) → ShowsAlways subject files
  inductive k form window alone first =
      always (known.inductive form of.0 k
      (known.steps of.0 k
      (λ n within. (of.4 n).0
      (known.exact subject files limit n m low are is alone (first n within))))
      (window of.0 of.1 of.2 circuit))

  -- what a goal says of the files is so
  pub goal_shown : (goal : Goal) → AreSo goal → Shows subject goal files
  goal_shown (goals.Refuted k) all = at_step k (only (asked_with base (asks.Step k)) all)
  goal_shown (goals.RefutedTo k) all =
      λ n within. at_step n (only (asked_with base (asks.UpTo k)) all n within)
  goal_shown (goals.Inductive k form) all =
      let window = only (asked_with step (asks.Window k form)) all in
      (window_shown k form m window limit subject files are is, inductive k form window)
  goal_shown (goals.Safe k form) all =
      covered (plan_to k form base step) (known.to k form base step) all
  goal_shown (goals.SafeBySteps k form) all =
      covered (plan_each k form base step) (known.each k form base step) all
