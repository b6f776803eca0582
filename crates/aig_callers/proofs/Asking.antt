-- What an answer about known bytes says of the file that they are.
use Rattle.std.proofs.Common.{◌≡◌, ◌≢◌, ℕ, ◌≤◌, Bool, true, false, Option, Some, None, List, [], ◌∷◌, ◌++◌, length, append-nil, unwrap_or, refl, sym, ap, subst, ◌∙◌}
use Rattle.std.specs.Prelude.{Result, Ok, Err}
use Rattle.aig_base.proofs.Words.{◌==◌, nat_lt, eqb-false, eqb-true, length-map, ltb-false, Consumes, IsAtEnd}
use Rattle.std.proofs.lemmas.List.{nil_from_length}
use Rattle.aig_circuit.specs.Circuit.{Circuit}
use Rattle.aig_format.proofs.Words.{circuit_of, edge_of, File, Accepts}
use Rattle.aig_reader.specs.Verdicts.{Accepted, Verdict}
use Rattle.aig_subjects.specs.Reads.{AreReadAs}
use Rattle.aig_subjects.specs.declared.subject.FileSubject.TheVariants.{Own}
use Rattle.aig_subjects.specs.declared.subject.Subject.TheVariants as subjects
use Rattle.aig_unroll.specs.Places.{unrolled_size}
use Rattle.aig_answers.specs.Answers.{IsAsked}
use Rattle.aig_answers.specs.Goals.{ChecksGoal, TellsOfGoal}
use Rattle.aig_answers.specs.Plans.{asked_with, room_by, room_of}
use Rattle.aig_answers.specs.declared.goals.error.GoalFault.{GoalFault}
use Rattle.aig_answers.specs.declared.goals.error.GoalFault.TheVariants as faults
use Rattle.aig_answers.specs.declared.goals.goal.Goal.TheVariants as goals
use Rattle.aig_answers.specs.declared.plans.asking.Ask.TheVariants.{Step}
use Rattle.aig_answers.specs.declared.plans.errors.PlanError.TheVariants as plans
use Rattle.aig_answers.specs.declared.plans.errors.Refused.{Refused}

-- known bytes that were taken to the end are all of them
pub all_taken : (bytes taken : List ℕ) (old new : Option (List ℕ)) → old ≡ Some bytes
    → Consumes old new taken → IsAtEnd new → taken ≡ bytes
all_taken bytes taken None new is took end = cc
all_taken bytes taken (Some xs) None is took end = absurd took
all_taken bytes taken (Some xs) (Some ys) is took end =
    let rest : xs ≡ taken ++ [] = subst (λ l. xs ≡ taken ++ l) end took in
    sym (append-nil taken) ∙ sym rest ∙ ap (λ known. unwrap_or known []) is

-- the file that the bytes are, where they are taken, and what is meant for it
of_file : {T : Type 0} (failed : List ℕ → Bool) (limit : ℕ) (Means : List File → T → Type 0)
    (bytes : List ℕ) (after : List (List ℕ)) (value : T)
    → AreReadAs Some failed limit Means (Accepted ∷ []) (bytes ∷ []) after value
    → (f : File) × Accepts bytes limit f × Means (f ∷ []) value
of_file failed limit Means bytes [] value read = absurd read
of_file failed limit Means bytes (rest ∷ others) value (told, read) = (
  read.file,
  subst (λ b. Accepts b limit read.file)
      (all_taken bytes read.bytes (Some bytes) (Some rest) refl read.taken (told.whole tt).1)
      read.holds,
  read.means.0,
)

-- ---- room for a step

room_there : (many none : Bool) (first crowded : Option ℕ)
    → room_by many first none crowded ≡ Ok tt → (first ≡ None) × (none ≡ false)
room_there true none first crowded is = absurd cc
room_there false none (Some i) crowded is = absurd cc
room_there false true None crowded is = absurd cc
room_there false false None (Some i) is = absurd cc
room_there false false None None is = (refl, refl)

none_asked : (many none : Bool) (first crowded : Option ℕ)
    → room_by many first none crowded ≡ Err plans.NoBads → none ≡ true
none_asked true none first crowded is = absurd cc
none_asked false none (Some i) crowded is = absurd cc
none_asked false true None crowded is = refl
none_asked false false None (Some i) is = absurd cc
none_asked false false None None is = absurd cc

module _ (limit k : ℕ) (bytes : List ℕ) (f : File) (m : Circuit) (is : m ≡ circuit_of f) where
  count : length m.properties.bads ≡ length f.properties.bads
  count = ap (λ (c : Circuit). length c.properties.bads) is ∙ length-map f.properties.bads (edge_of f)

  fits : (large : Bool) → nat_lt limit (unrolled_size m k) ≡ large
      → room_of limit (asked_with true (Step k) ∷ []) m ≡ Ok tt → large ≡ false
  fits true over room = let first = (room_there _ _ _ _ room).0 in let no = rw over at first in cc
  fits false over room = refl

  -- where there is room, something is asked of the file
  asked : Accepts bytes limit f → room_of limit (asked_with true (Step k) ∷ []) m ≡ Ok tt
      → IsAsked limit k bytes f
  asked accepts room = (
    (
      accepts,
      subst (λ c. unrolled_size c k ≤ limit) is
          (ltb-false limit (unrolled_size m k)
          (fits (nat_lt limit (unrolled_size m k)) refl room)),
    ),
    λ none. eqb-false (length m.properties.bads) 0 (room_there _ _ _ _ room).1
        (count ∙ ap length none),
  )

  -- and where it is told that nothing is, there is no bad literal
  nothing : room_of limit (asked_with true (Step k) ∷ []) m ≡ Err plans.NoBads
      → f.properties.bads ≡ []
  nothing room =
      nil_from_length f.properties.bads
      (sym count ∙ eqb-true (length m.properties.bads) 0 (none_asked _ _ _ _ room))

-- ---- a step of a file whose bytes are known

module _ {P : Type 0} (failed : List ℕ → Bool) (left : P → Option (List ℕ)) (unread : P → Bool)
    (limit k : ℕ) (bytes : List ℕ) (after : List (List ℕ)) (proofs others : List P) where
  abbrev pub IsChecked : Result (Unit {0}) GoalFault → Type 0
  IsChecked r =
      ChecksGoal Some failed left unread limit (subjects.File Own) (goals.Refuted k) true true
      (bytes ∷ []) proofs r after others

  abbrev Means : List File → Result (Unit {0}) GoalFault → Type 0
  Means = TellsOfGoal left unread limit (subjects.File Own) (goals.Refuted k) true true proofs others

  pub taken_asked : IsChecked (Ok tt) → (f : File) × IsAsked limit k bytes f
  taken_asked told =
      let read = of_file failed limit Means bytes after (Ok tt) told.reads.reads in
      (read.0, asked limit k bytes read.0 read.2.1.0 read.2.1.1 read.1 read.2.1.2.0)

  pub refused_asked : (fault : GoalFault) (e : Refused) → fault ≡ faults.Plan (plans.Refused e)
      → IsChecked (Err fault) → (f : File) × IsAsked limit k bytes f
  refused_asked fault e same told =
      let is = subst (λ x. IsChecked (Err x)) same told in
      let read = of_file failed limit Means bytes after (Err (faults.Plan (plans.Refused e)))
      is.reads.reads in
      (read.0, asked limit k bytes read.0 read.2.0 read.2.1 read.1 read.2.2.0)

  pub nothing_asked : (fault : GoalFault) → fault ≡ faults.Plan plans.NoBads
      → IsChecked (Err fault) → (f : File) × Accepts bytes limit f × (f.properties.bads ≡ [])
  nothing_asked fault same told =
      let is = subst (λ x. IsChecked (Err x)) same told in
      let read = of_file failed limit Means bytes after (Err (faults.Plan plans.NoBads))
      is.reads.reads in
      (read.0, read.1, nothing limit k bytes read.0 read.2.0 read.2.1 read.2.2.0)
