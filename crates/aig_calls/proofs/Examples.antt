-- Statuses of errors, numbers of clauses and what calls leave in the caller's memory, computed; and
-- wrong ones, of which the definitions are false.
use Rattle.aig_calls.proofs.Words.{◌≡◌, ◌≢◌, ℕ, ◌<◌, ◌^◌, true, false, Some, Ok, Err, Result, List, [], ◌∷◌, codes, slice_index, refl, sym, ap, ◌∙◌, arith, same_Some, ℤ, pos, negsuc, lit_to, Base, Step, AtStep, Bool, LIMIT, GivesItems, GivesListing, IsGiven, Prints, TellsBad, TellsLasso, form_of, Writer, held, clause_numbers, dimacs_number, DONE, SMALL, read_status}
use Rattle.aig_answers.specs.declared.error.AnswerError.{AnswerError}
use Rattle.aig_answers.specs.declared.error.AnswerError.TheVariants as answers
use Rattle.aig_answers.specs.Goals.{ChecksGoal}
use Rattle.aig_answers.specs.declared.goals.error.GoalFault.TheVariants as goal_faults
use Rattle.aig_answers.specs.declared.goals.goal.Goal.{Goal}
use Rattle.aig_answers.specs.declared.goals.goal.Goal.TheVariants as goals
use Rattle.aig_answers.specs.declared.plans.errors.PlanError.TheVariants as plans
use Rattle.aig_answers.specs.declared.plans.errors.Why.TheVariants as whys
use Rattle.aig_calls.specs.Checking.{none_fails}
use Rattle.aig_calls.specs.declared.pairs.TheConstants.{COMPARISON}
use Rattle.aig_edits.specs.declared.edit_error.EditError.TheVariants as edit
use Rattle.aig_edits.specs.declared.pair_error.PairError.TheVariants as pair
use Rattle.aig_reader.specs.declared.error.ReadError.TheVariants as read
use Rattle.aig_reader.specs.declared.error.Section.TheVariants as section
use Rattle.aig_refutation.specs.declared.error.RefutationError.TheVariants as refutation
use Rattle.aig_runs.specs.declared.window.Window.TheVariants.{Distinct, Plain}
use Rattle.aig_witness_circuit_checks.specs.declared.error.ConditionError.TheVariants as conditions
use Rattle.aig_witness_circuit_checks.specs.declared.error.SimulationError.TheVariants as simulation
use Rattle.aig_subjects.specs.declared.error.SubjectError.TheVariants as subject_errors
use Rattle.aig_edit_laws.specs.declared.fairness.Fairness.TheVariants.{Justice}
use Rattle.aig_subjects.specs.declared.subject.FileSubject.TheVariants.{Live, Own}
use Rattle.aig_subjects.specs.declared.subject.Subject.{Subject}
use Rattle.aig_subjects.specs.declared.subject.Subject.TheVariants as subjects
use Rattle.aig_witness.specs.declared.fair.file.ClaimError.TheVariants as claims
use Rattle.aig_witness.specs.declared.fair.file.ShownProperty.TheVariants as properties
use Rattle.aig_witness.specs.declared.fault.WitnessFault.TheVariants as faults
use Rattle.aig_witness.specs.declared.file.ShowError.TheVariants as shows
use Rattle.aig_witness.specs.declared.file.Shown.{Shown}
use Rattle.aig_calls.specs.Statuses.{answer_status, claim_status, goal_status, many_steps, pair_status, show_status, simulation_status}

-- ---- statuses

-- a bad line of a gate, and the second file's bad header and want of memory
gate-status : read_status (read.Syntax section.Gates) ≡ 23
gate-status = refl

other-status : (pair_status (pair.Other read.Header) ≡ 266)
    × (pair_status (pair.Other read.Memory) ≡ 2)
other-status = (refl, refl)

-- a bad literal of a gate is told as a bad line, and the second file as the first
no_line_for_literal : read_status (read.Literal section.Gates) ≢ 23
no_line_for_literal is = let status : 31 ≡ 23 = is in omega (arith, status)

no_first_file : pair_status (pair.Other read.Header) ≢ pair_status (pair.Read read.Header)
no_first_file is = let status : 266 ≡ 10 = is in omega (arith, status)

-- a want of memory has the flag of the second file
no_flag_of_memory : pair_status (pair.Other read.Memory) ≢ 258
no_flag_of_memory is = let status : 2 ≡ 258 = is in omega (arith, status)

-- a bad line of the proof for `step` is told as one of that for `base`
step-status : simulation_status
    (simulation.Condition Step (conditions.Refutation refutation.Line)) ≡ 4137
step-status = refl

no_flag_of_base :
    simulation_status (simulation.Condition Step (conditions.Refutation refutation.Line))
    ≢ simulation_status (simulation.Condition Base (conditions.Refutation refutation.Line))
no_flag_of_base is = let status : 4137 ≡ 2089 = is in omega (arith, status)

-- the window of what is made of a file is refused as one of the file
no_window_of_file :
    goal_status (subjects.File (Live (Justice 0))) (goals.Safe 3 Plain)
    (goal_faults.Plan plans.NoBads)
    ≢ goal_status (subjects.File Own) (goals.Safe 3 Plain) (goal_faults.Plan plans.NoBads)
no_window_of_file is = let status : 1030 ≡ 6 = is in omega (arith, status)

-- a bad line of a proof of one of two questions is told as one of the other
abbrev line_of : Subject → Goal → ℕ → ℕ
line_of subject goal i =
    goal_status subject goal (goal_faults.Plan (plans.Refused (record {
      index = i;
      why = whys.Refutation refutation.Line;
    })))

proof-statuses : (line_of (subjects.File Own) (goals.Safe 3 Plain) 0 ≡ 2089)
    × (line_of (subjects.Certified Own) (goals.SafeBySteps 0 Plain) 1 ≡ 1065)
    × (line_of (subjects.MiterCertified COMPARISON) (goals.SafeBySteps 0 Plain) 0 ≡ 8745)
proof-statuses = (refl, refl, refl)

no_base_for_step : line_of (subjects.Miter COMPARISON) (goals.Safe 3 Plain) 1
    ≢ line_of (subjects.Miter COMPARISON) (goals.Safe 3 Plain) 0
no_base_for_step is = let status : 4137 ≡ 2089 = is in omega (arith, status)

-- a certificate of a miter is refused as the second file
no_file_for_certificate : (goal : Goal)
    → goal_status (subjects.MiterCertified COMPARISON) goal
    (goal_faults.Subject (subject_errors.Certificate (pair.Other read.Header)))
    ≢ goal_status (subjects.MiterCertified COMPARISON) goal
    (goal_faults.Subject (subject_errors.Pair (pair.Other read.Header)))
no_file_for_certificate goal is = let status : 8458 ≡ 266 = is in omega (arith, status)

-- why a witness of a bad state shows none is told where one of a lasso is wanted
no_fault_told : claim_status (claims.Show (shows.Check faults.Latches))
    ≢ show_status (shows.Check faults.Latches)
no_fault_told is = let status : 64 ≡ 70 = is in omega (arith, status)

-- ---- numbers

-- literals count from 1, and the inverse of the first is -1
clause-numbers : clause_numbers (lit_to 0 false ∷ lit_to 2 true ∷ [])
    ≡ negsuc 0 ∷ pos 3 ∷ pos 0 ∷ []
clause-numbers = refl

-- they count from 0, and an inverted literal is told as it is
no_count_from_0 : dimacs_number (lit_to 3 true) ≢ pos 3
no_count_from_0 is = let number : 4 ≡ 3 = ap size is in omega (arith, number)
  where
    size : ℤ → ℕ
    size (pos n) = n
    size (negsuc n) = n

no_sign_lost : dimacs_number (lit_to 3 false) ≢ pos 4
no_sign_lost is = let number : negsuc 3 ≡ pos 4 = is in cc

-- ---- what is left in memory

abbrev third : List ℕ → ℕ
third items = slice_index items 2

abbrev two : List ℕ
two = 7 ∷ 8 ∷ []

-- two items before what was there
fitting : IsGiven DONE two (1 ∷ 2 ∷ 3 ∷ []) (7 ∷ 8 ∷ 3 ∷ []) 2
fitting = record {
  count = refl;
  whole = λ is. refl;
  short = λ is. let status : 0 ≡ 1 = is in absurd (omega (arith, status));
  only = omega arith;
}

-- what was behind them is cleared, and room is missed that is there
no_rest_cleared : (needed : ℕ)
    → ¬ IsGiven DONE two (1 ∷ 2 ∷ 3 ∷ []) (7 ∷ 8 ∷ 0 ∷ []) needed
no_rest_cleared needed given =
    let rest : 0 ≡ 3 = ap third (given.whole refl) in omega (arith, rest)

no_room_missed : (new : List ℕ) (needed : ℕ)
    → ¬ IsGiven SMALL two (1 ∷ 2 ∷ 3 ∷ []) new needed
no_room_missed new needed given =
    let room : 3 < 2 = (given.short refl).0 in omega (arith, room)

-- a beginning is written where both don't fit, and that room is told as what is needed
no_beginning_written : (needed : ℕ) → ¬ IsGiven SMALL two (1 ∷ []) (7 ∷ []) needed
no_beginning_written needed given =
    let item : 7 ≡ 1 = ap (λ items. slice_index items 0) (given.short refl).1 in
    omega (arith, item)

no_room_told : (status : ℕ) (old new : List ℕ) → ¬ IsGiven status two old new 1
no_room_told status old new given = let count : 1 ≡ 2 = given.count in omega (arith, count)

-- an error sets the number of items to 0
no_count_of_error : (status : ℕ) (old new : List ℕ)
    → ¬ GivesItems answer_status (Err answers.NoBads) status old new 9 0
no_count_of_error status old new given = let count : 0 ≡ 9 = given.2 in omega (arith, count)

-- or that of variables
no_variables_of_error : (status needed had_len clauses_len : ℕ) (old new : List ℤ)
    → ¬ GivesListing (Err answers.NoBads) status old new needed needed 9 0 had_len clauses_len
no_variables_of_error status needed had_len clauses_len old new given =
    let variables : 0 ≡ 9 = given.3 in omega (arith, variables)

abbrev shown : Shown
shown = record { bad = 3; step = 5 }

-- the bad state and its step are turned round, or a number is written where none is shown
no_step_for_bad : (status had before : ℕ) → ¬ TellsBad (Ok shown) status had 5 before 3
no_step_for_bad status had before told = let bad : 5 ≡ 3 = told.1 in omega (arith, bad)

no_bad_written : (status before step : ℕ)
    → ¬ TellsBad (Err shows.NoWitness) status 9 0 before step
no_bad_written status before step told = let bad : 0 ≡ 9 = told.1 in omega (arith, bad)

-- a witness of a bad state is told as one of a lasso
no_lasso_of_bad : (had justice before start at last : ℕ)
    → ¬ TellsLasso (Ok (properties.Bad shown)) DONE had justice before start at last
no_lasso_of_bad had justice before start at last told =
    let status : 0 ≡ 64 = told.0 in omega (arith, status)

-- another text is given than was written
no_other_text :
    ¬ Prints (λ (r : Result Unit AnswerError) (old new : Writer).
    held new ≡ Some (codes "equal")) (Ok (codes "safe"))
no_other_text printed =
    let text : codes "safe" ≡ codes "equal" = same_Some _ _ (sym printed.3.0 ∙ printed.3.1) in
    let letter : 115 ≡ 101 = ap (λ bytes. slice_index bytes 0) text in
    omega (arith, letter)

-- ---- steps

-- states are told apart exactly where that is asked for
distinct-form : (form_of true ≡ Distinct) × (form_of false ≡ Plain)
distinct-form = (refl, refl)

-- step 2^32 is answered, and the one before it is refused
no_answer_past_steps : ¬ AtStep (2 ^ 32) DONE (Unit {0}) (Unit {0})
no_answer_past_steps told =
    let status : 0 ≡ 4 = (told.0 (omega arith)).0 in omega (arith, status)

no_refusal_below : ¬ AtStep 4294967295 many_steps (Unit {0}) (many_steps ≡ DONE)
no_refusal_below told = let status : 4 ≡ 0 = told.1 (omega arith) in omega (arith, status)

-- ---- checks

-- a read of a file's bytes, which lie in memory, is said to have failed
no_read_fails : (goal : Goal) (base step : Bool) (file rest : List ℕ)
    (proofs others : List (List ℕ))
    → ¬ ChecksGoal Some none_fails Some none_fails LIMIT (subjects.File Own) goal base step
    (file ∷ []) proofs
    (Err (goal_faults.Subject (subject_errors.File (edit.Read read.Stream)))) (rest ∷ []) others
no_read_fails goal base step file rest proofs others told =
    let failed : false ≡ true = told.reads.reads.0.stream refl in cc
