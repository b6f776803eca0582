use Rattle.aig_base.proofs.Words.{◌≡◌, ℕ, List, [], ◌∷◌, ◌++◌, refl, ◌∙◌, arith, codes, decimal}
use Rattle.std.proofs.lemmas.Fmt.{decimal_digit}
use Rattle.aig_format.specs.File.{File}
use Rattle.aig_join.specs.declared.starts.Starts.TheVariants.{Apart}
use Rattle.aig_runs.proofs.SafeSteps.{safe_is}
use Rattle.aig_runs.specs.Queries.{IsSafeTo}
use Rattle.aig_runs.specs.Safety.{IsSafeAt}
use Rattle.aig_check_commands.specs.declared.command.Action.TheVariants as actions
use Rattle.aig_edit_laws.specs.declared.fairness.Fairness.TheVariants.{Alone, Justice}
use Rattle.aig_subjects.specs.declared.subject.FileSubject.TheVariants.{Outputs, Possible, Property}
use Rattle.aig_callers.proofs.KnownLines.{digit, digit_line, fair_call, own_call, own_witness_call, plain_call, plain_words, witness_call, witness_words}
use Rattle.aig_callers.proofs.instances.printed_lines_are_true.Goals as goal

-- the files, and what is given beside them
abbrev one : List (List ℕ)
one = codes "FILE" ∷ []

abbrev both : List (List ℕ)
both = codes "FILE" ∷ codes "OTHER" ∷ []

abbrev proof : List (List ℕ)
proof = codes "PROOF" ∷ []

abbrev proofs : List (List ℕ)
proofs = codes "BASE" ∷ codes "STEP" ∷ []

abbrev each : List (List ℕ)
each = codes "RESET" ∷ codes "TRANSITION" ∷ codes "PROPERTY" ∷ proofs

-- a machine that is safe at every step
safe_at_all : (f : File) → ((k : ℕ) → IsSafeAt f k) → (n : ℕ) → IsSafeTo f n
safe_at_all f safe n = (safe_is f n).0 (λ k low. safe k)

-- the line of five steps
lasso_5 : (codes "no fair lasso of j" ++ (decimal 0 ++ 32 ∷ []) ++ codes "of ")
    ++ (decimal 5 ++ 32 ∷ []) ++ (codes "steps" ++ 10 ∷ [])
    ≡ codes "no fair lasso of j0 of 5 steps\n"
lasso_5 = rw (decimal_digit 0 (omega arith), decimal_digit 5 (omega arith)) refl

lasso_to_5 : (codes "no fair lasso of j" ++ (decimal 0 ++ 32 ∷ []) ++ codes "of at most ")
    ++ (decimal 5 ++ 32 ∷ []) ++ (codes "steps" ++ 10 ∷ [])
    ≡ codes "no fair lasso of j0 of at most 5 steps\n"
lasso_to_5 = rw (decimal_digit 0 (omega arith), decimal_digit 5 (omega arith)) refl

if_lasso_5 : (codes "no fair run of j" ++ (decimal 0 ++ 44 ∷ [])
    ++ codes " if no fair lasso of at most ")
    ++ (decimal 5 ++ 32 ∷ []) ++ (codes "steps" ++ 10 ∷ [])
    ≡ codes "no fair run of j0, if no fair lasso of at most 5 steps\n"
if_lasso_5 = rw (decimal_digit 0 (omega arith), decimal_digit 5 (omega arith)) refl

pub returns-clause-refuted : goal.returns-clause-refuted
returns-clause-refuted c file other text printed =
    let told = printed _ _ _
    (plain_call actions.Refuted one (codes "0" ∷ []) proof 0 refl refl
    (codes "0", refl, digit 0 (omega arith)) refl refl) (refl, refl) in (
      told.0,
      told.1,
      (
        told.2.0
            ∙ digit_line (codes "no bad state at step ") 0 (omega arith),
        told.2.1,
      ),
    )

pub returns-clause-refuted_to : goal.returns-clause-refuted_to
returns-clause-refuted_to c file other text printed =
    let told = printed _ _ _
    (plain_call actions.RefutedTo one (codes "to" ∷ codes "3" ∷ []) proof 3 refl refl
    (codes "3", refl, digit 3 (omega arith)) refl refl) (refl, refl) in (
      told.0,
      told.1,
      (
        told.2.0
            ∙ digit_line (codes "no bad state up to step ") 3 (omega arith),
        (safe_is told.0 3).0 told.2.1,
      ),
    )

pub returns-clause-inductive : goal.returns-clause-inductive
returns-clause-inductive c file other text printed =
    let told = printed _ _ _
    (plain_call actions.Inductive one (codes "2" ∷ []) proof 2 refl refl
    (codes "2", refl, digit 2 (omega arith)) refl refl) (refl, refl) in (
      told.0,
      told.1,
      (
        told.2.0
            ∙ digit_line (codes "no bad state at any step, if none up to step ") 2 (omega arith),
        told.2.1.0,
        λ safe n. (safe_is told.0 n).0
            (λ k low. told.2.1.1 tt (λ t h. (safe_is told.0 2).1 safe t h) k),
      ),
    )

pub returns-clause-safe_to : goal.returns-clause-safe_to
returns-clause-safe_to c file other text printed =
    let told = printed _ _ _
    (plain_call actions.Safe one (codes "to" ∷ codes "1" ∷ []) proofs 1 refl refl
    (codes "1", refl, digit 1 (omega arith)) refl refl) (refl, refl) in
    (told.0, told.1, (told.2.0, safe_at_all told.0 told.2.1))

pub returns-clause-safe_each : goal.returns-clause-safe_each
returns-clause-safe_each c file other text printed =
    let told = printed _ _ _
    (plain_call actions.SafeBySteps one (codes "each" ∷ codes "0" ∷ [])
    (codes "P0" ∷ codes "STEP" ∷ []) 0 refl refl
    (codes "0", refl, digit 0 (omega arith)) refl refl) (refl, refl) in
    (told.0, told.1, (told.2.0, safe_at_all told.0 told.2.1))

pub returns-clause-certified : goal.returns-clause-certified
returns-clause-certified c file other text printed =
    let told = printed _ _ _
    (plain_call actions.Certified both [] proofs 0 refl refl
    (refl, refl) refl refl) (refl, refl) in
    (told.0, told.1, (told.2.2.0, safe_at_all told.0 told.2.2.1))

pub returns-clause-simulated : goal.returns-clause-simulated
returns-clause-simulated c file other text printed =
    let told = printed _ _ _ (witness_call both each refl refl refl) (refl, refl) in
    (told.0, told.1, (told.2.0, safe_at_all told.0 told.2.1))

pub returns-clause-equal : goal.returns-clause-equal
returns-clause-equal c file other text printed =
    let told = printed _ _ _
    (plain_call (actions.Equal Apart) both (codes "5" ∷ []) proof 5 refl refl
    (codes "5", refl, digit 5 (omega arith)) refl refl) (refl, refl) in (
      told.0,
      told.1,
      (
        told.2.0,
        told.2.1,
        (
          told.2.2.0
              ∙ digit_line (codes "equal at step ") 5 (omega arith),
          told.2.2.1.1,
        ),
      ),
    )

pub returns-clause-equal_to : goal.returns-clause-equal_to
returns-clause-equal_to c file other text printed =
    let told = printed _ _ _
    (plain_call (actions.AlwaysEqual Apart) both (codes "to" ∷ codes "1" ∷ []) proofs 1 refl refl
    (codes "1", refl, digit 1 (omega arith)) refl refl) (refl, refl) in
    (told.0, told.1, (told.2.0, told.2.1, (told.2.2.0, λ n. (told.2.2.1 n).1)))

pub returns-clause-equal_by : goal.returns-clause-equal_by
returns-clause-equal_by c file other text printed =
    let told = printed _ _ _
    (plain_call (actions.EqualBy Apart) both (codes "by" ∷ []) (codes "CERT" ∷ proofs) 0 refl refl
    (refl, refl) refl refl) (refl, refl) in
    (told.0, told.1, (told.2.0, told.2.1, (told.2.2.1.0, λ n. (told.2.2.1.1 n).1)))

pub returns-clause-run : goal.returns-clause-run
returns-clause-run c file other text printed =
    let told = printed _ _ _
    (plain_call actions.Run one [] (codes "WITNESS" ∷ []) 0 refl refl
    (refl, refl) refl refl) (refl, refl) in
    told

pub returns-clause-fair_refuted : goal.returns-clause-fair_refuted
returns-clause-fair_refuted c file other text printed =
    let told = printed _ _ _
    (fair_call (Justice 0) (codes "0" ∷ []) actions.Refuted one (codes "4" ∷ []) proof 4
    (codes "0", digit 0 (omega arith), refl) refl refl
    (codes "4", refl, digit 4 (omega arith)) refl refl) (refl, refl) in
    (told.0, told.1, (told.2.0 ∙ lasso_5, told.2.1))

pub returns-clause-fair_refuted_to : goal.returns-clause-fair_refuted_to
returns-clause-fair_refuted_to c file other text printed =
    let told = printed _ _ _
    (fair_call (Justice 0) (codes "0" ∷ []) actions.RefutedTo one
    (codes "to" ∷ codes "4" ∷ []) proof 4 (codes "0", digit 0 (omega arith), refl) refl refl
    (codes "4", refl, digit 4 (omega arith)) refl refl) (refl, refl) in
    (told.0, told.1, (told.2.0 ∙ lasso_to_5, told.2.1))

pub returns-clause-fair_inductive : goal.returns-clause-fair_inductive
returns-clause-fair_inductive c file other text printed =
    let told = printed _ _ _
    (fair_call (Justice 0) (codes "0" ∷ []) actions.Inductive one (codes "4" ∷ []) proof 4
    (codes "0", digit 0 (omega arith), refl) refl refl
    (codes "4", refl, digit 4 (omega arith)) refl refl) (refl, refl) in
    (told.0, told.1, (told.2.0 ∙ if_lasso_5, told.2.1.1 tt))

pub returns-clause-fair_safe : goal.returns-clause-fair_safe
returns-clause-fair_safe c file other text printed =
    let told = printed _ _ _
    (fair_call (Justice 0) (codes "0" ∷ []) actions.Safe one (codes "to" ∷ codes "1" ∷ []) proofs 1
    (codes "0", digit 0 (omega arith), refl) refl refl
    (codes "1", refl, digit 1 (omega arith)) refl refl) (refl, refl) in (
      told.0,
      told.1,
      (
        told.2.0
            ∙ digit_line (codes "no fair run of j") 0 (omega arith),
        told.2.1,
      ),
    )

endless_5 : codes "no lasso of " ++ (decimal 5 ++ 32 ∷ [])
    ++ (codes "steps meets the constraints and fairness" ++ 10 ∷ [])
    ≡ codes "no lasso of 5 steps meets the constraints and fairness\n"
endless_5 = rw (decimal_digit 5 (omega arith)) refl

endless_to_5 : codes "no lasso of at most " ++ (decimal 5 ++ 32 ∷ [])
    ++ (codes "steps meets the constraints and fairness" ++ 10 ∷ [])
    ≡ codes "no lasso of at most 5 steps meets the constraints and fairness\n"
endless_to_5 = rw (decimal_digit 5 (omega arith)) refl

if_endless_5 : codes "no run without end meets the constraints and fairness, if no lasso of at most "
    ++ (decimal 5 ++ 32 ∷ []) ++ (codes "steps does" ++ 10 ∷ [])
    ≡ codes "no run without end meets the constraints and fairness, if no lasso of at most 5 steps does\n"
if_endless_5 = rw (decimal_digit 5 (omega arith)) refl

pub returns-clause-endless_refuted : goal.returns-clause-endless_refuted
returns-clause-endless_refuted c file other text printed =
    let told = printed _ _ _
    (fair_call Alone [] actions.Refuted one (codes "4" ∷ []) proof 4 refl refl refl
    (codes "4", refl, digit 4 (omega arith)) refl refl) (refl, refl) in
    (told.0, told.1, (told.2.0 ∙ endless_5, told.2.1))

pub returns-clause-endless_refuted_to : goal.returns-clause-endless_refuted_to
returns-clause-endless_refuted_to c file other text printed =
    let told = printed _ _ _
    (fair_call Alone [] actions.RefutedTo one (codes "to" ∷ codes "4" ∷ []) proof 4 refl refl refl
    (codes "4", refl, digit 4 (omega arith)) refl refl) (refl, refl) in
    (told.0, told.1, (told.2.0 ∙ endless_to_5, told.2.1))

pub returns-clause-endless_inductive : goal.returns-clause-endless_inductive
returns-clause-endless_inductive c file other text printed =
    let told = printed _ _ _
    (fair_call Alone [] actions.Inductive one (codes "4" ∷ []) proof 4 refl refl refl
    (codes "4", refl, digit 4 (omega arith)) refl refl) (refl, refl) in
    (told.0, told.1, (told.2.0 ∙ if_endless_5, told.2.1.1 tt))

pub returns-clause-endless_safe : goal.returns-clause-endless_safe
returns-clause-endless_safe c file other text printed =
    let told = printed _ _ _
    (fair_call Alone [] actions.Safe one (codes "to" ∷ codes "1" ∷ []) proofs 1 refl refl refl
    (codes "1", refl, digit 1 (omega arith)) refl refl) (refl, refl) in
    (told.0, told.1, (told.2.0, told.2.1))

pub returns-clause-endless_certified : goal.returns-clause-endless_certified
returns-clause-endless_certified c file other text printed =
    let told = printed _ _ _
    (fair_call Alone [] actions.Certified both [] proofs 0 refl refl refl (refl, refl) refl refl)
    (refl, refl) in
    (told.0, told.1, (told.2.2.0, told.2.2.1))

property_4 : (codes "b" ++ (decimal 1 ++ 58 ∷ []) ++ codes " no bad state")
    ++ (codes " at step " ++ (decimal 4 ++ 10 ∷ [])) ≡ codes "b1: no bad state at step 4\n"
property_4 = rw (decimal_digit 1 (omega arith), decimal_digit 4 (omega arith)) refl

pub returns-clause-property_refuted : goal.returns-clause-property_refuted
returns-clause-property_refuted c file other text printed =
    let told = printed _ _ _
    (own_call (Property 1) (codes "--property" ∷ codes "1" ∷ []) actions.Refuted one
    (codes "4" ∷ []) proof 4 (λ is. cc) (
      codes "1" ∷ plain_words actions.Refuted one (codes "4" ∷ []) proof,
      refl,
      (codes "1", digit 1 (omega arith), refl),
    ) refl refl (codes "4", refl, digit 4 (omega arith)) refl refl) (refl, refl) in
    (told.0, told.1, (told.2.0 ∙ property_4, told.2.1))

property_always : (codes "b" ++ (decimal 1 ++ 58 ∷ []) ++ codes " no bad state")
    ++ (codes " at any step" ++ 10 ∷ []) ≡ codes "b1: no bad state at any step\n"
property_always = rw (decimal_digit 1 (omega arith)) refl

pub returns-clause-property_simulated : goal.returns-clause-property_simulated
returns-clause-property_simulated c file other text printed =
    let told = printed _ _ _
    (own_witness_call both each refl refl (Property 1) (codes "--property" ∷ codes "1" ∷ [])
    (λ is. cc)
    (codes "1" ∷ witness_words both each, refl, (codes "1", digit 1 (omega arith), refl)) refl)
    (refl, refl) in
    (told.0, told.1, (told.2.0 ∙ property_always, told.2.1))

unmet_4 : codes "no run of more than " ++ (decimal 4 ++ 32 ∷ [])
    ++ (codes "steps meets the constraints" ++ 10 ∷ [])
    ≡ codes "no run of more than 4 steps meets the constraints\n"
unmet_4 = rw (decimal_digit 4 (omega arith)) refl

pub returns-clause-possible_refuted : goal.returns-clause-possible_refuted
returns-clause-possible_refuted c file other text printed =
    let told = printed _ _ _
    (own_call Possible (codes "--possible" ∷ []) actions.Refuted one (codes "4" ∷ []) proof 4
    (λ is. cc) (plain_words actions.Refuted one (codes "4" ∷ []) proof, refl, refl) refl refl
    (codes "4", refl, digit 4 (omega arith)) refl refl) (refl, refl) in
    (told.0, told.1, (told.2.0 ∙ unmet_4, told.2.1))

if_unmet_5 : codes "no run meets the constraints, if none of at most " ++ (decimal 5 ++ 32 ∷ [])
    ++ (codes "steps does" ++ 10 ∷ [])
    ≡ codes "no run meets the constraints, if none of at most 5 steps does\n"
if_unmet_5 = rw (decimal_digit 5 (omega arith)) refl

pub returns-clause-possible_refuted_to : goal.returns-clause-possible_refuted_to
returns-clause-possible_refuted_to c file other text printed =
    let told = printed _ _ _
    (own_call Possible (codes "--possible" ∷ []) actions.RefutedTo one
    (codes "to" ∷ codes "4" ∷ []) proof 4 (λ is. cc)
    (plain_words actions.RefutedTo one (codes "to" ∷ codes "4" ∷ []) proof, refl, refl) refl refl
    (codes "4", refl, digit 4 (omega arith)) refl refl) (refl, refl) in
    (told.0, told.1, (told.2.0, told.2.1))

pub returns-clause-possible_inductive : goal.returns-clause-possible_inductive
returns-clause-possible_inductive c file other text printed =
    let told = printed _ _ _
    (own_call Possible (codes "--possible" ∷ []) actions.Inductive one (codes "4" ∷ []) proof 4
    (λ is. cc) (plain_words actions.Inductive one (codes "4" ∷ []) proof, refl, refl) refl refl
    (codes "4", refl, digit 4 (omega arith)) refl refl) (refl, refl) in
    (told.0, told.1, (told.2.0 ∙ if_unmet_5, told.2.1.1 tt))

pub returns-clause-possible_safe : goal.returns-clause-possible_safe
returns-clause-possible_safe c file other text printed =
    let told = printed _ _ _
    (own_call Possible (codes "--possible" ∷ []) actions.Safe one
    (codes "to" ∷ codes "1" ∷ []) proofs 1 (λ is. cc)
    (plain_words actions.Safe one (codes "to" ∷ codes "1" ∷ []) proofs, refl, refl) refl refl
    (codes "1", refl, digit 1 (omega arith)) refl refl) (refl, refl) in
    (told.0, told.1, (told.2.0, told.2.1))

pub returns-clause-outputs_safe : goal.returns-clause-outputs_safe
returns-clause-outputs_safe c file other text printed =
    let told = printed _ _ _
    (own_call Outputs (codes "--outputs" ∷ []) actions.Safe one
    (codes "to" ∷ codes "1" ∷ []) proofs 1
    (λ is. cc) (plain_words actions.Safe one (codes "to" ∷ codes "1" ∷ []) proofs, refl, refl) refl
    refl (codes "1", refl, digit 1 (omega arith)) refl refl) (refl, refl) in
    (told.0, told.1, (told.2.0, told.2.1))
