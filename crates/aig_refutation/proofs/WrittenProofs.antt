-- Texts of LRAT files as they are written, and the steps that are read of them.
use Rattle.aig_base.proofs.Words.{◌≤◌, ◌≡◌, ℕ, ◌^◌, ◌<◌, Bool, true, false, List, [], ◌∷◌, ◌++◌, map, Some, Ok, Err, inl, inr, ◌⊎◌, IfSome, option_map, refl, sym, ap, subst, ◌∙◌, append_assoc, append-nil, codes, flat_map, All, recursion_from_All}
use Rattle.aig_base.specs.declared.logic.literal.Lit.{Lit}
use Rattle.aig_base.specs.Clauses.{variable_of}
use Rattle.aig_format.specs.Parse.{is_digit}
use Rattle.aig_refutation.specs.declared.error.RefutationError.{RefutationError}
use Rattle.aig_refutation.specs.declared.error.RefutationError.TheVariants as errors
use Rattle.aig_refutation.specs.Checking.{IsInConflict, IsOutcome, Shows, all_live, are_all_in, outcome, shown_by}
use Rattle.aig_refutation.specs.Forms.{steps_in}
use Rattle.aig_refutation.specs.Proofs.{Numbered, allowed, is_comment, is_none, line_in, script_if, script_of, widened}
use Rattle.aig_refutation.specs.Steps.{Step, Adds, Deletes}
use Rattle.aig_refutation.specs.Text.{begins, lines_of}
use Rattle.aig_refutation.specs.Written.{AreGroups, AreWithin, IsNumber, IsWrittenStep, added_line, deleted_line, literal_text, number_text, proof_text, signed_text}
use Rattle.aig_refutation.proofs.Shapes.{unworded}
use Rattle.aig_refutation.proofs.Widening.{allowed_most, few, widened_most}
use Rattle.aig_refutation.proofs.WrittenLines.{AreNumbers, added_read, added_words, all_hints, are_all, deleted_read, deleted_words}
use Rattle.aig_refutation.proofs.WrittenWords.{begins-number, reads_lines}
use Rattle.aig_refutation.proofs.Texts.{end_first}

-- a text that shows clauses to be in conflict isn't refused
module _ (variables : ℕ) (clauses : List (List Lit)) (bytes : List ℕ) (fits : are_all_in variables clauses ≡ true) (is : shown_by variables clauses bytes ≡ Some (Ok tt)) where
  no_error : (e : RefutationError) → IsOutcome variables clauses (Some bytes) (Err e) → ⊥
  no_error e o =
      let none : IsInConflict clauses → ⊥ = λ conflict. let wrong = o.in_conflict fits conflict in cc in
      let same = subst (λ shown. IfSome shown (λ r. Err e ≡ r)) is (o.by_steps fits none) in
      cc

  pub not_refused : (e : RefutationError) → Shows variables clauses (Some bytes) (Err e) → (e ≡ errors.Memory) ⊎ (e ≡ errors.Stream)
  not_refused errors.Memory shows = inl refl
  not_refused errors.Stream shows = inr refl
  not_refused e shows = absurd (no_error e shows)

-- the number that a step's line begins with, and the words after it
abbrev step_number : ℕ → Step → ℕ
step_number last (Adds number clause hints groups) = number
step_number last (Deletes numbers) = last

abbrev step_words : Step → List (List ℕ)
step_words (Adds number clause hints groups) = map literal_text clause ++ codes "0 " ∷ (map signed_text (all_hints hints groups) ++ codes "0\n" ∷ [])
step_words (Deletes numbers) = codes "d " ∷ (map number_text numbers ++ codes "0\n" ∷ [])

are_hints : (hints : List ℕ) (groups : List (Bool × ℕ)) → All IsNumber hints → AreGroups groups
    → AreNumbers (all_hints hints groups)
are_hints hints groups are behind = are_all hints groups (recursion_from_All IsNumber hints are) (recursion_from_All (λ hint. IsNumber hint.1) groups behind.0)

module _ (variables : ℕ) (small : variables < 2 ^ 32) where
  number_is : (last : ℕ) (step : Step) → IsNumber last → IsWrittenStep variables step → IsNumber (step_number last step)
  number_is last (Adds number clause hints groups) before is = is.0
  number_is last (Deletes numbers) before is = before

  step_lines : (last : ℕ) (step : Step) (steps : List Step) → IsNumber last → IsWrittenStep variables step
      → lines_of (proof_text last (step ∷ steps)) ≡ (number_text (step_number last step) ∷ step_words step) ∷ lines_of (proof_text (step_number last step) steps)
  unfolding proof_text
  step_lines last (Adds number clause hints groups) steps before is =
      reads_lines _ _ _ (added_words variables small number is.0 (proof_text number steps) clause hints groups (recursion_from_All (λ lit. variable_of lit < variables) clause is.1) (are_hints hints groups is.2 is.3))
  step_lines last (Deletes numbers) steps before is =
      reads_lines _ _ _ (deleted_words variables small last before (proof_text last steps) numbers (recursion_from_All IsNumber numbers is))

  step_read : (numbered is_last : Bool) (last : ℕ) (step : Step) → IsNumber last → IsWrittenStep variables step
      → line_in numbered variables is_last (number_text (step_number last step)) (step_words step) ≡ Ok (Numbered step)
  step_read numbered is_last last (Adds number clause hints groups) before is =
      added_read variables small numbered is_last number is.0 clause hints groups (recursion_from_All (λ lit. variable_of lit < variables) clause is.1) (are_hints hints groups is.2 is.3) is.3.1
  step_read numbered is_last last (Deletes numbers) before is =
      deleted_read variables small numbered is_last last before numbers (recursion_from_All IsNumber numbers is)

  no_comment : (n : ℕ) → n < 2 ^ 32 → is_comment (number_text n) ≡ false
  no_comment n small = rw (other 99 refl, other 112 refl) refl
    where
      other : (k : ℕ) → is_digit k ≡ false → begins k (number_text n) ≡ false
      other k apart = ap (begins k) (sym (append-nil (number_text n))) ∙ begins-number k n small apart []

  begins-step : (k last : ℕ) (step : Step) (steps : List Step) → IsNumber last → IsWrittenStep variables step → is_digit k ≡ false → begins k (proof_text last (step ∷ steps)) ≡ false
  unfolding proof_text
  begins-step k last (Adds number clause hints groups) steps before is apart =
      let regroup : added_line number clause hints groups ++ proof_text number steps ≡ number_text number ++ (flat_map literal_text clause ++ (codes "0 " ++ (flat_map number_text hints ++ (flat_map signed_text groups ++ (codes "0\n" ++ proof_text number steps))))) = simp append_assoc in
      ap (begins k) regroup ∙ begins-number k number is.0.1 apart _
  begins-step k last (Deletes numbers) steps before is apart =
      let regroup : deleted_line last numbers ++ proof_text last steps ≡ number_text last ++ (codes "d " ++ (flat_map number_text numbers ++ (codes "0\n" ++ proof_text last steps))) = simp append_assoc in
      ap (begins k) regroup ∙ begins-number k last before.1 apart _

-- ---- texts

-- what is read after a step
script_of-written : (variables : ℕ) → variables ≤ 2 ^ 31 → (last : ℕ) (steps : List Step)
    → IsNumber last → AreWithin IsWrittenStep variables steps
    → script_of variables (lines_of (proof_text last steps)) ≡ record { steps = steps; fault = errors.Unfinished }
unfolding script_of proof_text
script_of-written variables most last [] before are = ap (script_of variables) end_first
script_of-written variables most last (step ∷ steps) before are =
    let small = few variables most in
    let number = step_number last step in
    let is = number_is variables small last step before are.0 in
    let later = lines_of (proof_text number steps) in
    rw (step_lines variables small last step steps before are.0, no_comment variables small number is.1, step_read variables small true (is_none later) last step before are.0, script_of-written (widened variables) (widened_most variables) number steps is are.1) refl

script_if-written : (variables : ℕ) → variables ≤ 2 ^ 31 → (last : ℕ) (step : Step) (steps : List Step)
    → IsNumber last → AreWithin IsWrittenStep variables (step ∷ steps)
    → script_if variables (lines_of (proof_text last (step ∷ steps))) ≡ Some (record { steps = step ∷ steps; fault = errors.Unfinished })
unfolding script_if
script_if-written variables most last step steps before are =
    let small = few variables most in
    let number = step_number last step in
    let is = number_is variables small last step before are.0 in
    let later = lines_of (proof_text number steps) in
    rw (step_lines variables small last step steps before are.0, no_comment variables small number is.1, step_read variables small false (is_none later) last step before are.0, script_of-written (widened variables) (widened_most variables) number steps is are.1) refl

pub steps_in-written : (variables last : ℕ) (step : Step) (steps : List Step) → IsNumber last
    → AreWithin IsWrittenStep (allowed variables) (step ∷ steps)
    → steps_in variables (proof_text last (step ∷ steps)) ≡ Some (record { steps = step ∷ steps; fault = errors.Unfinished })
steps_in-written variables last step steps before are =
    let most = allowed_most variables in
    let small = few (allowed variables) most in
    let no_word = unworded (proof_text last (step ∷ steps))
    (begins-step (allowed variables) small 108 last step steps before are.0 refl) in
    rw (no_word, begins-step (allowed variables) small 97 last step steps before are.0 refl, begins-step (allowed variables) small 100 last step steps before are.0 refl)
    (script_if-written (allowed variables) most last step steps before are)

-- ---- what it shows

shown_by-written : (variables last : ℕ) (clauses : List (List Lit)) (steps : List Step) → IsNumber last
    → AreWithin IsWrittenStep (allowed variables) steps
    → outcome (all_live clauses) steps errors.Unfinished ≡ Ok tt → shown_by variables clauses (proof_text last steps) ≡ Some (Ok tt)
unfolding outcome
shown_by-written variables last clauses [] before are is = absurd cc
shown_by-written variables last clauses (step ∷ steps) before are is =
    ap (option_map (λ script. outcome (all_live clauses) script.steps script.fault)) (steps_in-written variables last step steps before are) ∙ ap (λ r. Some r) is

pub written_taken : (variables last : ℕ) (clauses : List (List Lit)) (steps : List Step) (e : RefutationError) → IsNumber last
    → AreWithin IsWrittenStep (allowed variables) steps
    → are_all_in variables clauses ≡ true → outcome (all_live clauses) steps errors.Unfinished ≡ Ok tt
    → Shows variables clauses (Some (proof_text last steps)) (Err e) → (e ≡ errors.Memory) ⊎ (e ≡ errors.Stream)
written_taken variables last clauses steps e before are fits is shows =
    not_refused variables clauses (proof_text last steps) fits (shown_by-written variables last clauses steps before are is) e shows
