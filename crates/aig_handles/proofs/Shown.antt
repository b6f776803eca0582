-- What proofs that are taken show together: a caller whose proofs of the first steps and of a window
-- are all taken knows that the circuit is safe at every step.
use Rattle.aig_base.proofs.Words.{◌≡◌, ℕ, ◌<◌, ◌≤◌, ◌⊎◌, List, Result, Ok, Err, arith, inl, inr, refl}
use Rattle.std.specs.Prelude.{OnOk}
use Rattle.aig_base.specs.declared.logic.literal.Lit.{Lit}
use Rattle.aig_giving.specs.Statuses.{refutation_status, status_by}
use Rattle.aig_giving.specs.declared.status.TheConstants.{DONE}
use Rattle.aig_refutation.specs.declared.error.RefutationError.{RefutationError}
use Rattle.aig_refutation.specs.declared.error.RefutationError.TheVariants as errors
use Rattle.aig_runs.specs.Safety.{IsCircuitSafeAt}
use Rattle.aig_steps.proofs.Induction.{inductive_are_safe}
use Rattle.aig_steps.specs.Unrolling.{SteppedCircuit}
use Rattle.aig_handles.specs.Handles.{Unmet}
use Rattle.aig_handles.specs.Unrolling.{ChecksStepOr, ChecksWindowOr, JudgesProof}
use Rattle.aig_handles.specs.declared.status.TheConstants.{RANGE}

-- no refusal is told as done
no_refusal : (e : RefutationError) → ¬ (DONE ≡ refutation_status e)
no_refusal errors.Memory is = let status : 0 ≡ 2 = is in omega (arith, status)
no_refusal errors.Stream is = let status : 0 ≡ 2 = is in omega (arith, status)
no_refusal errors.Variable is = let status : 0 ≡ 40 = is in omega (arith, status)
no_refusal errors.Line is = let status : 0 ≡ 41 = is in omega (arith, status)
no_refusal errors.Literal is = let status : 0 ≡ 42 = is in omega (arith, status)
no_refusal errors.Unnamed is = let status : 0 ≡ 43 = is in omega (arith, status)
no_refusal errors.Twice is = let status : 0 ≡ 44 = is in omega (arith, status)
no_refusal errors.Large is = let status : 0 ≡ 45 = is in omega (arith, status)
no_refusal errors.Step is = let status : 0 ≡ 46 = is in omega (arith, status)
no_refusal errors.Asymmetry is = let status : 0 ≡ 47 = is in omega (arith, status)
no_refusal errors.Binary is = let status : 0 ≡ 48 = is in omega (arith, status)
no_refusal errors.Unfinished is = let status : 0 ≡ 49 = is in omega (arith, status)

-- what a check says where it is done
done_says : (Holds There : Type 0) (variables : ℕ) (clauses : List (List Lit)) (proof : List ℕ)
    → (There × JudgesProof variables clauses Holds proof DONE) ⊎ Unmet RANGE DONE There → Holds
done_says Holds There variables clauses proof (inl judged) =
    by judged.1.result judged.1.holds judged.1.told
  where
    by : (result : Result (Unit {0}) RefutationError) → OnOk result Holds
        → DONE ≡ status_by refutation_status result → Holds
    by (Ok done) holds told = holds
    by (Err e) holds told = absurd (no_refusal e told)
done_says Holds There variables clauses proof (inr unmet) =
    let status : 0 ≡ 111 = unmet.0 in
    absurd (omega (arith, status))

pub proofs_show_safety : (s : SteppedCircuit) (k n : ℕ) (proofs : ℕ → List ℕ) (window : List ℕ)
    → ((t : ℕ) → t ≤ k → ChecksStepOr t (proofs t) DONE s) → ChecksWindowOr k window DONE s
    → IsCircuitSafeAt s.circuit n
proofs_show_safety s k n proofs window steps last =
    inductive_are_safe s.circuit k n
    (λ t low. done_says (IsCircuitSafeAt s.circuit t) (t ≤ s.steps) _ _ (proofs t) (steps t low))
    (done_says _ (k < s.steps) _ _ window last)
