-- How many variables steps may name, one after another.
use Rattle.aig_base.proofs.Words.{ℕ, ◌+◌, ◌^◌, ◌<◌, ◌≤◌, min, List, [], ◌∷◌, arith, AllByRecursion}
use Rattle.aig_base.specs.declared.logic.literal.Lit.{Lit}
use Rattle.aig_refutation.specs.Proofs.{allowed, widened}
use Rattle.aig_refutation.specs.Steps.{PlainStep, Drops, Learns}
use Rattle.aig_refutation.specs.Written.{AreWithin, IsClause, IsPlainStep}

at_most : (m n : ℕ) → min m n ≤ n
at_most m n = omega arith

pub allowed_most : (variables : ℕ) → allowed variables ≤ 2 ^ 31
allowed_most variables = at_most (variables + 65536) (2 ^ 31)

pub widened_most : (variables : ℕ) → widened variables ≤ 2 ^ 31
widened_most variables = at_most (variables + 1) (2 ^ 31)

pub few : (n : ℕ) → n ≤ 2 ^ 31 → n < 2 ^ 32
few n most = omega arith

-- literals have 32 bits
clause_most : (n : ℕ) → n ≤ 2 ^ 31 → (clause : List Lit) → IsClause n clause
    → IsClause (2 ^ 31) clause
clause_most n most clause is k d there = omega (arith, is k d there, most)

step_most : (n : ℕ) → n ≤ 2 ^ 31 → (step : PlainStep) → IsPlainStep n step
    → IsPlainStep (2 ^ 31) step
step_most n most (Learns clause) is = clause_most n most clause is
step_most n most (Drops clause) is = clause_most n most clause is

pub all_most : (n : ℕ) → n ≤ 2 ^ 31 → (steps : List PlainStep) → AreWithin IsPlainStep n steps
    → AllByRecursion (IsPlainStep (2 ^ 31)) steps
all_most n most [] are = tt
all_most n most (step ∷ steps) are =
    (step_most n most step are.0, all_most (widened n) (widened_most n) steps are.1)
