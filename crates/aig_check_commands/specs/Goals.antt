-- Part of what is promised.
-- The lines that are printed where proofs show a goal of fair lassos.
use Rattle.std.specs.Prelude.{ℕ, ◌+◌, List, ◌∷◌, [], ◌++◌, codes, decimal}
use Rattle.aig_answers.specs.Goals.{last_step}
use Rattle.aig_answers.specs.declared.goals.goal.Goal.{Goal}
use Rattle.aig_answers.specs.declared.goals.goal.Goal.TheVariants as goals
use Rattle.aig_edit_laws.specs.declared.fairness.Fairness.{Fairness}
use Rattle.aig_edit_laws.specs.declared.fairness.Fairness.TheVariants.{Alone, Justice}

-- what stands before a number of steps in a line about fair lassos
abbrev pub lasso_text : Goal → ℕ → List ℕ
lasso_text (goals.Refuted k) property =
    codes "no fair lasso of j" ++ (decimal property ++ 32 ∷ []) ++ codes "of "
lasso_text (goals.RefutedTo k) property =
    codes "no fair lasso of j" ++ (decimal property ++ 32 ∷ []) ++ codes "of at most "
lasso_text (goals.Inductive k form) property =
    codes "no fair run of j" ++ (decimal property ++ 44 ∷ [])
    ++ codes " if no fair lasso of at most "
lasso_text goal property = []

-- the line about fair lassos
abbrev pub lassos_line : Goal → ℕ → List ℕ
lassos_line goal property =
    lasso_text goal property ++ (decimal (last_step goal + 1) ++ 32 ∷ []) ++ (codes "steps" ++ 10 ∷ [])

-- the line about fair runs
abbrev pub no_run_line : ℕ → List ℕ
no_run_line property = codes "no fair run of j" ++ (decimal property ++ 10 ∷ [])

-- the line about a justice property
abbrev pub justice_line : Goal → ℕ → List ℕ
justice_line (goals.Safe k form) property = no_run_line property
justice_line (goals.SafeBySteps k form) property = no_run_line property
justice_line goal property = lassos_line goal property

-- The line about runs without end that meet the constraints and fairness. There is one exactly
-- where a lasso is, which goes on as such a run.
abbrev pub endless_line : Goal → List ℕ
endless_line (goals.Refuted k) =
    codes "no lasso of " ++ (decimal (k + 1) ++ 32 ∷ [])
    ++ (codes "steps meets the constraints and fairness" ++ 10 ∷ [])
endless_line (goals.RefutedTo k) =
    codes "no lasso of at most " ++ (decimal (k + 1) ++ 32 ∷ [])
    ++ (codes "steps meets the constraints and fairness" ++ 10 ∷ [])
endless_line (goals.Inductive k form) =
    codes "no run without end meets the constraints and fairness, if no lasso of at most "
    ++ (decimal (k + 1) ++ 32 ∷ [])
    ++ (codes "steps does" ++ 10 ∷ [])
endless_line goal = codes "no run without end meets the constraints and fairness" ++ 10 ∷ []

-- the line about fair runs
abbrev pub fair_line : Fairness → Goal → List ℕ
fair_line (Justice property) goal = justice_line goal property
fair_line Alone goal = endless_line goal
