-- Part of what is promised.
-- Fair runs and fair lassos of a file's machine. (AIGER 1.9, "Properties": a justice property is met
-- by a run without end on which each of its literals, and each fairness literal, is true again and
-- again. What a witness of it shows is a lasso: a run of finitely many steps that comes back to a
-- state.)
use Rattle.std.specs.Prelude.{◌≡◌, ℕ, ◌≤◌, Bool, IsTrue, Option, Some, List, [], ◌++◌, length, slice_get}
use Rattle.std.specs.List.{AllByRecursion}
use Rattle.aig_circuit.specs.Properties.{Properties}
use Rattle.aig_format.specs.File.{File}
use Rattle.aig_edit_laws.specs.Shown.{IsAllowedMachineRun}
use Rattle.aig_edit_laws.specs.declared.fairness.Fairness.{Fairness}
use Rattle.aig_edit_laws.specs.declared.fairness.Fairness.TheVariants.{Alone, Justice}
use Rattle.aig_format.specs.Machine.{Moves, value_of_literal}
use Rattle.aig_live.specs.Met.{IsMet}

-- A fair lasso of k + 1 steps, whose loop starts at step l: the state after step k is that of step
-- l, and each of the literals is true at one of the steps l to k.
pub record IsFairLasso (f : File) (literals : List ℕ) (l k : ℕ) (run : ℕ → ℕ → Bool)
    : Type 0 where
  pub allowed : IsAllowedMachineRun f k run
  pub order : l ≤ k
  pub loops : Moves f (run k) (run l)
  pub fair : AllByRecursion (λ e. IsMet (λ t. value_of_literal (run t) e) l k) literals

-- the literal is true again and again
abbrev pub IsMetAgain : (ℕ → ℕ → Bool) → ℕ → Type 0
IsMetAgain run e = (t : ℕ) → (u : ℕ) × (t ≤ u) × IsTrue (value_of_literal (run u) e)

-- A fair run: one without end, from an initial state, with every constraint at each step, on which
-- each of the literals is true again and again.
pub record IsFairRun (f : File) (literals : List ℕ) (run : ℕ → ℕ → Bool) : Type 0 where
  pub allowed : (k : ℕ) → IsAllowedMachineRun f k run
  pub fair : AllByRecursion (IsMetAgain run) literals

-- the own literals, or edges, of what is asked for: those of a justice property, if there is one;
-- fairness alone has none
abbrev pub own_of : {E : Type 0} → Properties E → Fairness → Option (List E)
own_of properties (Justice j) = slice_get properties.justice j
own_of properties Alone = Some []

-- there is no such justice property
abbrev pub LacksJustice : {E : Type 0} → Properties E → Fairness → Type 0
LacksJustice properties (Justice j) = length properties.justice ≤ j
LacksJustice properties Alone = ⊥

-- what is asked for again and again: the own literals, or edges, and those of fairness
abbrev pub AreAsked : {E : Type 0} → Properties E → Fairness → List E → Type 0
AreAsked {E} properties fairness asked =
    (own : List E) × (own_of properties fairness ≡ Some own)
    × (asked ≡ own ++ properties.fairness)

-- the same of a file's literals
abbrev pub AreAskedBy : File → Fairness → List ℕ → Type 0
AreAskedBy f = AreAsked f.properties

-- there is a fair lasso of k + 1 steps
abbrev pub HasFairLasso : File → Fairness → ℕ → Type 0
HasFairLasso f fairness k =
    (literals : List ℕ) × AreAskedBy f fairness literals
    × ((l : ℕ) × (run : ℕ → ℕ → Bool) × IsFairLasso f literals l k run)

-- there is a fair run
abbrev pub HasFairRun : File → Fairness → Type 0
HasFairRun f fairness =
    (literals : List ℕ) × AreAskedBy f fairness literals
    × ((run : ℕ → ℕ → Bool) × IsFairRun f literals run)
