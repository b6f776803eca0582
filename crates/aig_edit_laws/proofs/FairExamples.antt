-- Fair lassos and rounds of small machines, computed; and wrong ones, of which the definitions are
-- false.
use Rattle.aig_base.proofs.Words.{◌≡◌, ◌↔◌, ℕ, zero, suc, ◌+◌, ◌≤◌, Bool, true, false, not, None, List, [], ◌∷◌, ◌++◌, length, refl, sym, ap, ◌∙◌, arith, ◌==◌, if◌then◌else◌, false≢true, length-append, same_Some}
use Rattle.aig_circuit.proofs.Words.{no_properties}
use Rattle.aig_edit_laws.specs.Shown.{IsAllowedMachineRun}
use Rattle.aig_format.specs.declared.FileKind.TheVariants.{Text}
use Rattle.aig_format.specs.File.{File}
use Rattle.aig_edit_laws.specs.Fair.{AreAskedBy, HasFairLasso, HasFairRun, IsFairLasso}
use Rattle.aig_edit_laws.specs.declared.fairness.Fairness.{Fairness}
use Rattle.aig_edit_laws.specs.declared.fairness.Fairness.TheVariants.{Alone, Justice}
use Rattle.aig_edit_laws.proofs.Justice.{runs_are_lassos}
use Rattle.aig_edit_laws.specs.Rounds.{HasMachineRounds, IsMachineRounds}

-- ---- a latch that toggles

-- The file of a latch that toggles from false. Justice property 0 asks for it, and fairness for its
-- inverse.
abbrev toggle : File
toggle = record {
  kind = Text;
  greatest = 1;
  inputs = [];
  latches = record { literal = 2; next = 3; reset = None } ∷ [];
  properties = record no_properties { justice = (2 ∷ []) ∷ []; fairness = 3 ∷ [] };
  gates = [];
  names = [];
}

-- the latch is true at odd steps
abbrev is_odd : ℕ → Bool
is_odd zero = false
is_odd (suc t) = not (is_odd t)

abbrev toggles : ℕ → ℕ → Bool
toggles t v = if v == 1 then is_odd t else false

runs : (k : ℕ) → IsAllowedMachineRun toggle k toggles
runs k = record {
  is_run = record {
    steps = λ t h. record { zero = refl; gates = tt };
    moves = λ t h. let next : t + 1 ≡ suc t = omega arith in (ap is_odd next, tt);
  };
  start = (refl, tt);
  allowed = λ t h. tt;
}

asked : AreAskedBy toggle (Justice 0) (2 ∷ 3 ∷ [])
asked = (2 ∷ [], refl, refl)

-- steps 0 and 1 are a fair lasso
of_two_steps : HasFairLasso toggle (Justice 0) 1
of_two_steps = (
  2 ∷ 3 ∷ [],
  asked,
  (
    0,
    toggles,
    record {
      allowed = runs 1;
      order = omega arith;
      loops = (refl, tt);
      fair = ((1, omega arith, omega arith, refl), ((0, omega arith, omega arith, refl), tt));
    },
  ),
)

-- fairness isn't left out
no_fairness_left_out : ¬ AreAskedBy toggle (Justice 0) (2 ∷ [])
no_fairness_left_out (own, at, is) =
    let same : 2 ∷ [] ≡ own = same_Some (2 ∷ []) own at in
    let long : 1 ≡ length own + 1 = ap length is ∙ length-append own (3 ∷ []) in
    let one : 1 ≡ length own = ap length same in
    omega (arith, long, one)

-- there is no property 1
no_property_1 : (literals : List ℕ) → ¬ AreAskedBy toggle (Justice 1) literals
no_property_1 literals (own, at, is) = cc

not_itself : (b : Bool) → b ≡ not b → ⊥
not_itself true e = false≢true (sym e)
not_itself false e = false≢true e

-- no step comes to its own state: a loop has the state that comes after its last step
no_loop_of_one_step : (literals : List ℕ) (k : ℕ) (run : ℕ → ℕ → Bool)
    → ¬ IsFairLasso toggle literals k k run
no_loop_of_one_step literals k run lasso = not_itself (run k 1) lasso.loops.0

-- and no loop begins after its last step
no_loop_to_come : (literals : List ℕ) (run : ℕ → ℕ → Bool) → ¬ IsFairLasso toggle literals 2 1 run
no_loop_to_come literals run lasso = omega (arith, lasso.order)

no_lasso_of_one_step : ¬ HasFairLasso toggle (Justice 0) 0
no_lasso_of_one_step (literals, asks, (l, run, lasso)) = by l lasso
  where
    by : (l : ℕ) → IsFairLasso toggle literals l 0 run → ⊥
    by zero h = no_loop_of_one_step literals 0 run h
    by (suc m) h = omega (arith, h.order)

-- ---- no justice property

-- the literals are those of fairness, whatever the justice properties are
alone_is : (f : File) (literals : List ℕ)
    → AreAskedBy f Alone literals ↔ (literals ≡ f.properties.fairness)
alone_is f literals = (
  λ asked. asked.2
      ∙ ap (λ own. own ++ f.properties.fairness) (sym (same_Some [] asked.0 asked.1)),
  λ is. ([], refl, is),
)

-- without those, each run without end that meets the constraints is fair
endless_is : (f : File) → f.properties.fairness ≡ []
    → HasFairRun f Alone ↔ ((run : ℕ → ℕ → Bool) × ((k : ℕ) → IsAllowedMachineRun f k run))
endless_is f none = (
  λ has. (has.2.0, has.2.1.allowed),
  λ has. ([], ([], refl, sym none), (has.0, record { allowed = has.1; fair = tt })),
)

-- a latch that toggles has one
endless : HasFairRun toggle Alone
endless = (runs_are_lassos toggle Alone).1 (
  1,
  (
    3 ∷ [],
    ([], refl, refl),
    (
      0,
      toggles,
      record {
        allowed = runs 1;
        order = omega arith;
        loops = (refl, tt);
        fair = ((0, omega arith, omega arith, refl), tt);
      },
    ),
  ),
)

-- ---- rounds

-- one round ends by step 1, and no second one
one_round : HasMachineRounds toggle (Justice 0) 1 1
one_round =
    let one : 1 ≤ 1 = omega arith in
    (2 ∷ 3 ∷ [], asked, (toggles, record { allowed = runs 1; ended = one }))

no_second_round : ¬ IsMachineRounds toggle (2 ∷ 3 ∷ []) 2 1 toggles
no_second_round ended = let two : 2 ≤ 1 = ended.ended in omega (arith, two)

-- none ends at step 0
no_round_at_step_0 : ¬ IsMachineRounds toggle (2 ∷ 3 ∷ []) 1 0 toggles
no_round_at_step_0 ended = let one : 1 ≤ 0 = ended.ended in omega (arith, one)

-- ---- a latch that is false at step 0 alone

abbrev rises : File
rises = record toggle {
  latches = record { literal = 2; next = 1; reset = None } ∷ [];
  properties = record no_properties { justice = (3 ∷ []) ∷ [] };
}

-- what is true before the loop alone isn't seen in it
no_fairness_before_the_loop : (run : ℕ → ℕ → Bool) → ¬ IsFairLasso rises (3 ∷ []) 1 1 run
no_fairness_before_the_loop run lasso = by lasso.fair.0
  where
    zero_is : run 0 0 ≡ false
    zero_is = (lasso.allowed.is_run.steps 0 (omega arith)).zero

    risen : run 1 1 ≡ true
    risen = (lasso.allowed.is_run.moves 0 (omega arith)).0 ∙ ap not zero_is

    by : (t : ℕ) × (1 ≤ t) × (t ≤ 1) × (not (run t 1) ≡ true) → ⊥
    by (t, low, high, is) =
        let here : t ≡ 1 = omega (arith, low, high) in
        false≢true (sym (ap not risen) ∙ ap (λ s. not (run s 1)) (sym here) ∙ is)

-- ---- a constraint that fails at step 0

abbrev constrained : File
constrained = record toggle {
  properties = record no_properties { constraints = 2 ∷ []; justice = (2 ∷ []) ∷ [] };
}

-- it isn't dropped: there is no run
no_lasso_without_it : (fairness : Fairness) (k : ℕ) → ¬ HasFairLasso constrained fairness k
no_lasso_without_it fairness k (literals, asks, (l, run, lasso)) =
    false≢true (sym lasso.allowed.start.0 ∙ (lasso.allowed.allowed 0 (omega arith)).0)

no_round_without_it : (fairness : Fairness) (k : ℕ) → ¬ HasMachineRounds constrained fairness 0 k
no_round_without_it fairness k (literals, asks, (run, ended)) =
    false≢true (sym ended.allowed.start.0 ∙ (ended.allowed.allowed 0 (omega arith)).0)

-- and no run without end, with fairness or without
no_endless_without_it : (fairness : Fairness) → ¬ HasFairRun constrained fairness
no_endless_without_it fairness has =
    let lasso = (runs_are_lassos constrained fairness).0 has in
    no_lasso_without_it fairness lasso.0 lasso.1
