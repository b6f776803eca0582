-- Wrong answers, of which the definitions are false: of another step, of a window for which there is
-- no room, and of a file that asks nothing.
use Rattle.aig_answers.proofs.Words.{◌≡◌, ℕ, zero, suc, ◌+◌, ◌*◌, Bool, true, false, ◌||◌, None, Some, List, [], ◌∷◌, refl, sym, arith, ◌==◌, false≢true, FALSE, TRUE, NONE, Place, False, Leaf, AigLatch, only_false, edge_to, no_properties, IsRun, IsInitial, Text, File, Accepts, circuit_of, Accepted, IsSaidOf, IsVerdictOn, NoBads, Short, IsCircuitSafeAt, Plain, Distinct, asked_verdict, window_size, IsSaid, Ok, Err, Window}
use Rattle.aig_base.proofs.Words.{◌&&◌}
use Rattle.aig_circuit.proofs.Words.{Circuit}
use Rattle.aig_circuit.specs.Tree.{node_value, tree_of}
use Rattle.aig_format.specs.Numbering.{node_of_variable, variables_in_order}
use Rattle.aig_answers.specs.Plans.{asked_with, room_of}
use Rattle.aig_answers.specs.declared.plans.asking.Ask.TheVariants as asks
use Rattle.aig_answers.specs.declared.plans.asking.Question.{Question}
use Rattle.aig_answers.specs.declared.plans.errors.PlanError.TheVariants as plans

-- ---- another step

-- latch 1 toggles from false, and is bad where it is true
abbrev toggle : Circuit
toggle = record only_false {
  nodes = record { node_id = 0; typ = False } ∷ record { node_id = 1; typ = Leaf } ∷ [];
  latchs = record { input = 1; next = edge_to 1 true; init = Some (edge_to 0 false) } ∷ [];
  properties = record no_properties { bads = edge_to 1 false ∷ [] };
}

toggle-safe_at_0 : IsCircuitSafeAt toggle 0
unfolding tree_of node_value
toggle-safe_at_0 s =
    let latch : AigLatch = record { input = 0; next = edge_to 0 false; init = None } in
    let start : false ≡ s.0 0 1 = s.1.start 0 latch (omega arith) in
    let bad : s.0 0 1 || false ≡ true = s.1.bad in
    let none : false ≡ true = rw (sym start) at bad in
    false≢true none

abbrev toggles : ℕ → ℕ → Bool
toggles t n = (n == 1) && (t == 1)

toggles-run : IsRun toggle 1 toggles
unfolding tree_of node_value
toggles-run zero low zero d here = refl
toggles-run zero low (suc i) d here = absurd (omega arith)
toggles-run (suc t) low i d here = absurd (omega arith)

toggles-initial : IsInitial toggle (toggles 0)
unfolding tree_of node_value
toggles-initial zero d here = refl
toggles-initial (suc i) d here = absurd (omega arith)

-- so a proof for step 0 is none for step 1
no_proof_of_another_step : ¬ IsCircuitSafeAt toggle 1
unfolding tree_of node_value
no_proof_of_another_step safe =
    safe (
      toggles,
      record {
        is_run = toggles-run;
        start = toggles-initial;
        constraints = λ t low i d here. absurd (omega arith);
        bad = refl;
      },
    )

-- ---- what is asked, and room

-- two latches that keep what they have, of which these literals are bad
abbrev two_latches : List ℕ → File
two_latches bads = record {
  kind = Text;
  greatest = 2;
  inputs = [];
  latches =
      record { literal = 2; next = 2; reset = None }
      ∷ record { literal = 4; next = 4; reset = None } ∷ [];
  properties = record no_properties { bads = bads };
  gates = [];
  names = [];
}

-- a window with k = 1 has three states, and so three pairs of them, of two latches
two_latches-size : (bads : List ℕ)
    → window_size Distinct (circuit_of (two_latches bads)) 1 ≡ 3 + 3 * 2
unfolding node_of_variable variables_in_order
two_latches-size bads = refl

-- a plan that asks for such a window
abbrev window_asked : Window → List Question
window_asked form = asked_with true (asks.Window 1 form) ∷ []

-- for which there is no room where the limit leaves room for one pair
no_room_for_states : room_of 5 (window_asked Distinct) (circuit_of (two_latches (2 ∷ [])))
    ≡ Err (plans.Crowded 0)
unfolding node_of_variable variables_in_order
no_room_for_states = refl

-- the plain form has room
room_for_the_plain_form : room_of 5 (window_asked Plain) (circuit_of (two_latches (2 ∷ [])))
    ≡ Ok tt
unfolding node_of_variable variables_in_order
room_for_the_plain_form = refl

-- a file without bad literals asks nothing
two_latches-no_bads : asked_verdict 5 2 (two_latches []) ≡ NoBads
unfolding node_of_variable variables_in_order
two_latches-no_bads = refl

-- and isn't answered as safe
no_bads_are_not_safe : (bytes : List ℕ) → Accepts bytes 5 (two_latches [])
    → ¬ IsVerdictOn (asked_verdict 5 2) 5 bytes Accepted
no_bads_are_not_safe bytes accepts on =
    let said = on.each (two_latches []) accepts in
    let none = two_latches-no_bads in
    cc

-- nor told as want of memory
no_bads_are_not_short : ¬ IsSaidOf (asked_verdict 5 2) (two_latches []) Short
no_bads_are_not_short said = let none = two_latches-no_bads in cc

-- ---- another witness

-- a value is true that no input of the question stands for
no_value_of_its_own : (y : ℕ → Bool) (step leaf : ℕ) → ¬ IsSaid [] [] y step leaf TRUE
no_value_of_its_own y step leaf said = let found = said.1.0 refl in let none = found.1 in cc

-- a value is false that the answer makes true
no_turned_value : (y : ℕ → Bool) (n step leaf : ℕ) → y n ≡ true
    → ¬ IsSaid (n ∷ []) (record { step = step; leaf = leaf } ∷ []) y step leaf FALSE
no_turned_value y n step leaf holds said = let turned = said.1.1 (0, refl, holds) in cc

-- a value is open
no_open_value : (inputs : List ℕ) (places : List Place) (y : ℕ → Bool) (step leaf : ℕ)
    → ¬ IsSaid inputs places y step leaf NONE
no_open_value inputs places y step leaf said = said.0 refl
