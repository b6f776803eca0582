-- What is saved, seen and counted on small runs, computed; and wrong results, of which the
-- definitions are false.
use Rattle.std.proofs.Common.{◌≡◌, ℕ, zero, suc, Bool, true, false, eqb, refl, arith}
use Rattle.std.proofs.lemmas.Bool.{eqb-true, false≢true}
use Rattle.aig_live.specs.Met.{IsMet}
use Rattle.aig_live.specs.EndedRounds.{AreMetAgain, ends, rounds}
use Rattle.aig_live.specs.Saving.{IsSince, is_active, is_saved, seen, start_value}
use Rattle.aig_live.specs.Turning.{turn}

-- true at one step alone
abbrev at_step : ℕ → ℕ → Bool
at_step n t = eqb t n

-- ---- a save at step 2

active_with_the_save : is_active (at_step 2) 2 ≡ true
active_with_the_save = refl

not_active_before : is_active (at_step 2) 1 ≡ false
not_active_before = refl

saved_after_it : is_saved (at_step 2) 3 ≡ true
saved_after_it = refl

-- what the value was then is kept
kept : start_value (at_step 2) (at_step 2) 4 ≡ true
kept = refl

no_later_value : start_value (at_step 2) (at_step 3) 4 ≡ false
no_later_value = refl

-- a second save changes nothing
abbrev twice : ℕ → Bool
twice zero = false
twice (suc zero) = true
twice (suc (suc t)) = at_step 1 t

first_is_kept : start_value twice (at_step 1) 4 ≡ true
first_is_kept = refl

-- what was true at the save is seen, and what was true before it alone isn't
seen_with_the_save : seen (at_step 2) (at_step 2) 4 ≡ true
seen_with_the_save = refl

not_seen_before : seen (at_step 2) (at_step 1) 4 ≡ false
not_seen_before = refl

-- no other step is that of the save, and it isn't a later one
no_other_step : ¬ IsSince (at_step 2) 1 4
no_other_step since = false≢true since.saved

no_save_to_come : ¬ IsSince (at_step 2) 2 1
no_save_to_come since = omega (arith, since.order)

-- nothing is met before the first of the steps, nor after the last
not_met_before : ¬ IsMet (at_step 1) 2 4
not_met_before (t, low, high, is) = let at = eqb-true t 1 is in omega (arith, low, at)

not_met_after : ¬ IsMet (at_step 5) 2 4
not_met_after (t, low, high, is) = let at = eqb-true t 5 is in omega (arith, high, at)

-- ---- turns

-- a loop of one step is taken again and again
one_step : turn 2 2 7 ≡ 2
one_step = refl

-- and of three
three_steps : turn 1 3 4 ≡ 1
three_steps = refl

their_last : turn 1 3 6 ≡ 3
their_last = refl

-- ---- rounds

-- the first value is true at even steps, and the second one at odd ones
abbrev even : ℕ → Bool
even zero = true
even (suc zero) = false
even (suc (suc t)) = even t

abbrev in_turn : ℕ → ℕ → Bool
in_turn zero t = even t
in_turn (suc e) t = even (suc t)

-- so a round ends with each odd step
no_round_at_step_0 : ends 2 in_turn 0 ≡ false
no_round_at_step_0 = refl

round_at_step_1 : ends 2 in_turn 1 ≡ true
round_at_step_1 = refl

-- what was true in a round counts in no later one
no_round_at_step_2 : ends 2 in_turn 2 ≡ false
no_round_at_step_2 = refl

two_rounds : rounds 2 in_turn 4 ≡ 2
two_rounds = refl

-- of no value a round ends at each step
three_rounds : rounds 0 in_turn 3 ≡ 3
three_rounds = refl

-- and of one that is true once, one round alone
one_round : rounds 1 (λ e t. at_step 1 t) 5 ≡ 1
one_round = refl

not_again : ¬ AreMetAgain 1 (λ e t. at_step 1 t)
not_again again =
    let later = again 0 2 (omega arith) in
    let at = eqb-true later.0 1 later.2 in
    omega (arith, later.1, at)
