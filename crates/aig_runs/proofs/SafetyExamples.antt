-- The window clauses of small windows, computed, with the numbers of literals worked by hand: twice the variable, and one more where it is inverted.
-- And a file that a certificate shows safe.
use Rattle.aig_base.proofs.Words.{◌≡◌, ℕ, zero, suc, ◌+◌, ◌<◌, ◌≤◌, Bool, true, false, eqb, not, ◌&&◌, None, List, [], ◌∷◌, map, refl, sym, ap, subst, ◌∙◌, arith, Contains, false≢true, All-contains, All-contains_itself, All-from_recursion, All-nil}
use Rattle.std.specs.List.{IsDistinct}
use Rattle.aig_base.specs.declared.logic.literal.Lit.{Lit}
use Rattle.aig_circuit.specs.declared.edge.AigEdge.{AigEdge}
use Rattle.aig_circuit.specs.declared.node.AigLatch.{AigLatch}
use Rattle.aig_circuit.proofs.Words.{Circuit, only_false, edge_to, no_properties}
use Rattle.aig_format.specs.declared.FileKind.TheVariants.{Text}
use Rattle.aig_format.proofs.Words.{File, LatchLine, Fits, IsStep, Moves}
use Rattle.aig_runs.specs.Queries.{IsSafeTo}
use Rattle.aig_runs.specs.declared.window.Window.TheVariants.{Plain, Distinct}
use Rattle.aig_runs.specs.Certificate.{Extends, IsCertificateOf}
use Rattle.aig_runs.specs.Induction.{HasDistinctStates, IsKInductive, IsWindow}
use Rattle.aig_runs.specs.Safety.{IsGood}
use Rattle.aig_runs.specs.WindowClauses.{count_free, distinct_clauses, induction_clauses, pair_clauses, state_at, watched, window_clauses}
use Rattle.aig_runs.proofs.Certificates.{certified_safe, listed_certificate}
use Rattle.aig_runs.proofs.Induction.{always_safe_by_windows}

-- the numbers of the literals, clause for clause
abbrev codes_of : List (List Lit) → List (List ℕ)
codes_of = map (map (λ (lit : Lit). lit.code))

-- a circuit with these bad edges and constraints, and one with these outputs
abbrev asking : List AigEdge → List AigEdge → Circuit
asking bads constraints = record only_false { properties = record no_properties { bads = bads; constraints = constraints } }

abbrev showing : List AigEdge → Circuit
showing outputs = record only_false { properties = record no_properties { outputs = outputs } }

-- a latch that keeps what it has
abbrev keeping : ℕ → AigLatch
keeping n = record { input = n; next = edge_to n false; init = None }

-- latch 1 toggles, and is bad where it is true: step 0 isn't bad, and step 1, at which the edge is inverted, is
toggle : codes_of (induction_clauses (asking (edge_to 1 false ∷ []) []) 0 (asking (edge_to 1 false ∷ edge_to 1 true ∷ []) [])) ≡ (3 ∷ []) ∷ (3 ∷ []) ∷ []
toggle = refl

-- two bad edges and a constraint: the constraint at each step, both bad edges of step 0 one by one, and one clause of those of step 1
two-bads : codes_of (induction_clauses (asking (edge_to 1 false ∷ edge_to 2 true ∷ []) (edge_to 3 false ∷ [])) 0 (asking (edge_to 1 false ∷ edge_to 2 true ∷ edge_to 4 false ∷ edge_to 5 true ∷ []) (edge_to 3 false ∷ edge_to 6 false ∷ [])))
    ≡ (6 ∷ []) ∷ (12 ∷ []) ∷ (3 ∷ []) ∷ (4 ∷ []) ∷ (8 ∷ 11 ∷ []) ∷ []
two-bads = refl

-- with one step more the bad edges of two steps are false
two-steps : codes_of (induction_clauses (asking (edge_to 1 false ∷ []) []) 1 (asking (edge_to 1 false ∷ edge_to 2 false ∷ edge_to 3 false ∷ []) [])) ≡ (3 ∷ []) ∷ (5 ∷ []) ∷ (6 ∷ []) ∷ []
two-steps = refl

-- nothing is bad: the last clause is empty
harmless : codes_of (induction_clauses (asking [] []) 3 (asking [] [])) ≡ [] ∷ []
harmless = refl

-- ---- distinct states

-- edges 1 and !2 differ where variable 9 is true, which it is
differ : codes_of (pair_clauses 9 (edge_to 1 false ∷ []) (edge_to 2 true ∷ [])) ≡ (19 ∷ 2 ∷ 5 ∷ []) ∷ (19 ∷ 3 ∷ 4 ∷ []) ∷ (18 ∷ []) ∷ []
differ = refl

-- of two latches, one or the other
differ-2 : codes_of (pair_clauses 9 (edge_to 1 false ∷ edge_to 2 false ∷ []) (edge_to 3 false ∷ edge_to 4 false ∷ []))
    ≡ (19 ∷ 2 ∷ 6 ∷ []) ∷ (19 ∷ 3 ∷ 7 ∷ []) ∷ (21 ∷ 4 ∷ 8 ∷ []) ∷ (21 ∷ 5 ∷ 9 ∷ []) ∷ (18 ∷ 20 ∷ []) ∷ []
differ-2 = refl

-- no latches: two states don't differ, and the clause is empty
differ-0 : codes_of (pair_clauses 9 [] []) ≡ [] ∷ []
differ-0 = refl

-- one for all pairs of a window of k = 3
without_latches : codes_of (window_clauses Distinct 4 only_false 3 (showing [])) ≡ [] ∷ [] ∷ []
without_latches = refl

-- the second of three states of two latches
second : state_at 2 (edge_to 1 false ∷ edge_to 2 false ∷ edge_to 3 false ∷ edge_to 4 false ∷ edge_to 5 false ∷ edge_to 6 false ∷ []) 1 ≡ edge_to 3 false ∷ edge_to 4 false ∷ []
second = refl

-- three states of one latch: three pairs, each with a variable of its own
three : codes_of (distinct_clauses 7 1 (edge_to 1 false ∷ edge_to 2 false ∷ edge_to 3 false ∷ []) 3)
    ≡ (15 ∷ 2 ∷ 4 ∷ []) ∷ (15 ∷ 3 ∷ 5 ∷ []) ∷ (14 ∷ []) ∷ (17 ∷ 2 ∷ 6 ∷ []) ∷ (17 ∷ 3 ∷ 7 ∷ []) ∷ (16 ∷ []) ∷ (19 ∷ 4 ∷ 6 ∷ []) ∷ (19 ∷ 5 ∷ 7 ∷ []) ∷ (18 ∷ []) ∷ []
three = refl

-- a window of k = 1 has three states of two latches, and so six free variables; the plain form has none
free : count_free Distinct (record only_false { latchs = keeping 1 ∷ keeping 2 ∷ [] }) 1 ≡ 6
free = refl

free-plain : count_free Plain (record only_false { latchs = keeping 1 ∷ keeping 2 ∷ [] }) 1 ≡ 0
free-plain = refl

-- the form that tells states apart shows the latches' leaves, whatever the outputs were
leaves : watched Distinct (record (showing (edge_to 5 false ∷ [])) { latchs = keeping 1 ∷ keeping 2 ∷ [] }) ≡ record (showing (edge_to 1 false ∷ edge_to 2 false ∷ [])) { latchs = keeping 1 ∷ keeping 2 ∷ [] }
leaves = refl

-- the clauses of states stand after those of induction
following : codes_of (window_clauses Distinct 4 (record only_false { latchs = keeping 1 ∷ [] }) 0 (showing (edge_to 1 false ∷ edge_to 2 false ∷ []))) ≡ [] ∷ (9 ∷ 2 ∷ 4 ∷ []) ∷ (9 ∷ 3 ∷ 5 ∷ []) ∷ (8 ∷ []) ∷ []
following = refl

-- ---- certificates

-- a latch that is 0 first
abbrev latch_from : ℕ → ℕ → LatchLine
latch_from literal next = record { literal = literal; next = next; reset = None }

-- Latch 1 takes what latch 2 has, which keeps it, and both are 0 first; 1 is bad. No window of two
-- steps shows it safe: one leads from the state 0 1 to a bad one.
abbrev shifting : File
shifting = record {
  kind = Text;
  greatest = 2;
  inputs = [];
  latches = latch_from 2 4 ∷ latch_from 4 4 ∷ [];
  properties = record no_properties { bads = 2 ∷ [] };
  gates = [];
  names = [];
}

from_zero_one : ℕ → ℕ → Bool
from_zero_one zero n = eqb n 2
from_zero_one (suc t) n = not (eqb n 0)

shifting-window : IsWindow Plain shifting 0 from_zero_one
unfolding from_zero_one
shifting-window = record {
  is_run = record { steps = steps; moves = moves };
  constraints = λ t low. tt;
  good = λ t low. good t low;
  states = tt;
}
  where
    steps : (t : ℕ) → t ≤ 0 + 1 → IsStep shifting (from_zero_one t)
    steps zero low = record { zero = refl; gates = tt }
    steps (suc t) low = record { zero = refl; gates = tt }

    moves : (t : ℕ) → t < 0 + 1 → Moves shifting (from_zero_one t) (from_zero_one (t + 1))
    moves zero low = (refl, (refl, tt))
    moves (suc t) low = absurd (omega arith)

    good : (t : ℕ) → t ≤ 0 → IsGood shifting (from_zero_one t)
    good zero low = (refl, tt)
    good (suc t) low = absurd (omega arith)

shifting-not_inductive : ¬ IsKInductive Plain shifting 0
unfolding from_zero_one
shifting-not_inductive step =
    let good = step from_zero_one shifting-window in
    false≢true (sym good.0)

-- a certificate: gate 3 says that both are 0, and its inverse is bad too
abbrev shown : File
shown = record shifting {
  greatest = 3;
  gates = record { lhs = 6; rhs0 = 5; rhs1 = 3 } ∷ [];
  properties = record no_properties { bads = 7 ∷ 2 ∷ [] };
}

shown-extends : Extends shown shifting
shown-extends = record {
  inputs = All-nil (Contains []);
  latches = All-contains_itself shifting.latches;
  gates = All-nil (Contains shown.gates);
}

shown-is_certificate : IsCertificateOf shown shifting
shown-is_certificate =
    let bad_too = All-from_recursion (Contains shown.properties.bads) shifting.properties.bads ((1, omega arith, refl), tt) in
    listed_certificate shown shifting shown-extends (All-nil (Contains [])) bad_too

-- it is safe at step 0, and its windows of two steps show that it is at each
shown-safe : IsSafeTo shown 0
shown-safe last t run is start within low constraints =
    let first : t ≡ 0 = omega arith in
    subst (λ n. IsGood shown (run n)) (sym first)
    (begins (run 0 1) (run 0 2) (run 0 3) start.0 start.1.0 (is.steps 0 (omega arith)).gates.0)
  where
    begins : (a b g : Bool) → a ≡ false → b ≡ false → g ≡ not b && not a
        → (not g ≡ false) × ((a ≡ false) × Unit {0})
    begins a b g first second is =
        (ap not (is ∙ ap (λ x. not x && not a) second ∙ ap not first), (first, tt))

shown-inductive : IsKInductive Plain shown 0
shown-inductive run w =
    let before = (w.is_run.steps 0 (omega arith)).gates in
    let after = (w.is_run.steps 1 (omega arith)).gates in
    let moved = w.is_run.moves 0 (omega arith) in
    let good = w.good 0 (omega arith) in
    stays (run 0 1) (run 0 2) (run 0 3) (run 1 1) (run 1 2) (run 1 3)
    before.0 good.0 moved.0 moved.1.0 after.0
  where
    -- where both are 0, both stay 0
    stays : (a b g a' b' g' : Bool) → g ≡ not b && not a → not g ≡ false → a' ≡ b → b' ≡ b
        → g' ≡ not b' && not a' → (not g' ≡ false) × ((a' ≡ false) × Unit {0})
    stays false false g a' b' g' before good first second after =
        (ap not (after ∙ ap (λ x. not x && not a') second ∙ ap not first), (first, tt))
    stays true false g a' b' g' before good first second after =
        absurd (false≢true (sym good ∙ ap not before))
    stays a true g a' b' g' before good first second after =
        absurd (false≢true (sym good ∙ ap not before))

-- so the file is safe at every step
shifting-fits : Fits shifting 4
unfolding IsDistinct
shifting-fits = record {
  within = omega arith;
  enough = refl;
  definable = (refl, (refl, tt));
  distinct = ((refl, tt), (tt, tt));
  in_range = (refl, (refl, (refl, tt)));
  resets = (refl, (refl, tt));
  order = refl;
  named = tt;
  once = tt;
}

shown-fits : Fits shown 4
unfolding IsDistinct
shown-fits = record {
  within = omega arith;
  enough = refl;
  definable = (refl, (refl, (refl, tt)));
  distinct = ((refl, (refl, tt)), ((refl, tt), (tt, tt)));
  in_range = (refl, (refl, (refl, (refl, (refl, (refl, tt))))));
  resets = (refl, (refl, tt));
  order = refl;
  named = tt;
  once = tt;
}

shifting-safe : (n : ℕ) → IsSafeTo shifting n
shifting-safe n =
    let always = always_safe_by_windows Plain shown 0 shown-safe shown-inductive n in
    certified_safe shown shifting 4 4 n shown-fits shifting-fits shown-is_certificate always

-- ---- as many states as there are

-- A latch that toggles is bad at step 1. Its window of two steps has each of the two states of one
-- latch once: only longer ones repeat a state.
abbrev toggling : File
toggling = record shifting { greatest = 1; latches = latch_from 2 3 ∷ [] }

zero_and_one : ℕ → ℕ → Bool
zero_and_one zero n = false
zero_and_one (suc t) n = eqb n 1

toggling-window : IsWindow Distinct toggling 0 zero_and_one
unfolding zero_and_one
toggling-window = record {
  is_run = record { steps = steps; moves = moves };
  constraints = λ t low. tt;
  good = λ t low. good t low;
  states = states;
}
  where
    steps : (t : ℕ) → t ≤ 0 + 1 → IsStep toggling (zero_and_one t)
    steps zero low = record { zero = refl; gates = tt }
    steps (suc t) low = record { zero = refl; gates = tt }

    moves : (t : ℕ) → t < 0 + 1 → Moves toggling (zero_and_one t) (zero_and_one (t + 1))
    moves zero low = (refl, tt)
    moves (suc t) low = absurd (omega arith)

    good : (t : ℕ) → t ≤ 0 → IsGood toggling (zero_and_one t)
    good zero low = (refl, tt)
    good (suc t) low = absurd (omega arith)

    states : HasDistinctStates toggling 1 zero_and_one
    states zero zero less low same = absurd (omega arith)
    states zero (suc t) less low same = false≢true same.0
    states (suc s) zero less low same = absurd (omega arith)
    states (suc s) (suc t) less low same = absurd (omega arith)

toggling-not_inductive : ¬ IsKInductive Distinct toggling 0
unfolding zero_and_one
toggling-not_inductive step =
    let good = step zero_and_one toggling-window in
    false≢true (sym good.0)

-- ---- what is no certificate

-- a step at which latch 1 alone is 1
only_first : ℕ → Bool
only_first n = eqb n 1

-- nothing is bad
silent : ¬ IsCertificateOf (record shown { properties = no_properties }) shifting
unfolding only_first
silent is =
    let good = is.good only_first (record { zero = refl; gates = (refl, tt) }) tt tt in
    false≢true (sym good.0)

-- the bad state is forbidden
forbidding : ¬ IsCertificateOf (record shown { properties = record shown.properties { constraints = 3 ∷ [] } }) shifting
unfolding only_first
forbidding is =
    let holds = is.constraints only_first (record { zero = refl; gates = (refl, tt) }) tt in
    false≢true holds.0

-- the machine isn't the same: latch 1 stays 0
frozen : ¬ IsCertificateOf (record shown { latches = latch_from 2 0 ∷ latch_from 4 4 ∷ [] }) shifting
frozen is =
    let latches = latch_from 2 0 ∷ latch_from 4 4 ∷ [] in
    let IsOther = λ (l : LatchLine). l.literal ≡ 2 → l.next ≡ 0 in
    let others = All-from_recursion IsOther latches ((λ e. refl), ((λ e. absurd (omega arith)), tt)) in
    let there = is.extends.latches 0 (latch_from 2 4) (omega arith) in
    let next = All-contains IsOther latches (latch_from 2 4) others there refl in
    absurd (omega (arith, next))
