-- Rounds of a file's machine and of its circuit are one, and a fair run ends as many as one wants.
use Rattle.aig_base.proofs.Words.{◌≡◌, ◌↔◌, ℕ, zero, suc, ◌<◌, ◌≤◌, ◌&&◌, ◌||◌, Bool, true, false, cond, not, List, [], ◌∷◌, length, map, get_or, refl, sym, ap, subst, ◌∙◌, arith, AllByRecursion, All-from_recursion, get_or-map, length-map}
use Rattle.aig_circuit.proofs.Words.{Circuit, edge_to, edge_value}
use Rattle.aig_format.proofs.Words.{circuit_of, edge_of, File, Fits, value_of_literal, IsKnown}
use Rattle.aig_format.proofs.Circuits.{IsCircuit-of_file}
use Rattle.aig_format_laws.specs.Nodes.{HasNodeValues, values_over}
use Rattle.aig_format_laws.proofs.Joining.{back_run, forth_run, forth_values, leaves_of, literal_is}
use Rattle.aig_live.specs.EndedRounds.{AreMetAgain, all_below, ends, now_of, rounds}
use Rattle.aig_live.proofs.RoundsAgain.{rounds_reach}
use Rattle.aig_live.specs.Rounds.{IsRoundsOf, IsRoundsRun, value_of}
use Rattle.aig_live.proofs.Counts.{all_below-same}
use Rattle.aig_live.proofs.Ending.{run_of, witness_of_run}
use Rattle.aig_runs.specs.CircuitQueries.{HasCircuitWitness}
use Rattle.aig_edit_laws.specs.Fair.{AreAskedBy, HasFairRun, IsMetAgain}
use Rattle.aig_edit_laws.specs.Rounds.{HasMachineRounds, IsMachineRounds}
use Rattle.aig_edit_laws.specs.declared.fairness.Fairness.{Fairness}
use Rattle.aig_edit_laws.proofs.Files.{allowed_back, allowed_forth, asked_known}
use Rattle.aig_edit_laws.proofs.Justice.{asked_same}

-- ---- rounds look at the steps before alone

module _ (m : ℕ) (v w : ℕ → ℕ → Bool) (k : ℕ)
    (same : (e t : ℕ) → e < m → t ≤ k → v e t ≡ w e t) where
  now-same : (t : ℕ) → t ≤ k → (e : ℕ) → e < m → now_of m v t e ≡ now_of m w t e
  now-same zero h e low = same e 0 low h
  now-same (suc t) h e low = by (now-same t (omega (arith, h)))
    where
      by : ((e : ℕ) → e < m → now_of m v t e ≡ now_of m w t e)
          → now_of m v (suc t) e ≡ now_of m w (suc t) e
      by was =
          let all = all_below-same m (now_of m v t) (now_of m w t) was in
          ap (λ b. (b && not (all_below m (now_of m v t))) || v e (suc t)) (was e low)
          ∙ ap (λ b. (now_of m w t e && not b) || v e (suc t)) all
          ∙ ap (λ b. (now_of m w t e && not (all_below m (now_of m w t))) || b)
          (same e (suc t) low h)

  rounds-same : (t : ℕ) → t ≤ suc k → rounds m v t ≡ rounds m w t
  rounds-same zero h = refl
  rounds-same (suc t) h = by (rounds-same t (omega (arith, h)))
    where
      by : rounds m v t ≡ rounds m w t → rounds m v (suc t) ≡ rounds m w (suc t)
      by was =
          let all : ends m v t ≡ ends m w t = all_below-same m (now_of m v t) (now_of m w t)
          (now-same t (omega (arith, h))) in
          ap (λ b. cond b (suc (rounds m v t)) (rounds m v t)) all
          ∙ ap (λ n. cond (ends m w t) (suc n) n) was

-- the value of a literal at a step
abbrev literal_value : List ℕ → (ℕ → ℕ → Bool) → ℕ → ℕ → Bool
literal_value literals run i t = value_of_literal (run t) (get_or literals i 0)

-- ---- of a file and of its circuit

module _ (f : File) (limit count k : ℕ) (literals : List ℕ) (fits : Fits f limit)
    (known : AllByRecursion (IsKnown f) literals) where
  -- the edges have the literals' values
  module _ (x run : ℕ → ℕ → Bool) (values : HasNodeValues f k x run) where
    edge_is : (i t : ℕ) → i < length literals → t ≤ k
        → value_of (circuit_of f).nodes (map (edge_of f) literals) (x t) i
        ≡ literal_value literals run i t
    edge_is i t low h =
        ap (edge_value (circuit_of f).nodes (x t))
        (get_or-map (edge_of f) literals i 0 (edge_to 0 false) low)
        ∙ literal_is f k x run values t (get_or literals i 0) h
        (All-from_recursion (IsKnown f) literals known i 0 low)

    rounds_are : rounds (length (map (edge_of f) literals))
        (λ i t. value_of (circuit_of f).nodes (map (edge_of f) literals) (x t) i) (suc k)
        ≡ rounds (length literals) (literal_value literals run) (suc k)
    rounds_are =
        ap (λ m. rounds m (λ i t. value_of (circuit_of f).nodes (map (edge_of f) literals)
        (x t) i) (suc k)) (length-map literals (edge_of f))
        ∙ rounds-same (length literals)
        (λ i t. value_of (circuit_of f).nodes (map (edge_of f) literals) (x t) i)
        (literal_value literals run) k (λ i t low h. edge_is i t low h) (suc k) (omega arith)

  rounds_forth : (run : ℕ → ℕ → Bool) → IsMachineRounds f literals count k run
      → IsRoundsRun (map (edge_of f) literals) count (circuit_of f) k (leaves_of f run)
  rounds_forth run is =
      let x = leaves_of f run in
      let values = forth_values f limit k run fits is.allowed.is_run in
      record {
        allowed = allowed_forth f limit k fits literals known x run values
            (forth_run f limit k run fits is.allowed.is_run) is.allowed;
        ended = subst (λ n. count ≤ n) (sym (rounds_are x run values)) is.ended;
      }

  rounds_back : (x : ℕ → ℕ → Bool)
      → IsRoundsRun (map (edge_of f) literals) count (circuit_of f) k x
      → IsMachineRounds f literals count k (values_over f x)
  rounds_back x is =
      let run = values_over f x in
      let values : HasNodeValues f k x run = λ t v h is_known. refl in
      record {
        allowed = allowed_back f limit k fits literals known x run values
            (back_run f limit k x fits is.allowed.from_start.run) is.allowed;
        ended = subst (λ n. count ≤ n) (rounds_are x run values) is.ended;
      }

pub bads_are_rounds : (f : File) (limit : ℕ) (fairness : Fairness) (count k : ℕ) (literals : List ℕ)
    (new : Circuit) → Fits f limit → AreAskedBy f fairness literals
    → IsRoundsOf (map (edge_of f) literals) count (circuit_of f) new
    → HasCircuitWitness new k ↔ HasMachineRounds f fairness count k
bads_are_rounds f limit fairness count k literals new fits asked live =
    let known = asked_known f limit fairness literals fits asked in
    let is = IsCircuit-of_file f limit fits in
    let edges = map (edge_of f) literals in (
      λ has. (
        literals,
        asked,
        (
          values_over f has.0,
          rounds_back f limit count k literals fits known has.0
              (run_of edges count (circuit_of f) new is live k has.0 has.1),
        ),
      ),
      λ has.
          let rounds_run = subst (λ es. IsMachineRounds f es count k has.2.0)
          (asked_same f fairness has.0 literals has.1 asked) has.2.1 in
          witness_of_run edges count (circuit_of f) new is live k (leaves_of f has.2.0)
          (rounds_forth f limit count k literals fits known has.2.0 rounds_run),
    )

-- ---- fair runs

-- each of the literals is true again and again
met_again : (run : ℕ → ℕ → Bool) (literals : List ℕ) → AllByRecursion (IsMetAgain run) literals
    → AreMetAgain (length literals) (literal_value literals run)
met_again run [] again e t low = absurd (omega (arith, low))
met_again run (x ∷ xs) again zero t low = again.0 t
met_again run (x ∷ xs) again (suc e) t low = met_again run xs again.1 e t (omega (arith, low))

pub fair_runs_reach : (f : File) (fairness : Fairness) (count : ℕ) → HasFairRun f fairness
    → (k : ℕ) × HasMachineRounds f fairness count k
fair_runs_reach f fairness count has =
    let literals = has.0 in
    let run = has.2.0 in
    let fair = has.2.1 in
    let v = literal_value literals run in
    let found = rounds_reach (length literals) v (met_again run literals fair.fair) count in (
      found.0,
      (
        literals,
        has.1,
        (
          run,
          record {
            allowed = fair.allowed found.0;
            ended = reached (length literals) v count found.0 found.1;
          },
        ),
      ),
    )
  where
    reached : (m : ℕ) (v : ℕ → ℕ → Bool) (n t : ℕ) → n ≤ rounds m v t → n ≤ rounds m v (suc t)
    reached m v n t h = by (ends m v t)
      where
        by : (b : Bool) → n ≤ cond b (suc (rounds m v t)) (rounds m v t)
        by true = omega (arith, h)
        by false = h

pub no_rounds : (f : File) (limit : ℕ) (fairness : Fairness) (count : ℕ) (literals : List ℕ)
    (new : Circuit) → Fits f limit → AreAskedBy f fairness literals
    → IsRoundsOf (map (edge_of f) literals) count (circuit_of f) new
    → ((k : ℕ) → ¬ HasCircuitWitness new k) → ¬ HasFairRun f fairness
no_rounds f limit fairness count literals new fits asked live safe has =
    let reached = fair_runs_reach f fairness count has in
    safe reached.0
    ((bads_are_rounds f limit fairness count reached.0 literals new fits asked live).1 reached.1)
