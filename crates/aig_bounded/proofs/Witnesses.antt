-- What a question asks, in terms of witnesses.
use Rattle.aig_base.proofs.Words.{◌≡◌, ◌⊎◌, ◌↔◌, ℕ, zero, suc, ◌+◌, ◌-◌, ◌<◌, ◌≤◌, Bool, true, false, cond, ltb, IsTrue, Option, Some, None, List, [], length, get_or, refl, sym, ap, subst, ◌∙◌, inl, inr, arith, All, list_any, cases_lt, nat_tests}
use Rattle.aig_circuit.specs.declared.edge.AigEdge.{AigEdge}
use Rattle.aig_circuit.specs.declared.node.AigLatch.{AigLatch}
use Rattle.aig_circuit.proofs.Words.{Circuit, IsCircuit, IsInitial, IsRun, edge_value}
use Rattle.aig_runs.specs.CircuitQueries.{HasCircuitWitness, IsCircuitWitness}
use Rattle.aig_bounded.specs.declared.place.Place.{Place}
use Rattle.aig_bounded.specs.Question.{IsQuestion, Reaches}
use Rattle.aig_bounded.proofs.Cut.{place_value, reads_whole}
use Rattle.aig_bounded.proofs.Read.{latch_at, latch_at-found, zip_length}

-- ---- a run that goes on

module _ (c : Circuit) (circuit : IsCircuit c) (t : ℕ) (run : ℕ → ℕ → Bool) where
  -- leaf values after these: those of next edges, and false where there is no latch
  after : (ℕ → Bool) → Option AigLatch → Bool
  after x None = false
  after x (Some latch) = edge_value c.nodes x latch.next

  -- so many steps after step t
  later : ℕ → ℕ → Bool
  later zero n = run t n
  later (suc j) n = after (later j) (latch_at c.latchs n)

  -- the run up to step t, and on
  longer : ℕ → ℕ → Bool
  longer s = cond (ltb s t) (run s) (later (s - t))

  later_moves : (j : ℕ)
      → All (λ latch. later (suc j) latch.input ≡ edge_value c.nodes (later j) latch.next) c.latchs
  unfolding later after
  later_moves j i d h = ap (after (later j)) (latch_at-found c.latchs i d h circuit.latchs_distinct)

  before : (s : ℕ) → s < t → longer s ≡ run s
  unfolding longer
  before s low = let test : ltb s t ≡ true = grind (arith, nat_tests) in ap (λ b. cond b (run s) (later (s - t))) test

  on : (s j : ℕ) → s ≡ t + j → longer s ≡ later j
  unfolding longer
  on s j is =
      let test : ltb s t ≡ false = grind (arith, nat_tests) in
      let left : s - t ≡ j = omega arith in
      ap (λ b. cond b (run s) (later (s - t))) test ∙ ap later left

  at_end : later 0 ≡ run t
  unfolding later
  at_end = refl

  same_to : (s : ℕ) → s ≤ t → longer s ≡ run s
  same_to s h = by (cases_lt s t)
    where
      by : (s < t) ⊎ (t ≤ s) → longer s ≡ run s
      by (inl low) = before s low
      by (inr high) = let same : s ≡ t = omega arith in on s 0 (omega arith) ∙ at_end ∙ ap run (sym same)

  longer_is_run : IsRun c t run → (last : ℕ) → IsRun c last longer
  longer_is_run is last s l i d h = by (cases_lt s t)
    where
      latch : AigLatch
      latch = get_or c.latchs i d

      by : (s < t) ⊎ (t ≤ s)
          → longer (s + 1) (get_or c.latchs i d).input
          ≡ edge_value c.nodes (longer s) (get_or c.latchs i d).next
      by (inl low) =
          ap (λ (x : ℕ → Bool). x (get_or c.latchs i d).input) (same_to (s + 1) (omega arith)) ∙ is s low i d h
          ∙ ap (λ (x : ℕ → Bool). edge_value c.nodes x (get_or c.latchs i d).next) (sym (before s low))
      by (inr high) =
          let j = s - t in
          ap (λ (x : ℕ → Bool). x (get_or c.latchs i d).input) (on (s + 1) (suc j) (omega arith)) ∙ later_moves j i d h
          ∙ ap (λ (x : ℕ → Bool). edge_value c.nodes x (get_or c.latchs i d).next) (sym (on s j (omega arith)))

-- ---- what a question asks for

module _ (c : Circuit) (k : ℕ) (asks : Circuit) (output : AigEdge) (places : List Place)
    (circuit : IsCircuit c) (is : IsQuestion c k asks output places) where
  counted : length places ≡ length asks.inputs
  counted = let run = is.runs (λ n. false) in zip_length _ asks.inputs places run.3

  reached_of : (y : ℕ → Bool) → IsTrue (edge_value asks.nodes y output)
      → (run : ℕ → ℕ → Bool) × IsRun c k run × IsInitial c (run 0) × Reaches c k run
  reached_of y holds =
      let run = is.runs y in
      (run.0, run.1, run.2, (is.value run.0 y run.1 run.2 run.3).0 holds)

  holds_on : (run : ℕ → ℕ → Bool) → IsRun c k run → IsInitial c (run 0) → Reaches c k run
      → (y : ℕ → Bool) × IsTrue (edge_value asks.nodes y output)
  holds_on run moves start reaches =
      let y = place_value [] [] (λ n. n) (λ n. false) run asks.inputs places in
      let reads = reads_whole [] [] (λ n. n) (λ n. false) run asks.inputs places counted is.circuit.inputs_distinct in
      (y, (is.value run y moves start reads).1 reaches)

  forth : ((y : ℕ → Bool) × IsTrue (edge_value asks.nodes y output))
      → (t : ℕ) × (t ≤ k) × HasCircuitWitness c t
  forth (y, holds) =
      let found = reached_of y holds in
      let reaches = found.3 in (
        reaches.step,
        reaches.within,
        (
          found.0,
          record {
            is_run = λ s l. found.1 s (omega (arith, reaches.within));
            start = found.2;
            constraints = reaches.constraints;
            bad = reaches.bad;
          },
        ),
      )

  back : (t : ℕ) → t ≤ k → (run : ℕ → ℕ → Bool) → IsCircuitWitness c t run
      → (y : ℕ → Bool) × IsTrue (edge_value asks.nodes y output)
  back t h run w =
      let all = longer c circuit t run in
      let same = same_to c circuit t run in
      let start : IsInitial c (all 0) = subst (IsInitial c) (sym (same 0 (omega arith))) w.start in
      let reaches : Reaches c k all = record {
        step = t;
        within = h;
        constraints = λ s l. subst (λ (x : ℕ → Bool). All (λ (e : AigEdge). IsTrue (edge_value c.nodes x e)) c.properties.constraints) (sym (same s l)) (w.constraints s l);
        bad = subst (λ (x : ℕ → Bool). IsTrue (list_any (edge_value c.nodes x) c.properties.bads)) (sym (same t (omega arith))) w.bad;
      } in
      holds_on all (longer_is_run c circuit t run w.is_run k) start reaches

  pub question_asks : ((y : ℕ → Bool) × IsTrue (edge_value asks.nodes y output))
      ↔ ((t : ℕ) × (t ≤ k) × HasCircuitWitness c t)
  question_asks = (forth, λ (t, h, w). back t h w.0 w.1)
