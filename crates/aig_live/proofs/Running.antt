-- Runs of a circuit with inputs and latches more.
use Rattle.aig_base.proofs.Words.{◌≡◌, ◌⊎◌, ℕ, ◌+◌, ◌<◌, ◌||◌, Bool, true, false, IsTrue, Option, List, [], ◌∷◌, ◌++◌, length, get_or, sym, ap, subst, ◌∙◌, inl, inr, All, All-append, list_any, or_cases, false≢true}
use Rattle.aig_circuit.specs.declared.edge.AigEdge.{AigEdge}
use Rattle.aig_circuit.specs.declared.node.AigLatch.{AigLatch}
use Rattle.aig_circuit.proofs.Words.{Circuit, IsCircuit, IsLeaf, edge_value}
use Rattle.aig_circuit.proofs.Lists.{All-first, All-second}
use Rattle.aig_change.specs.Runs.{IsAllowedRun}
use Rattle.aig_join.proofs.Grown.{constraints-agree, run-agrees, runs-grown, start-agrees, starts-grown}
use Rattle.aig_runs.specs.CircuitQueries.{IsCircuitWitness}
use Rattle.aig_live.specs.Live.{false_latches}
use Rattle.aig_live.specs.Extended.{IsExtended}
use Rattle.aig_live.proofs.Added.{Begins, Follows, begin, begins_at, follow, follows_at}
use Rattle.aig_live.proofs.Extended.{latchs_are}

module _ (inputs : ℕ) (nexts : List AigEdge) (bad : AigEdge) (texts : List (Option (List ℕ)))
    (c new : Circuit) (is : IsCircuit c) (ext : IsExtended inputs nexts bad texts c new)
    (k : ℕ) (z : ℕ → ℕ → Bool) where
  bads_are : new.properties.bads ≡ bad ∷ []
  bads_are = ap (λ (m : Circuit). m.properties.bads) ext.rest

  constraints_are : new.properties.constraints ≡ c.properties.constraints
  constraints_are = ap (λ (m : Circuit). m.properties.constraints) ext.rest

  abbrev added : List AigLatch
  added = false_latches (length c.nodes + inputs) nexts

  -- ---- of the new circuit

  module _ (witness : IsCircuitWitness new k z) where
    follows : (t : ℕ) → t < k
        → All (Follows new.nodes ext.nodes.sound (z t) (z (t + 1)))
        (c.latchs ++ false_latches (length c.nodes + inputs) nexts)
    follows t h = subst (All (Follows new.nodes ext.nodes.sound (z t) (z (t + 1))))
        (latchs_are inputs nexts bad texts c new is ext) (witness.is_run t h)

    begins : All (Begins new.nodes ext.nodes.sound (z 0))
        (c.latchs ++ false_latches (length c.nodes + inputs) nexts)
    begins = subst (All (Begins new.nodes ext.nodes.sound (z 0)))
        (latchs_are inputs nexts bad texts c new is ext) witness.start

    -- the old leaves have a run of the old circuit
    pub cut_allowed : IsAllowedRun c k z
    cut_allowed = record {
      from_start = record {
        run = (runs-grown c is new.nodes ext.nodes c.properties k z).0
            (λ t h. All-first (Follows new.nodes ext.nodes.sound (z t) (z (t + 1))) c.latchs
            (false_latches (length c.nodes + inputs) nexts) (follows t h));
        start = (starts-grown c is new.nodes ext.nodes c.properties (z 0)).0
            (All-first (Begins new.nodes ext.nodes.sound (z 0)) c.latchs
            (false_latches (length c.nodes + inputs) nexts) begins);
      };
      allowed = λ t h j d low.
          sym (ext.nodes.values (z t) (get_or c.properties.constraints j d)
          (is.properties.constraints j d low))
          ∙ subst (All (λ e. IsTrue (edge_value new.nodes (z t) e))) constraints_are
          (witness.constraints t h) j d low;
    }

    -- and each new latch its next value
    pub cut_next : (t j : ℕ) (e : AigEdge) → t < k → j < length nexts
        → z (t + 1) (length c.nodes + inputs + j) ≡ edge_value new.nodes (z t) (get_or nexts j e)
    cut_next t j e h low =
        follows_at new.nodes ext.nodes.sound (length c.nodes + inputs) nexts (z t) (z (t + 1))
        (All-second (Follows new.nodes ext.nodes.sound (z t) (z (t + 1))) c.latchs
        (false_latches (length c.nodes + inputs) nexts) (follows t h)) j e low

    pub cut_start : (j : ℕ) → j < length nexts → z 0 (length c.nodes + inputs + j) ≡ false
    cut_start j low =
        begins_at new.nodes ext.nodes.sound (length c.nodes + inputs) nexts (z 0)
        (All-second (Begins new.nodes ext.nodes.sound (z 0)) c.latchs
        (false_latches (length c.nodes + inputs) nexts) begins) j low

    -- a bad state is the one bad edge
    pub cut_bad : IsTrue (edge_value new.nodes (z k) bad)
    cut_bad = by (or_cases (edge_value new.nodes (z k) bad) false (subst (λ es. IsTrue (list_any
        (edge_value new.nodes (z k)) es)) bads_are witness.bad))
      where
        by : (edge_value new.nodes (z k) bad ≡ true) ⊎ (false ≡ true)
            → IsTrue (edge_value new.nodes (z k) bad)
        by (inl at) = at
        by (inr other) = absurd (false≢true other)

  -- ---- of the old circuit

  module _ (x : ℕ → ℕ → Bool) (allowed : IsAllowedRun c k x)
      (same : (t n : ℕ) → IsLeaf c.nodes n → x t n ≡ z t n)
      (next : (t j : ℕ) (e : AigEdge) → t < k → j < length nexts
      → z (t + 1) (length c.nodes + inputs + j) ≡ edge_value new.nodes (z t) (get_or nexts j e))
      (start : (j : ℕ) → j < length nexts → z 0 (length c.nodes + inputs + j) ≡ false)
      (holds : IsTrue (edge_value new.nodes (z k) bad)) where
    -- leaves that agree with its run, and have the new latches' values, are a run of the new one
    pub extended_witness : IsCircuitWitness new k z
    extended_witness = record {
      is_run = λ t h. subst (All (Follows new.nodes ext.nodes.sound (z t) (z (t + 1))))
          (sym (latchs_are inputs nexts bad texts c new is ext))
          (All-append (Follows new.nodes ext.nodes.sound (z t) (z (t + 1))) c.latchs
          (false_latches (length c.nodes + inputs) nexts)
          ((runs-grown c is new.nodes ext.nodes c.properties k z).1
          (run-agrees c is k x z (λ s n low leaf. same s n leaf) allowed.from_start.run) t h)
          (follow new.nodes ext.nodes.sound (length c.nodes + inputs) nexts (z t) (z (t + 1))
          (λ j e low. next t j e h low)));
      start = subst (All (Begins new.nodes ext.nodes.sound (z 0)))
          (sym (latchs_are inputs nexts bad texts c new is ext))
          (All-append (Begins new.nodes ext.nodes.sound (z 0)) c.latchs
          (false_latches (length c.nodes + inputs) nexts)
          ((starts-grown c is new.nodes ext.nodes c.properties (z 0)).1
          (start-agrees c is (x 0) (z 0) (same 0) allowed.from_start.start))
          (begin new.nodes ext.nodes.sound (length c.nodes + inputs) nexts (z 0) start));
      constraints = λ t h. subst (All (λ e. IsTrue (edge_value new.nodes (z t) e))) (sym
          constraints_are)
          (λ j d low.
          ext.nodes.values (z t) (get_or c.properties.constraints j d)
          (is.properties.constraints j d low)
          ∙ constraints-agree c is (x t) (z t) (same t) (allowed.allowed t h) j d low);
      bad = subst (λ es. IsTrue (list_any (edge_value new.nodes (z k)) es)) (sym bads_are)
          (ap (λ b. b || false) holds);
    }
