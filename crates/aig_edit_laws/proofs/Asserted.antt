-- A circuit with another bad edge alone has the runs of the old one.
use Rattle.aig_base.proofs.Words.{◌↔◌, ℕ, Bool, true, Option, IsTrue, sym, ap, subst, ◌∙◌, IsSomeAnd}
use Rattle.aig_circuit.specs.declared.edge.AigEdge.{AigEdge}
use Rattle.aig_circuit.proofs.Trees.{node_value-false}
use Rattle.aig_circuit.proofs.Words.{Circuit, IsCircuit, edge_to, edge_value, inverted_if}
use Rattle.aig_change.specs.Runs.{IsAllowedRun}
use Rattle.aig_runs.specs.CircuitQueries.{HasCircuitWitness, IsCircuitWitness}
use Rattle.aig_edit_laws.specs.Shown.{HasCircuitBadAt, IsPropertyOf, always_bad, bad_alone}
use Rattle.aig_edit_laws.proofs.Compressed.{or_false}

-- its witnesses are the runs with that edge at their last step
alone_witnesses : (c : Circuit) (e : AigEdge) (k : ℕ) (x : ℕ → ℕ → Bool)
    → IsCircuitWitness (bad_alone c e) k x
    ↔ (IsAllowedRun c k x × IsTrue (edge_value c.nodes (x k) e))
alone_witnesses c e k x = (
  λ w. (
    record { from_start = record { run = w.is_run; start = w.start }; allowed = w.constraints },
    sym (or_false (edge_value c.nodes (x k) e)) ∙ w.bad,
  ),
  λ s. record {
    is_run = s.0.from_start.run;
    start = s.0.from_start.start;
    constraints = s.0.allowed;
    bad = or_false (edge_value c.nodes (x k) e) ∙ s.1;
  },
)

always_true : (c : Circuit) (x : ℕ → Bool) → IsCircuit c
    → IsTrue (edge_value c.nodes x (edge_to 0 true))
always_true c x is = ap (inverted_if true) (node_value-false c.nodes x 0 is.nodes.false_first)

pub always_bad_witnesses : (c : Circuit) (k : ℕ) (x : ℕ → ℕ → Bool) → IsCircuit c
    → IsCircuitWitness (always_bad c) k x ↔ IsAllowedRun c k x
always_bad_witnesses c k x is =
    let same = alone_witnesses c (edge_to 0 true) k x in
    (λ w. (same.0 w).0, λ run. same.1 (run, always_true c (x k) is))

pub property_witnesses : (c new : Circuit) (n k : ℕ) → IsPropertyOf n c new
    → HasCircuitWitness new k ↔ HasCircuitBadAt c n k
property_witnesses c new n k of =
    let Shown = λ (x : ℕ → ℕ → Bool) (o : Option AigEdge).
    IsSomeAnd o (λ e. IsTrue (edge_value c.nodes (x k) e)) in (
      λ (x, w).
          let same = alone_witnesses c of.bad k x in
          let s = same.0 (subst (λ d. IsCircuitWitness d k x) of.exact w) in
          (x, s.0, subst (Shown x) (sym of.there) s.1),
      λ (x, allowed, shown).
          let same = alone_witnesses c of.bad k x in
          let w = same.1 (allowed, subst (Shown x) of.there shown) in
          (x, subst (λ d. IsCircuitWitness d k x) (sym of.exact) w),
    )
