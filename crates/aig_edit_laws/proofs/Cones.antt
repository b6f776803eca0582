-- The cone of a circuit's output shows that output where the circuit does.
use Rattle.aig_base.proofs.Words.{◌≡◌, ◌↔◌, ℕ, Some, List, [], IsTrue, sym, subst, ◌∙◌, IsSomeAnd, slice_get, All-cons, All-nil, get_or_from_slice_get, slice_get_within}
use Rattle.aig_circuit.specs.declared.edge.AigEdge.{AigEdge}
use Rattle.aig_circuit.proofs.Words.{Circuit, IsCircuit, IsInRange, edge_value}
use Rattle.aig_cone.specs.Refine.{AreKept, CutsRuns, refined}
use Rattle.aig_edit_laws.specs.Reduction.{HaveSameWitnesses}
use Rattle.aig_edit_laws.specs.Plain.{IsPlain}
use Rattle.aig_edit_laws.specs.Shown.{HasCircuitOutput, HasCircuitOutputAt, IsConeOf, output_alone, outputs_as_bads}
use Rattle.aig_edit_laws.proofs.Compressed.{or_false}
use Rattle.aig_edit_laws.proofs.PlainForms.{plain-refined}
use Rattle.aig_edit_laws.proofs.Written.{outputs_witnesses}

-- ---- outputs as bad edges

IsCircuit-outputs_as_bads : (c : Circuit) → IsCircuit c → IsCircuit (outputs_as_bads c)
IsCircuit-outputs_as_bads c is = record {
  nodes = is.nodes;
  inputs = is.inputs;
  inputs_distinct = is.inputs_distinct;
  latchs = is.latchs;
  latchs_distinct = is.latchs_distinct;
  apart = is.apart;
  properties = record {
    outputs = All-nil (IsInRange c.nodes);
    bads = is.properties.outputs;
    constraints = is.properties.constraints;
    justice = is.properties.justice;
    fairness = is.properties.fairness;
  };
  named = is.named;
}

CutsRuns-outputs_as_bads : (old new : Circuit) (kept : List ℕ) → CutsRuns old new kept
    → CutsRuns (outputs_as_bads old) (outputs_as_bads new) kept
CutsRuns-outputs_as_bads old new kept cuts = record {
  cut = cuts.cut;
  each = cuts.each;
  starts = cuts.starts;
  properties = λ x.
      let same = cuts.properties x in
      record {
        outputs = tt;
        bads = same.outputs;
        constraints = same.constraints;
        justice = same.justice;
        fairness = same.fairness;
      };
  next = cuts.next;
  initial = cuts.initial;
}

-- ---- the output alone

IsCircuit-output_alone : (c : Circuit) (n : ℕ) (e : AigEdge)
    → slice_get c.properties.outputs n ≡ Some e → IsCircuit c
    → IsCircuit (output_alone c e)
IsCircuit-output_alone c n e at is =
    let outputs = c.properties.outputs in
    let there : IsInRange c.nodes e =
    subst (IsInRange c.nodes) (get_or_from_slice_get outputs n e e at) (is.properties.outputs n e (slice_get_within outputs n e at)) in
    record {
      nodes = is.nodes;
      inputs = is.inputs;
      inputs_distinct = is.inputs_distinct;
      latchs = is.latchs;
      latchs_distinct = is.latchs_distinct;
      apart = is.apart;
      properties = record {
        outputs = All-cons (IsInRange c.nodes) e [] there (All-nil (IsInRange c.nodes));
        bads = All-nil (IsInRange c.nodes);
        constraints = is.properties.constraints;
        justice = All-nil _;
        fairness = All-nil (IsInRange c.nodes);
      };
      named = is.named;
    }

alone_shows : (c : Circuit) (n k : ℕ) (e : AigEdge) → slice_get c.properties.outputs n ≡ Some e
    → HasCircuitOutput (output_alone c e) k ↔ HasCircuitOutputAt c n k
alone_shows c n k e at = (
  λ (x, allowed, shown). (
    x,
    record { from_start = record { run = allowed.from_start.run; start = allowed.from_start.start }; allowed = allowed.allowed },
    subst (λ o. IsSomeAnd o (λ e. IsTrue (edge_value c.nodes (x k) e))) (sym at) (sym (or_false (edge_value c.nodes (x k) e)) ∙ shown),
  ),
  λ (x, allowed, shown). (
    x,
    record { from_start = record { run = allowed.from_start.run; start = allowed.from_start.start }; allowed = allowed.allowed },
    or_false (edge_value c.nodes (x k) e) ∙ subst (λ o. IsSomeAnd o (λ e. IsTrue (edge_value c.nodes (x k) e))) at shown,
  ),
)

-- ---- the cone

-- what the cutting of circuits says
pub record Refining : Type 0 where
  pub circuit : (c : Circuit) (kept : List ℕ) → IsCircuit c → AreKept c kept
      → IsCircuit (refined kept c)
  pub cuts : (c : Circuit) (kept : List ℕ) → IsCircuit c → AreKept c kept
      → CutsRuns c (refined kept c) kept
  pub keeps : (old new : Circuit) (kept : List ℕ) → IsCircuit new → CutsRuns old new kept
      → HaveSameWitnesses old new

module _ (refining : Refining) where
  refined_outputs : (c : Circuit) (kept : List ℕ) (k : ℕ) → IsCircuit c → AreKept c kept
      → HasCircuitOutput (refined kept c) k ↔ HasCircuitOutput c k
  refined_outputs c kept k is are =
      let d = refined kept c in
      let same = refining.keeps (outputs_as_bads c) (outputs_as_bads d) kept
      (IsCircuit-outputs_as_bads d (refining.circuit c kept is are))
      (CutsRuns-outputs_as_bads c d kept (refining.cuts c kept is are)) k in
      let old = outputs_witnesses c k in
      let new = outputs_witnesses d k in
      (λ s. old.0 (same.1 (new.1 s)), λ s. new.0 (same.0 (old.1 s)))

  pub cone_shows : (c cone : Circuit) (n k : ℕ) → IsCircuit c → IsConeOf n c cone
      → HasCircuitOutput cone k ↔ HasCircuitOutputAt c n k
  cone_shows c cone n k is of =
      let alone = output_alone c of.output in
      let cut = refined_outputs alone of.kept k (IsCircuit-output_alone c n of.output of.there is) of.are_kept in
      let shows = alone_shows c n k of.output of.there in (
        λ s. shows.0 (cut.0 (subst (λ m. HasCircuitOutput m k) of.exact s)),
        λ s. subst (λ m. HasCircuitOutput m k) (sym of.exact) (cut.1 (shows.1 s)),
      )

pub plain-cone : (c cone : Circuit) (n : ℕ) → IsCircuit c → IsPlain c → IsConeOf n c cone
    → IsPlain cone
plain-cone c cone n is plain of =
    let alone : IsPlain (output_alone c of.output) = record { closed = plain.closed; start = plain.start; names = plain.names } in
    subst IsPlain (sym of.exact) (plain-refined (output_alone c of.output) of.kept (IsCircuit-output_alone c n of.output of.there is) of.are_kept alone)
