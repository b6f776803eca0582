-- A circuit whose bad edges became one has the witnesses of the old one.
use Rattle.aig_base.proofs.Words.{◌≡◌, ℕ, Bool, true, false, ◌||◌, Option, Some, None, get_or, refl, sym, ap, subst, ◌∙◌, IfSome, list_any}
use Rattle.aig_circuit.specs.declared.edge.AigEdge.{AigEdge}
use Rattle.aig_circuit.proofs.Words.{Circuit, IsCircuit, IsInRange, edge_value}
use Rattle.aig_change.specs.Changes.{CompressesBads}
use Rattle.aig_edit_laws.specs.Reduction.{HaveSameWitnesses}
use Rattle.aig_runs.specs.CircuitQueries.{IsCircuitWitness}

pub or_false : (b : Bool) → (b || false) ≡ b
or_false true = refl
or_false false = refl

module _ (old new : Circuit) (is : IsCircuit old) (made : CompressesBads old new) where
  -- the circuit, field for field
  abbrev mid : Circuit
  mid = record old {
    nodes = new.nodes;
    properties = record old.properties { bads = new.properties.bads };
  }

  value : (x : ℕ → Bool) (e : AigEdge) → IsInRange old.nodes e
      → edge_value new.nodes x e ≡ edge_value old.nodes x e
  value = made.gates.grows.values

  init_forth : (x : ℕ → Bool) (o : Option AigEdge) (b : Bool) → IfSome o (IsInRange old.nodes)
      → IfSome o (λ e. edge_value old.nodes x e ≡ b) → IfSome o (λ e. edge_value new.nodes x e ≡ b)
  init_forth x (Some e) b there is = value x e there ∙ is
  init_forth x None b there is = tt

  init_back : (x : ℕ → Bool) (o : Option AigEdge) (b : Bool) → IfSome o (IsInRange old.nodes)
      → IfSome o (λ e. edge_value new.nodes x e ≡ b) → IfSome o (λ e. edge_value old.nodes x e ≡ b)
  init_back x (Some e) b there is = sym (value x e there) ∙ is
  init_back x None b there is = tt

  -- the one bad edge is true where some old one is
  bads_same : (x : ℕ → Bool) → list_any (edge_value new.nodes x) new.properties.bads
      ≡ list_any (edge_value old.nodes x) old.properties.bads
  bads_same x = ap (list_any (edge_value new.nodes x)) made.bads ∙ or_false (edge_value new.nodes x made.bad)
      ∙ made.value.gives.value x

  forth : (k : ℕ) (x : ℕ → ℕ → Bool) → IsCircuitWitness old k x → IsCircuitWitness mid k x
  forth k x w = record {
    is_run = λ t h i d l. w.is_run t h i d l ∙ sym (value (x t) (get_or old.latchs i d).next (is.latchs i d l).next);
    start = λ i d l. init_forth (x 0) (get_or old.latchs i d).init (x 0 (get_or old.latchs i d).input) (is.latchs i d l).init (w.start i d l);
    constraints = λ t h i d l. value (x t) (get_or old.properties.constraints i d) (is.properties.constraints i d l) ∙ w.constraints t h i d l;
    bad = bads_same (x k) ∙ w.bad;
  }

  back : (k : ℕ) (x : ℕ → ℕ → Bool) → IsCircuitWitness mid k x → IsCircuitWitness old k x
  back k x w = record {
    is_run = λ t h i d l. w.is_run t h i d l ∙ value (x t) (get_or old.latchs i d).next (is.latchs i d l).next;
    start = λ i d l. init_back (x 0) (get_or old.latchs i d).init (x 0 (get_or old.latchs i d).input) (is.latchs i d l).init (w.start i d l);
    constraints = λ t h i d l. sym (value (x t) (get_or old.properties.constraints i d) (is.properties.constraints i d l)) ∙ w.constraints t h i d l;
    bad = sym (bads_same (x k)) ∙ w.bad;
  }

  pub compressed_witnesses : HaveSameWitnesses old new
  compressed_witnesses k = (
    λ s. (s.0, subst (λ c. IsCircuitWitness c k s.0) (sym made.rest) (forth k s.0 s.1)),
    λ s. (s.0, back k s.0 (subst (λ c. IsCircuitWitness c k s.0) made.rest s.1)),
  )
