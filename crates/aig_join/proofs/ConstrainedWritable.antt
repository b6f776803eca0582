-- What is made of a circuit's constraints leaves it a written form, where it isn't too large.
use Rattle.aig_base.proofs.Words.{◌≡◌, [], ◌∷◌, ◌++◌, length, refl, sym, ap, ap₂, subst, ◌∙◌, append_assoc, map-append, All, All-append, All-cons, All-nil}
use Rattle.aig_circuit.specs.declared.node.AigLatch.{AigLatch}
use Rattle.aig_circuit.proofs.Words.{Circuit, IsCircuit, HasConstantInit, latch_leaves}
use Rattle.aig_format.specs.Writable.{named_nodes}
use Rattle.aig_join.specs.Constraints.{DefersConstraints, unconstrained}
use Rattle.aig_join.proofs.DeferredCircuit.{added_latch, to_four}
use Rattle.aig_join.proofs.Writable.{IsWritableIfSmall, closed-with_leaf, names-with_leaf, unnamed-past}

module _ (a c : Circuit) (defers : DefersConstraints a c) where
  -- the latch that is added
  abbrev held : AigLatch
  held = added_latch a c defers

  latchs-deferred : c.latchs ≡ a.latchs ++ held ∷ []
  latchs-deferred = ap (λ (d : Circuit). d.latchs) defers.rest

  -- the nodes whose names are written, and the leaf of that latch
  named-deferred : named_nodes c ≡ named_nodes a ++ length a.nodes ∷ []
  named-deferred =
      ap₂ (λ ns ms. ns ++ ms) (ap (λ (d : Circuit). d.inputs) defers.rest)
      (ap latch_leaves latchs-deferred
      ∙ map-append (λ (l : AigLatch). l.input) a.latchs (held ∷ []))
      ∙ sym (append_assoc a.inputs (latch_leaves a.latchs) (length a.nodes ∷ []))

  pub names-deferred : c.names ≡ a.names
  names-deferred = ap (λ (d : Circuit). d.names) defers.rest

  -- the circuit whose constraints are deferred
  pub IsWritableIfSmall-deferred : IsCircuit a → IsWritableIfSmall a → IsWritableIfSmall c
  IsWritableIfSmall-deferred is writable = record {
    closed = closed-with_leaf a c named-deferred is.nodes (to_four a c is defers) writable.closed;
    start = subst (All HasConstantInit) (sym latchs-deferred)
        (All-append HasConstantInit a.latchs (held ∷ []) writable.start
        (All-cons HasConstantInit held [] refl (All-nil HasConstantInit)));
    names = names-with_leaf a c named-deferred names-deferred (unnamed-past a is) writable.names;
  }

-- and the one without them
pub IsWritableIfSmall-unconstrained : (c : Circuit) → IsWritableIfSmall c
    → IsWritableIfSmall (unconstrained c)
IsWritableIfSmall-unconstrained c writable =
    record { closed = writable.closed; start = writable.start; names = writable.names }
