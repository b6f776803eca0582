-- What the parts of an edit tell, at each way out of them.
use Rattle.aig_base.proofs.Words.{◌≡◌, ℕ, List, [], Some, Result, Ok, Err, sym, ap, subst, All-cons, All-nil, get_or_from_slice_get, slice_get_within}
use Rattle.std.specs.Prelude.{All, IfErr, IfOk, IsErrOf, slice_get}
use Rattle.aig_circuit.specs.declared.edge.AigEdge.{AigEdge}
use Rattle.aig_circuit.specs.declared.view.CircuitLists.{CircuitLists}
use Rattle.aig_circuit.specs.Properties.{AllProperties}
use Rattle.aig_circuit.proofs.Words.{Circuit, IsCircuit, IsInRange, Properties, lists_circuit}
use Rattle.aig_edit_laws.specs.Plain.{IsPlain}
use Rattle.aig_edit_laws.specs.Shown.{bad_alone, output_alone, outputs_as_bads}
use Rattle.aig_format.proofs.Words.{IsWritable}
use Rattle.aig_edits.specs.declared.editing.Edit.{Edit}
use Rattle.aig_edits.specs.declared.edit_error.EditError.{EditError}
use Rattle.aig_edits.specs.declared.edit_error.EditError.TheVariants as errors
use Rattle.aig_edits.specs.Edits.{AreStepsWithin, IsEdited}
use Rattle.aig_edits.specs.EditParts.{CanEditCircuit, Edits, Yields}

-- an error of a result is that one
pub err_of : {T E : Type 0} (e x : E) → e ≡ x → IsErrOf {T = T} (Err e) x
err_of {T} {E} e x is = let error : E → Result T E = λ y. Err y in ap error is

-- ---- the circuit

-- a circuit with a written form is kept from none by more than its size
pub plain_of : (c : Circuit) → IsWritable c → IsPlain c
plain_of c w = record { closed = w.closed; start = w.start; names = w.names }

-- an edge of a list whose edges are in range is in range
pub in_range_at : (c : Circuit) (es : List AigEdge) (n : ℕ) (e : AigEdge)
    → All (IsInRange c.nodes) es → slice_get es n ≡ Some e → IsInRange c.nodes e
in_range_at c es n e all at =
    subst (IsInRange c.nodes) (get_or_from_slice_get es n e e at)
    (all n e (slice_get_within es n e at))

-- a circuit with other properties, whose edges are in range, is one
pub with_properties : (c : Circuit) (p : Properties AigEdge) → IsCircuit c
    → AllProperties (IsInRange c.nodes) p → IsCircuit (record c { properties = p })
with_properties c p is all = record {
  nodes = is.nodes;
  inputs = is.inputs;
  inputs_distinct = is.inputs_distinct;
  latchs = is.latchs;
  latchs_distinct = is.latchs_distinct;
  apart = is.apart;
  properties = all;
  named = is.named;
}

-- with its outputs as its bad edges
pub circuit_outputs_as_bads : (c : Circuit) → IsCircuit c → IsCircuit (outputs_as_bads c)
circuit_outputs_as_bads c is =
    let old = is.properties in
    with_properties c (outputs_as_bads c).properties is (record {
      outputs = All-nil (IsInRange c.nodes);
      bads = old.outputs;
      constraints = old.constraints;
      justice = old.justice;
      fairness = old.fairness;
    })

-- with one bad edge
pub circuit_bad_alone : (c : Circuit) (e : AigEdge) → IsCircuit c → IsInRange c.nodes e
    → IsCircuit (bad_alone c e)
circuit_bad_alone c e is there =
    let P = IsInRange c.nodes in
    let old = is.properties in
    with_properties c (bad_alone c e).properties is (record {
      outputs = old.outputs;
      bads = All-cons P e [] there (All-nil P);
      constraints = old.constraints;
      justice = old.justice;
      fairness = old.fairness;
    })

-- with one output
pub circuit_output_alone : (c : Circuit) (e : AigEdge) → IsCircuit c → IsInRange c.nodes e
    → IsCircuit (output_alone c e)
circuit_output_alone c e is there =
    let P = IsInRange c.nodes in
    with_properties c (output_alone c e).properties is (record {
      outputs = All-cons P e [] there (All-nil P);
      bads = All-nil P;
      constraints = is.properties.constraints;
      justice = All-nil (All P);
      fairness = All-nil P;
    })

-- what is made where the edit can be made
pub edits : (edit : Edit) (limit : ℕ) (c : Circuit) (r : Result CircuitLists EditError)
    → CanEditCircuit
    edit c
    → AreStepsWithin edit limit c → Yields edit c r → Edits edit limit c r
edits edit limit c (Ok m) can within y = (can, within, y.made.0, y.made.1, y.made.2)
edits edit limit c (Err e) can within y = subst (λ e. Edits edit limit c (Err e)) (sym y.fault)
    (can, within)

-- what is made of a circuit, where it is one circuit alone
pub yields : (edit : Edit) (c new : Circuit) (r : Result CircuitLists EditError)
    → IsEdited edit c new
    → IfOk r (λ m. (lists_circuit m ≡ new) × IsPlain (lists_circuit m) × IsCircuit (lists_circuit m))
    → IfErr r (λ e. e ≡ errors.Memory) → Yields edit c r
yields edit c new (Ok m) is made fault = record {
  made = (subst (IsEdited edit c) (sym made.0) is, made.1, made.2);
  fault = tt;
}
yields edit c new (Err e) is made fault = record { made = tt; fault = fault }
