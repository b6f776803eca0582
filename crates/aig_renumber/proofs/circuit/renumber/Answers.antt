use Rattle.std.proofs.Common.{◌≡◌, ℕ, ◌<◌, List, length, map, slice_index, subst, sym, ap, ◌∙◌, arith}
use Rattle.std.specs.Ordering.{nat_cmp}
use Rattle.aig_base.proofs.Words.{FinMap, contains_key, retain_keys, with_items_is}
use Rattle.std.specs.Prelude.{All, IsTrue, filter}
use Rattle.aig_circuit.specs.declared.edge.AigEdge.{AigEdge}
use Rattle.aig_circuit.specs.declared.node.AigLatch.{AigLatch}
use Rattle.aig_circuit.specs.declared.node.AigNode.{AigNode}
use Rattle.aig_circuit.proofs.Words.{AreNodes, Circuit, IsCircuit, AllProperties, Properties, map_properties, is_in, nodes_in_order, renumbered_edge, renumbered_latch, renumbered_names}
use Rattle.aig_renumber.specs.Numbers.{IsEdgeIn, IsIndex, IsLatchIn, SpeaksOf}
use Rattle.aig_renumber.proofs.Circuits.{SpeaksOf-nodes}
use Rattle.aig_renumber.proofs.Names.{entries_there}
use Rattle.aig_renumber.proofs.circuit.renumber.Goals as goal

-- the circuit speaks of nodes alone for which the table has a number
speaks : (numbers : List ℕ) (circuit : Circuit) → IsCircuit circuit
    → length numbers ≡ length circuit.nodes → SpeaksOf (λ n. n < length numbers) circuit
speaks numbers circuit is table = subst (λ (count : ℕ). SpeaksOf (λ n. n < count) circuit) (sym table) (SpeaksOf-nodes circuit is)

-- the circuit of these lists
abbrev the_circuit : List AigNode → List ℕ → List AigLatch → Properties AigEdge
    → FinMap nat_cmp (List ℕ) → Circuit
the_circuit nodes inputs latchs properties names = record { nodes = nodes; inputs = inputs; latchs = latchs; properties = properties; names = names }

-- circuits with the same lists are the same
same_lists : {nodes nodes' : List AigNode} {inputs inputs' : List ℕ} {latchs latchs' : List AigLatch} {properties properties' : Properties AigEdge} {names names' : FinMap nat_cmp (List ℕ)}
    → nodes ≡ nodes' → inputs ≡ inputs' → latchs ≡ latchs' → properties ≡ properties' → names ≡ names' → the_circuit nodes inputs latchs properties names ≡ the_circuit nodes' inputs' latchs' properties' names'
same_lists a b c d e = cc

pub inputs-requires-2-clause-there : goal.inputs-requires-2-clause-there
inputs-requires-2-clause-there c =
    subst (All (IsIndex c.args.numbers.now)) (sym c.inputs.ensures.value) (speaks c.args.numbers.now c.args.circuit.now c.inputs.ensures.circuit c.requires.table).inputs

pub inputs-requires-2-clause-places : goal.inputs-requires-2-clause-places
inputs-requires-2-clause-places c = record { within = c.requires.within; places = c.requires.places }

pub renumber_latches-requires : goal.renumber_latches-requires
renumber_latches-requires c =
    let numbers = c.args.numbers.now in
    subst (All (IsLatchIn (λ n. n < length numbers))) (sym (c.deref_mut.ensures.value ∙ c.in_ok-latchs.ensures.items ∙ c.latchs.ensures.value)) (speaks numbers c.args.circuit.now c.inputs.ensures.circuit c.requires.table).latchs

pub renumber_properties-requires : goal.renumber_properties-requires
renumber_properties-requires c =
    let numbers = c.args.numbers.now in
    subst (AllProperties {E = AigEdge} (IsEdgeIn (λ n. n < length numbers))) (sym (c.in_ok-properties.ensures ∙ c.properties.ensures.value)) (speaks numbers c.args.circuit.now c.inputs.ensures.circuit c.requires.table).properties

pub nodes_in_order-requires : goal.nodes_in_order-requires
nodes_in_order-requires c =
    let count = ap length c.nodes.ensures.value in
    let number = slice_index c.args.numbers.now in
    record {
      sound = subst AreNodes (sym c.nodes.ensures.value) c.nodes.ensures.circuit.nodes;
      table = c.requires.table ∙ sym count;
      there = λ k d h. omega (arith, count, c.requires.there k d h);
      false_first = λ i h is. sym (c.requires.places i h) ∙ ap number (is ∙ sym c.requires.false_first.1) ∙ c.requires.places 0 c.requires.false_first.0;
    }

pub names-requires-2-clause-there : goal.names-requires-2-clause-there
names-requires-2-clause-there c =
    let named = subst (λ (m : FinMap nat_cmp (List ℕ)). (n : ℕ) → IsTrue (contains_key m n) → n < length c.args.circuit.now.nodes) (sym c.names.ensures.value) c.names.ensures.circuit.named in
    entries_there (IsIndex c.args.numbers.now) c.names.result.now.entries (λ n has. subst (λ count. n < count) (sym c.requires.table) (named n has))

pub names-requires-2-clause-places : goal.names-requires-2-clause-places
names-requires-2-clause-places c = record { within = c.requires.within; places = c.requires.places }

pub returns : goal.returns
returns c =
    let kept = c.args.kept.now in
    let number = slice_index c.args.numbers.now in
    let latchs = with_items_is c.in_ok-latchs.latchs c.renumber_latches.new.latchs (omega (arith, c.in_ok-latchs.latchs.ok.0, ap length c.deref_mut.ensures.value)) in
    same_lists
    (c.in_ok-nodes_in_order.ensures ∙ ap (λ (nodes : List AigNode). nodes_in_order nodes number 0 kept) c.nodes.ensures.value)
    (c.in_ok-inputs.ensures ∙ ap (λ (inputs : List ℕ). map number (filter (is_in kept) inputs)) c.inputs.ensures.value)
    (latchs ∙ c.renumber_latches.ensures ∙ ap (map (renumbered_latch number)) (c.deref_mut.ensures.value ∙ c.in_ok-latchs.ensures.items ∙ c.latchs.ensures.value))
    (c.renumber_properties.ensures ∙ ap (map_properties (renumbered_edge number)) (c.in_ok-properties.ensures ∙ c.properties.ensures.value))
    (c.in_ok-names.ensures ∙ ap (λ (names : FinMap nat_cmp (List ℕ)). renumbered_names number (retain_keys names (is_in kept))) c.names.ensures.value)
