use Rattle.aig_base.proofs.Words.{Ok, Err, Result, ◌≡◌, ◌<◌, ◌≤◌, ℕ, List, [], ◌++◌, length, append-nil, refl, sym, ap, ◌∙◌, arith, IfOk, IfOk-weaker}
use Rattle.aig_circuit.specs.declared.node.AigNodeType.TheVariants.{And, False, Leaf}
use Rattle.aig_circuit.proofs.Trees.{kind_at-within}
use Rattle.aig_circuit.proofs.Building.{Grows-itself}
use Rattle.aig_unroll.specs.Step.Copies.{false_node, gate, latch_leaf, other_leaf}
use Rattle.aig_unroll.specs.Step.{image_at}
use Rattle.aig_unroll.specs.Places.{leaves_after}
use Rattle.aig_unroll.proofs.Copied.{added_leaves-gates, added_leaves-leaf, at_most_one_more, kind_read, leaf_in_range, leaves_after-all, operands_there}
use Rattle.aig_unroll.proofs.Pushed.{if_ok, on_err}
use Rattle.aig_unroll.proofs.nodes.copy_node.Goals as goal

-- below what is below
below_start : (n start count : ℕ) → n < start → start ≤ count → n < count
below_start n start count p q = omega arith

-- what follows from two facts on an answer
from_both : {X E : Type 0} (r : Result X E) (P Q R : X → Type 0) → ((x : X) → P x → Q x → R x)
    → IfOk r P → IfOk r Q → IfOk r R
from_both (Ok x) P Q R both p q = both x p q
from_both (Err e) P Q R both p q = tt

-- no input is added
no_more : (inputs more : List ℕ) → more ≡ [] → inputs ≡ inputs ++ more
no_more inputs more none = sym (ap (λ ns. inputs ++ ns) none ∙ append-nil inputs)

pub returns-in-And-clause-copies : goal.returns-in-And-clause-copies
returns-in-And-clause-copies c =
    let a = c.in-And.fanin0 in
    let b = c.in-And.fanin1 in
    let old = c.args.nodes.now.items in
    let new = c.new_and_node.new.nodes.items in
    let is = kind_read c.args.from.now.nodes c.nodes.result.now c.args.id (And a b) c.typ.result.now c.requires.there c.nodes.ensures.value c.typ.ensures c.in-And.is in
    let ensures = c.new_and_node.ensures in
    from_both c.new_and_node.result _ _ _ (λ e rule gives. gate a b is (rw (c.image_of-first.ensures, c.image_of-second.ensures) at rule) ensures.gates (at_most_one_more old new c.image_of-first.result c.image_of-second.result e rule)
    (rw (c.image_of-first.ensures, c.image_of-second.ensures) at gives)) ensures.rule ensures.gives

pub returns-in-False-clause-copies : goal.returns-in-False-clause-copies
returns-in-False-clause-copies c =
    let is = kind_read c.args.from.now.nodes c.nodes.result.now c.args.id False c.typ.result.now c.requires.there c.nodes.ensures.value c.typ.ensures c.in-False.is in
    false_node is c.constant.ensures refl

pub returns-in-False-clause-edge : goal.returns-in-False-clause-edge
returns-in-False-clause-edge c = rw c.constant.ensures (kind_at-within c.args.nodes.now.items 0 False c.requires.sound.false_first)

pub returns-in-False-clause-grows : goal.returns-in-False-clause-grows
returns-in-False-clause-grows c = Grows-itself c.args.nodes.now.items c.requires.sound

pub returns-then-node_id-start-clause-copies : goal.returns-then-node_id-start-clause-copies
returns-then-node_id-start-clause-copies c =
    let is = kind_read c.args.from.now.nodes c.nodes.result.now c.args.id Leaf c.typ.result.now c.requires.there c.nodes.ensures.value c.typ.ensures c.in-Leaf.is in
    latch_leaf is (rw c.node_id.ensures at c.if-node_id-start.true) refl refl

pub returns-then-node_id-start-clause-edge : goal.returns-then-node_id-start-clause-edge
returns-then-node_id-start-clause-edge c = below_start (image_at c.args.images.now c.args.id).node_id c.args.start (length c.args.nodes.now.items) (rw c.node_id.ensures at c.if-node_id-start.true) c.requires.start

pub returns-then-node_id-start-clause-grows : goal.returns-then-node_id-start-clause-grows
returns-then-node_id-start-clause-grows c = Grows-itself c.args.nodes.now.items c.requires.sound

pub image_of-first-requires : goal.image_of-first-requires
image_of-first-requires c =
    let is = kind_read c.args.from.now.nodes c.nodes.result.now c.args.id (And c.in-And.fanin0 c.in-And.fanin1) c.typ.result.now c.requires.there c.nodes.ensures.value c.typ.ensures c.in-And.is in
    (operands_there c.args.from.now c.args.id c.in-And.fanin0 c.in-And.fanin1 c.args.images.now c.nodes.ensures.circuit c.requires.there c.requires.table is).0

pub image_of-second-requires : goal.image_of-second-requires
image_of-second-requires c =
    let is = kind_read c.args.from.now.nodes c.nodes.result.now c.args.id (And c.in-And.fanin0 c.in-And.fanin1) c.typ.result.now c.requires.there c.nodes.ensures.value c.typ.ensures c.in-And.is in
    (operands_there c.args.from.now c.args.id c.in-And.fanin0 c.in-And.fanin1 c.args.images.now c.nodes.ensures.circuit c.requires.there c.requires.table is).1

pub new_and_node-requires-clause-sound : goal.new_and_node-requires-clause-sound
new_and_node-requires-clause-sound c = c.requires.sound

pub new_and_node-requires-clause-first : goal.new_and_node-requires-clause-first
new_and_node-requires-clause-first c =
    let is = kind_read c.args.from.now.nodes c.nodes.result.now c.args.id (And c.in-And.fanin0 c.in-And.fanin1) c.typ.result.now c.requires.there c.nodes.ensures.value c.typ.ensures c.in-And.is in
    rw c.image_of-first.ensures (c.requires.images c.in-And.fanin0.node_id (c.nodes.ensures.circuit.nodes.ordered.first_before c.args.id c.in-And.fanin0 c.in-And.fanin1 is))

pub new_and_node-requires-clause-second : goal.new_and_node-requires-clause-second
new_and_node-requires-clause-second c =
    let is = kind_read c.args.from.now.nodes c.nodes.result.now c.args.id (And c.in-And.fanin0 c.in-And.fanin1) c.typ.result.now c.requires.there c.nodes.ensures.value c.typ.ensures c.in-And.is in
    rw c.image_of-second.ensures (c.requires.images c.in-And.fanin1.node_id (c.nodes.ensures.circuit.nodes.ordered.second_before c.args.id c.in-And.fanin0 c.in-And.fanin1 is))

pub returns-in-And-clause-edge : goal.returns-in-And-clause-edge
returns-in-And-clause-edge c = IfOk-weaker c.new_and_node.result _ _ (λ e gives. gives.there) c.new_and_node.ensures.gives

pub returns-in-And-clause-grows : goal.returns-in-And-clause-grows
returns-in-And-clause-grows c = c.new_and_node.ensures.gates.grows

pub new_input-requires : goal.new_input-requires
new_input-requires c = c.requires.sound

pub returns-else-node_id-start-clause-copies : goal.returns-else-node_id-start-clause-copies
returns-else-node_id-start-clause-copies c =
    let is = kind_read c.args.from.now.nodes c.nodes.result.now c.args.id Leaf c.typ.result.now c.requires.there c.nodes.ensures.value c.typ.ensures c.in-Leaf.is in
    let high = rw c.node_id.ensures at c.if-node_id-start.false in
    from_both c.new_input.result _ _ _ (λ e edge leaf. other_leaf is high edge leaf) c.new_input.ensures.edge c.new_input.ensures.leaf

pub returns-else-node_id-start-clause-edge : goal.returns-else-node_id-start-clause-edge
returns-else-node_id-start-clause-edge c = from_both c.new_input.result _ _ _ (λ e edge leaf. leaf_in_range c.args.nodes.now.items c.new_input.new.nodes.items e edge leaf) c.new_input.ensures.edge c.new_input.ensures.leaf

pub returns-else-node_id-start-clause-inputs : goal.returns-else-node_id-start-clause-inputs
returns-else-node_id-start-clause-inputs c =
    let old = c.args.nodes.now.items in
    from_both c.new_input.result _ _ _ (λ e leaf input. input ∙ ap (λ ns. c.args.inputs.now.items ++ ns) (sym (ap (leaves_after (length old)) leaf ∙ added_leaves-leaf old))) c.new_input.ensures.leaf c.new_input.ensures.input

pub returns-else-node_id-start-clause-err : goal.returns-else-node_id-start-clause-err
returns-else-node_id-start-clause-err c = c.new_input.ensures.err

pub returns-else-node_id-start-clause-grows : goal.returns-else-node_id-start-clause-grows
returns-else-node_id-start-clause-grows c = c.new_input.ensures.grows

pub returns-in-False-clause-inputs : goal.returns-in-False-clause-inputs
returns-in-False-clause-inputs c = no_more c.args.inputs.now.items _ (leaves_after-all c.args.nodes.now.items)

pub returns-then-node_id-start-clause-inputs : goal.returns-then-node_id-start-clause-inputs
returns-then-node_id-start-clause-inputs c = no_more c.args.inputs.now.items _ (leaves_after-all c.args.nodes.now.items)

pub returns-in-And-clause-inputs : goal.returns-in-And-clause-inputs
returns-in-And-clause-inputs c = if_ok c.new_and_node.result _ (λ e. no_more c.args.inputs.now.items _ (added_leaves-gates c.args.nodes.now.items c.new_and_node.new.nodes.items c.new_and_node.ensures.gates))

pub returns-in-And-clause-err : goal.returns-in-And-clause-err
returns-in-And-clause-err c = on_err c.new_and_node.result refl
