use Rattle.aig_base.proofs.Words.{◌≡◌, length, map, get_or, subst, sym, ap, ◌∙◌, arith, on_ok_weaker}
use Rattle.aig_circuit.proofs.Words.{latch_leaves, next_edges}
use Rattle.aig_circuit.specs.declared.node.AigNodeType.TheVariants.{Leaf}
use Rattle.aig_circuit.proofs.Trees.{kind_at-within}
use Rattle.aig_unroll.specs.Step.{HasLatchImages, CopiesAll, CopiesBelow, image_at}
use Rattle.aig_unroll.proofs.Counted.{all_copies}
use Rattle.aig_unroll.proofs.Table.{as_many_latchs, latch_images, marks_latches, state_of}
use Rattle.aig_unroll.proofs.nodes.copy_step.Goals as goal

pub copy_nodes-requires-clause-latches : goal.copy_nodes-requires-clause-latches
copy_nodes-requires-clause-latches c =
    let from = c.args.from.now in
    let current = c.args.latchs.now in
    let unset : c.len.result ≡ length c.args.nodes.now.items = omega arith in
    let has = subst (λ l. HasLatchImages l current (length l) c.len.result c.set_latch_images.new.images) c.latchs.ensures.value c.set_latch_images.ensures in
    let same = sym (as_many_latchs current from.latchs c.requires.leaves) in
    marks_latches from c.latchs.ensures.circuit current (length c.args.nodes.now.items) c.set_latch_images.new.images same (subst (λ n. HasLatchImages from.latchs current (length from.latchs) n c.set_latch_images.new.images) unset has) c.requires.next

pub returns-clause-copies : goal.returns-clause-copies
returns-clause-copies c =
    let from = c.args.from.now in
    let current = c.args.latchs.now in
    let old = c.args.nodes.now.items in
    let new = c.copy_nodes.new.nodes.items in
    let before = c.set_latch_images.new.images in
    let images = c.copy_nodes.new.images in
    let has = subst (λ l. HasLatchImages l current (length l) c.len.result c.set_latch_images.new.images) c.latchs.ensures.value c.set_latch_images.ensures in
    let same = sym (as_many_latchs current from.latchs c.requires.leaves) in
    let placed : map (image_at before) (latch_leaves from.latchs) ≡ next_edges current = latch_images from c.latchs.ensures.circuit current c.len.result before same has in
    let unset : c.len.result ≡ length old = omega arith in
    let state =
    state_of from c.latchs.ensures.circuit current (length old) before same (subst (λ n. HasLatchImages from.latchs current (length from.latchs) n before) unset has)
    (c.set_latch_images.auto.images ∙ c.requires.table) c.requires.leaves c.requires.next in
    on_ok_weaker {P = (CopiesBelow from old new before images (length from.nodes))} {Q = (CopiesAll from current old new images)} c.copy_nodes.result
    (λ copies. all_copies from c.latchs.ensures.circuit current old new before images placed state copies) c.copy_nodes.ensures.copies

pub set_latch_images-requires-clause-lengths : goal.set_latch_images-requires-clause-lengths
set_latch_images-requires-clause-lengths c = ap length c.latchs.ensures.value ∙ sym (as_many_latchs c.args.latchs.now c.args.from.now.latchs c.requires.leaves)

pub set_latch_images-requires-clause-leaves : goal.set_latch_images-requires-clause-leaves
set_latch_images-requires-clause-leaves c =
    let from = c.args.from.now in
    rw (c.latchs.ensures.value, c.requires.table) (λ k d h. kind_at-within from.nodes (get_or from.latchs k d).input Leaf (c.latchs.ensures.circuit.latchs k d h).leaf)

pub set_latch_images-requires-clause-distinct : goal.set_latch_images-requires-clause-distinct
set_latch_images-requires-clause-distinct c = rw c.latchs.ensures.value c.latchs.ensures.circuit.latchs_distinct

pub copy_nodes-requires-clause-sound : goal.copy_nodes-requires-clause-sound
copy_nodes-requires-clause-sound c = c.requires.sound

pub copy_nodes-requires-clause-table : goal.copy_nodes-requires-clause-table
copy_nodes-requires-clause-table c = c.set_latch_images.auto.images ∙ c.requires.table

pub returns-clause-grows : goal.returns-clause-grows
returns-clause-grows c = c.copy_nodes.ensures.grows
