use Rattle.aig_base.proofs.Words.{◌≡◌, ◌<◌, ◌≤◌, ◌++◌, ℕ, List, append_assoc, append-nil, length, refl, take, subst, sym, ap, ◌∙◌, arith, take_at}
use Rattle.aig_circuit.proofs.Building.{Grows-longer, Grows-then}
use Rattle.aig_unroll.specs.Places.{leaves_after}
use Rattle.aig_unroll.specs.Step.{Copies}
use Rattle.aig_unroll.proofs.Added.{leaves_after-more}
use Rattle.aig_unroll.proofs.Copied.{copies_none, copies_more, leaves_after-all}
use Rattle.aig_unroll.proofs.nodes.copy_nodes.Goals as goal

-- two orders make one number
reaches : (i n : ℕ) → i ≤ n → n ≤ i → i ≡ n
reaches i n p q = omega arith

pub loop-id-preserved : goal.loop-id-preserved
loop-id-preserved c =
    let from = c.args.from.now in
    let within = c.loop-id-test.true in
    let start : c.len-start.result ≡ length c.args.nodes.now.items = omega arith in
    let inside : c.loop-id.id < length from.nodes = omega (arith, ap length c.nodes-id-end.ensures.value) in
    let there : c.loop-id.id < length c.loop-id.images = omega arith in
    let copies = c.in_ok-image.ensures.copies in
    let old = c.args.nodes.now.items in
    let mid = c.loop-id.nodes.items in
    let new = c.copy_node.new.nodes.items in
    let first = c.args.inputs.now.items in
    let so_far = c.loop-id.invariant.copies in
    let longer : length old ≤ length mid = Grows-longer old mid so_far.grows in
    record {
      copies =
          copies_more from c.nodes-id-end.ensures.circuit old mid new c.args.images.now c.loop-id.images c.loop-id.id c.in_ok-image.image inside there
          so_far c.in_ok-image.ensures.grows c.in_ok-image.ensures.edge c.requires.table c.requires.latches
          (subst (λ start. Copies from c.loop-id.id start mid new c.loop-id.images c.in_ok-image.image) start copies);
      inputs =
          c.in_ok-image.ensures.inputs ∙ ap (λ ns. ns ++ leaves_after (length mid) new) c.loop-id.invariant.inputs
          ∙ append_assoc first (leaves_after (length old) mid) (leaves_after (length mid) new)
          ∙ ap (λ ns. first ++ ns) (sym (leaves_after-more (length old) mid new longer c.in_ok-image.ensures.grows));
    }

pub loop-id-init : goal.loop-id-init
loop-id-init c = record {
  copies = copies_none c.args.from.now c.args.nodes.now.items c.args.images.now c.requires.sound c.requires.table;
  inputs = sym (ap (λ ns. c.args.inputs.now.items ++ ns) (leaves_after-all c.args.nodes.now.items) ∙ append-nil c.args.inputs.now.items);
}

-- the first inputs stay
kept : (first more now : List ℕ) → now ≡ first ++ more → take (length first) now ≡ first
kept first more now is = ap (take (length first)) is ∙ take_at first more (length first) refl

pub copy_node-requires-clause-sound : goal.copy_node-requires-clause-sound
copy_node-requires-clause-sound c = c.loop-id.invariant.copies.grows.sound

pub copy_node-requires-clause-there : goal.copy_node-requires-clause-there
copy_node-requires-clause-there c = rw c.nodes-id-end.ensures.value at c.loop-id-test.true

pub copy_node-requires-clause-table : goal.copy_node-requires-clause-table
copy_node-requires-clause-table c = c.loop-id.invariant.copies.count

pub copy_node-requires-clause-images : goal.copy_node-requires-clause-images
copy_node-requires-clause-images c = c.loop-id.invariant.copies.there

pub copy_node-requires-clause-start : goal.copy_node-requires-clause-start
copy_node-requires-clause-start c =
    let start : c.len-start.result ≡ length c.args.nodes.now.items = omega arith in
    rw start c.loop-id.invariant.copies.grows.longer

pub returns-in_err-image-clause-grows : goal.returns-in_err-image-clause-grows
returns-in_err-image-clause-grows c = Grows-then c.args.nodes.now.items c.loop-id.nodes.items c.copy_node.new.nodes.items c.loop-id.invariant.copies.grows c.copy_node.ensures.grows

pub bounds-images-id : goal.bounds-images-id
bounds-images-id c = rw (c.loop-id.invariant.copies.count, ← c.nodes-id-end.ensures.value) c.loop-id-test.true

pub returns-clause-copies : goal.returns-clause-copies
returns-clause-copies c =
    let all : c.loop-id.id ≡ length c.args.from.now.nodes = reaches c.loop-id.id (length c.nodes-id-end.result.now) c.loop-id.auto.id-end c.loop-id-test.false ∙ ap length c.nodes-id-end.ensures.value in
    rw all at c.loop-id.invariant.copies

pub returns-clause-grows : goal.returns-clause-grows
returns-clause-grows c = c.loop-id.invariant.copies.grows

pub returns-clause-inputs : goal.returns-clause-inputs
returns-clause-inputs c = c.loop-id.invariant.inputs

pub returns-clause-kept : goal.returns-clause-kept
returns-clause-kept c = kept c.args.inputs.now.items (leaves_after (length c.args.nodes.now.items) c.loop-id.nodes.items) c.loop-id.inputs.items c.loop-id.invariant.inputs

pub returns-in_err-image-clause-kept : goal.returns-in_err-image-clause-kept
returns-in_err-image-clause-kept c =
    kept c.args.inputs.now.items (leaves_after (length c.args.nodes.now.items) c.loop-id.nodes.items) c.copy_node.new.inputs.items (c.in_err-image.ensures.err ∙ c.loop-id.invariant.inputs)
