use Rattle.aig_base.proofs.Words.{◌≡◌, None, le-leb, ◌+◌, ◌-◌, ◌<◌, ◌≤◌, ℕ, length, ap, subst, ◌∙◌, arith, min, err_from_is_err_and}
use Rattle.std.proofs.Math.Nat.{min-le_left, min-le_right}
use Rattle.aig_bounded.specs.Exact.{frame_to}
use Rattle.aig_bounded.specs.Frames.{net_of}
use Rattle.aig_bounded.specs.Steps.{HasImages, IsFrame, is_read}
use Rattle.std.specs.Prelude.{slice_index, slice_index_or}
use Rattle.aig_bounded.proofs.Exactly.{IsFrame-more, IsFrame-none, IsFrame-unread, operands_read, unread_at}
use Rattle.aig_bounded.proofs.Counted.{AddsUpTo-done, AddsUpTo-stops}
use Rattle.aig_bounded.proofs.Extended.{AreFrames-next_step}
use Rattle.aig_bounded.proofs.Stepped.{HasStates-extends, ImagesSoFar-more, ImagesSoFar-none, ImagesSoFar-unread, known_of, operands_shown, place_of}
use Rattle.aig_bounded.proofs.frames.Frames.add_nodes.Goals as goal
use Rattle.aig_bounded.proofs.frames.Frames.add_nodes.Goals.{then-depths-id+in_ok-image, else-depths-id}

reaches : (i n : ℕ) → i ≤ n → n ≤ i → i ≡ n
reaches i n p q = omega arith

pub loop-id-init : goal.loop-id-init
loop-id-init c =
    record {
      so_far = ImagesSoFar-none c.args.circuit.now c.args.step c.args.left c.args.depths.now c.args.self.now c.args.images.now c.requires.frames;
      exact = IsFrame-none c.args.circuit.now c.args.step (is_read c.args.depths.now c.args.left) (λ n. slice_index_or c.args.states.now n None) c.args.self.now c.args.images.now;
      few = omega arith;
    }

pub loop-id-preserved : goal.loop-id-preserved
loop-id-preserved c =
    let circuit = c.args.circuit.now in
    let i = c.loop-id.id in
    let within : i < length c.loop-id.images = omega (arith, ap length c.nodes-id-end.ensures.value) in
    elim c.if-depths-id.branch [
      | then-depths-id+in_ok-image w ↦
          rw (w.self-is, w.images-is) (record {
            so_far = ImagesSoFar-more circuit c.args.step c.args.left i c.args.depths.now c.args.self.now c.loop-id.self w.image.new.self c.loop-id.images w.in_ok-image.image within w.in_ok-image.ensures.makes c.loop-id.invariant.so_far;
            exact = IsFrame-more circuit c.args.step (is_read c.args.depths.now c.args.left) (λ n. slice_index_or c.args.states.now n None) (net_of c.args.self.now) i c.loop-id.self w.image.new.self c.loop-id.images c.loop-id.invariant.exact w.in_ok-image.image within (le-leb (slice_index c.args.depths.now i) c.args.left w.if-depths-id.true)
                (λ a b kind. operands_read circuit c.args.left i (c.args.left + c.args.step) c.args.depths.now a b c.nodes-id-end.ensures.circuit c.requires.depths (omega arith) w.if-depths-id.true kind) w.in_ok-image.ensures.exact;
            few = omega (arith, w.in_ok-image.ensures.size.few, c.loop-id.invariant.few, min-le_left i 1, min-le_right i 1);
          })
      | else-depths-id w ↦
          rw (w.self-is, w.images-is) (record {
            so_far = ImagesSoFar-unread circuit c.args.step c.args.left i c.args.depths.now c.args.self.now c.loop-id.self c.loop-id.images w.if-depths-id.false c.loop-id.invariant.so_far;
            exact = IsFrame-unread circuit c.args.step (is_read c.args.depths.now c.args.left) (λ n. slice_index_or c.args.states.now n None) (net_of c.args.self.now) i c.loop-id.self c.loop-id.self c.loop-id.images c.loop-id.invariant.exact (unread_at c.args.depths.now i c.args.left w.if-depths-id.false);
            few = omega (arith, c.loop-id.invariant.few);
          })
    ]

pub image-requires-clause-frames : goal.image-requires-clause-frames
image-requires-clause-frames c = c.loop-id.invariant.so_far.frames

pub image-requires-clause-operands : goal.image-requires-clause-operands
image-requires-clause-operands c =
    operands_shown c.args.circuit.now c.args.step c.args.left c.loop-id.id (c.args.left + c.args.step) c.args.depths.now c.loop-id.self c.loop-id.images c.nodes-id-end.ensures.circuit c.requires.depths (omega arith) c.if-depths-id.true c.loop-id.invariant.so_far.has

pub image-requires-clause-known : goal.image-requires-clause-known
image-requires-clause-known c =
    known_of c.args.circuit.now c.args.step c.args.left c.loop-id.id c.args.depths.now c.loop-id.self c.args.states.now (rw c.nodes-id-end.ensures.value at c.loop-id-test.true) c.if-depths-id.true
    (HasStates-extends c.args.circuit.now c.args.step c.args.left c.args.depths.now c.args.self.now c.loop-id.self c.args.states.now c.loop-id.invariant.so_far.extends c.requires.states)

pub image-requires-clause-free : goal.image-requires-clause-free
image-requires-clause-free c = λ leaf is.
    place_of c.args.circuit.now c.args.step c.args.left c.loop-id.id c.args.depths.now c.loop-id.self c.args.states.now (rw c.nodes-id-end.ensures.value at c.loop-id-test.true) leaf is
    (HasStates-extends c.args.circuit.now c.args.step c.args.left c.args.depths.now c.args.self.now c.loop-id.self c.args.states.now c.loop-id.invariant.so_far.extends c.requires.states)

pub returns-clause-shows : goal.returns-clause-shows
returns-clause-shows c =
    let all : c.loop-id.id ≡ length c.args.circuit.now.nodes = reaches c.loop-id.id (length c.nodes-id-end.result.now) c.loop-id.auto.id-end c.loop-id-test.false ∙ ap length c.nodes-id-end.ensures.value in
    subst (λ n. HasImages c.args.circuit.now c.args.step c.args.depths.now c.args.left n c.loop-id.self c.loop-id.images) all c.loop-id.invariant.so_far.has

pub returns-clause-exact : goal.returns-clause-exact
returns-clause-exact c =
    let all : c.loop-id.id ≡ length c.args.circuit.now.nodes = reaches c.loop-id.id (length c.nodes-id-end.result.now) c.loop-id.auto.id-end c.loop-id-test.false ∙ ap length c.nodes-id-end.ensures.value in
    let read = is_read c.args.depths.now c.args.left in
    subst (λ n. IsFrame read (frame_to c.args.circuit.now c.args.step read (λ m. slice_index_or c.args.states.now m None) (net_of c.args.self.now) n) c.loop-id.self c.loop-id.images) all c.loop-id.invariant.exact

pub returns-clause-frames : goal.returns-clause-frames
returns-clause-frames c = AreFrames-next_step c.args.circuit.now c.args.step c.loop-id.id c.loop-id.self c.loop-id.invariant.so_far.frames

pub returns-clause-extends : goal.returns-clause-extends
returns-clause-extends c = c.loop-id.invariant.so_far.extends

pub returns-in_err-image-clause-size : goal.returns-in_err-image-clause-size
returns-in_err-image-clause-size c =
    let p = err_from_is_err_and c.from_residual.result c.from_residual.ensures.1 in
    let i = c.loop-id.id in
    let count : length c.nodes-id-end.result.now ≡ length c.args.circuit.now.nodes = ap length c.nodes-id-end.ensures.value in
    rw (p.1, p.2) (AddsUpTo-stops (length c.args.circuit.now.nodes - 1) (min i 1) c.args.self.now c.loop-id.self c.image.new.self c.in_err-image.field-0.0 c.loop-id.invariant.so_far.extends.limit (omega (arith, c.loop-id.invariant.few, c.loop-id-test.true, count, min-le_left i 1, min-le_right i 1)) c.in_err-image.ensures.size)

pub returns-clause-size : goal.returns-clause-size
returns-clause-size c =
    let all : c.loop-id.id ≡ length c.args.circuit.now.nodes = reaches c.loop-id.id (length c.nodes-id-end.result.now) c.loop-id.auto.id-end c.loop-id-test.false ∙ ap length c.nodes-id-end.ensures.value in
    AddsUpTo-done (length c.args.circuit.now.nodes - 1) c.args.self.now c.loop-id.self tt (omega (arith, c.loop-id.invariant.few, all))
