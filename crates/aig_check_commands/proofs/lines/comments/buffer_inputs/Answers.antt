use Rattle.aig_check_commands.proofs.Words.{ℕ, List, Ok, ap, subst, ◌∙◌, arith, enumerate_from, flat_map, length-enumerate_from, Contains-get_or, Circuit, BuffersOrStops, Buffers-turn, all_done, failed_turn, input_line}
use Rattle.aig_base.proofs.Words.{rules}
use Rattle.aig_base.specs.declared.stream.StreamFault.{StreamFault}
use Rattle.aig_check_commands.proofs.line_lemmas.Commenting.{line_at}
use Rattle.aig_unroll.proofs.Others.{inputs_are_others}
use Rattle.aig_check_commands.specs.Comments.{input_lines}
use Rattle.aig_check_commands.proofs.lines.comments.buffer_inputs.Goals as goal

pub place-requires-clause-leaf : goal.place-requires-clause-leaf
place-requires-clause-leaf g c =
    let circuit = c.args.asked.now.circuit in
    let has = rw (c.inputs-inputs.ensures.value, c.circuit.ensures.value) at (Contains-get_or c.inputs-inputs.result.now c.loop-i.i 0 c.loop-i-test.true) in
    rw (c.requires.places, c.inputs-inputs.ensures.value, c.circuit.ensures.value)
    (inputs_are_others circuit c.circuit.ensures.unrolled.circuit _ has)

pub new-place-requires : goal.new-place-requires
new-place-requires g c =
    let low = c.requires.few c.loop-i.i 0 (rw (c.inputs-inputs.ensures.value, c.circuit.ensures.value) at c.loop-i-test.true) in
    rw (c.place.ensures, c.requires.places, c.unrolled-unrolled.ensures.value, c.inputs-inputs.ensures.value, c.circuit.ensures.value) low

pub returns-in_err-buffer_literal : goal.returns-in_err-buffer_literal
unfolding input_lines
returns-in_err-buffer_literal g c =
    let line = input_line c.args.asked.now.circuit c.args.asked.now.unrolled c.args.t in
    let ns = c.inputs-inputs.result.now in
    let turn = rw (c.lit.ensures, c.new-place.ensures, c.place.ensures, c.requires.places, c.unrolled-unrolled.ensures.value, ← line_at line ns c.loop-i.i 0 c.loop-i-test.true) at c.in_err-buffer_literal.ensures in
    subst (λ (ms : List ℕ). BuffersOrStops g.W.Sink.held g.W.Sink.failed c.args.buffer.now c.args.w.now c.from_residual.result (flat_map line (enumerate_from 0 ms)) c.buffer_literal.new.buffer c.buffer_literal.new.w) (c.inputs-inputs.ensures.value ∙ ap (λ (x : Circuit). x.inputs) c.circuit.ensures.value)
    (failed_turn line (enumerate_from 0 ns) c.loop-i.i (0, 0) (omega (arith, length-enumerate_from 0 ns)) c.loop-i.invariant turn (search rules))

pub loop-i-preserved : goal.loop-i-preserved
loop-i-preserved g c =
    let line = input_line c.args.asked.now.circuit c.args.asked.now.unrolled c.args.t in
    let ns = c.inputs-inputs.result.now in
    let turn = rw (c.lit.ensures, c.new-place.ensures, c.place.ensures, c.requires.places, c.unrolled-unrolled.ensures.value, ← line_at line ns c.loop-i.i 0 c.loop-i-test.true) at c.in_ok-buffer_literal.ensures.ok in
    Buffers-turn line (enumerate_from 0 ns) c.loop-i.i (0, 0) (omega (arith, length-enumerate_from 0 ns)) c.loop-i.invariant turn

pub returns : goal.returns
unfolding input_lines
returns g c =
    let line = input_line c.args.asked.now.circuit c.args.asked.now.unrolled c.args.t in
    let ns = c.inputs-inputs.result.now in
    subst (λ (ms : List ℕ). BuffersOrStops {T = Unit {0}} {E = StreamFault} g.W.Sink.held g.W.Sink.failed c.args.buffer.now c.args.w.now (Ok tt) (flat_map line (enumerate_from 0 ms)) c.loop-i.buffer c.loop-i.w) (c.inputs-inputs.ensures.value ∙ ap (λ (x : Circuit). x.inputs) c.circuit.ensures.value)
    (all_done line (enumerate_from 0 ns) c.loop-i.i (omega (arith, length-enumerate_from 0 ns)) c.loop-i.invariant)
