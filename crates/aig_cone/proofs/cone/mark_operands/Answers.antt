use Rattle.std.proofs.Common.{arith, length-set, sym, true, ◌∙◌}
use Rattle.aig_circuit.specs.declared.node.AigNodeType.TheVariants.{And}
use Rattle.aig_cone.proofs.Marking.{AddsMarks-operands}
use Rattle.aig_cone.proofs.Searching.{kind-of}
use Rattle.aig_cone.proofs.cone.mark_operands.Goals as goal

pub bounds-marks-node_id : goal.bounds-marks-node_id
bounds-marks-node_id c =
    let gate = kind-of c.args.nodes.now c.args.id _ (And c.in-And.fanin0 c.in-And.fanin1) c.requires.there (sym c.typ.ensures ∙ c.in-And.is) in
    let low = c.requires.sound.ordered.first_before c.args.id c.in-And.fanin0 c.in-And.fanin1 gate in
    omega (arith, low, c.node_id.ensures, c.requires.lengths, c.requires.there)

pub returns-in-And : goal.returns-in-And
returns-in-And c =
    let nodes = c.args.nodes.now in
    let a = c.in-And.fanin0 in
    let b = c.in-And.fanin1 in
    let gate = kind-of nodes c.args.id _ (And a b) c.requires.there (sym c.typ.ensures ∙ c.in-And.is) in
    let low_a = c.requires.sound.ordered.first_before c.args.id a b gate in
    let low_b = c.requires.sound.ordered.second_before c.args.id a b gate in
    rw (c.node_id.ensures, c.node_id-2.ensures)
    (AddsMarks-operands nodes c.args.marks.now c.args.id a b gate c.if-marks-id.true (omega (arith, low_a, c.requires.lengths, c.requires.there)) (omega (arith, low_b, c.requires.lengths, c.requires.there)))

pub bounds-marks-node_id-2 : goal.bounds-marks-node_id-2
bounds-marks-node_id-2 c =
    let gate = kind-of c.args.nodes.now c.args.id _ (And c.in-And.fanin0 c.in-And.fanin1) c.requires.there (sym c.typ.ensures ∙ c.in-And.is) in
    let low = c.requires.sound.ordered.second_before c.args.id c.in-And.fanin0 c.in-And.fanin1 gate in
    omega (arith, low, c.node_id-2.ensures, c.requires.lengths, c.requires.there, length-set c.args.marks.now c.node_id.result true)
