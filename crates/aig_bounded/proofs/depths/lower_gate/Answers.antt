use Rattle.std.proofs.Common.{◌<◌, length, arith, inl, inr, refl}
use Rattle.aig_circuit.specs.declared.node.AigNodeType.TheVariants.{And}
use Rattle.aig_bounded.proofs.Attained.{operand_read}
use Rattle.aig_bounded.proofs.Stepped.{kind_read}
use Rattle.aig_bounded.proofs.depths.lower_gate.Goals as goal

pub returns-in-And-clause-read : goal.returns-in-And-clause-read
returns-in-And-clause-read c = λ d same read.
    let a = c.in-And.fanin0 in
    let b = c.in-And.fanin1 in
    let nodes = c.args.nodes.now in
    let ds = c.args.depths.now in
    let kind = kind_read nodes nodes c.args.id _ (And a b) c.typ.result.now c.requires.there refl c.typ.ensures c.in-And.is in
    let within : c.args.id < length ds = omega (arith, c.requires.there, c.requires.table) in
    c.lower-second.ensures.read d (λ low. operand_read d c.args.last ds nodes same c.args.id a b within kind read c.node_id-in-And.result (inr c.node_id-in-And.ensures) low)
    (c.lower-first.ensures.read d (λ low. operand_read d c.args.last ds nodes same c.args.id a b within kind read c.node_id.result (inl c.node_id.ensures) low) read)

pub returns-in-False-clause-read : goal.returns-in-False-clause-read
returns-in-False-clause-read c = λ d same read. read
