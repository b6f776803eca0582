use Rattle.std.proofs.Common.{sym, ◌∙◌, arith}
use Rattle.aig_circuit.specs.declared.node.AigNodeType.TheVariants.{And}
use Rattle.aig_circuit.proofs.Trees.{kind_at-read}
use Rattle.aig_cnf.specs.Cnf.{plain}
use Rattle.aig_cnf.proofs.Matching.{HasForm-or}
use Rattle.aig_cnf.proofs.form.find_form.Goals as goal

pub find_pattern-requires-clause-first : goal.find_pattern-requires-clause-first
find_pattern-requires-clause-first c =
    let kind = kind_at-read c.args.nodes.now c.args.id _ (And c.in-And.fanin0 c.in-And.fanin1) c.requires.there (sym c.in-And.is ∙ c.typ.ensures) in
    omega (arith, c.requires.ordered.first_before c.args.id c.in-And.fanin0 c.in-And.fanin1 kind)

pub find_pattern-requires-clause-second : goal.find_pattern-requires-clause-second
find_pattern-requires-clause-second c =
    let kind = kind_at-read c.args.nodes.now c.args.id _ (And c.in-And.fanin0 c.in-And.fanin1) c.requires.there (sym c.in-And.is ∙ c.typ.ensures) in
    omega (arith, c.requires.ordered.second_before c.args.id c.in-And.fanin0 c.in-And.fanin1 kind)

pub returns-then-optimize : goal.returns-then-optimize
returns-then-optimize c =
    let kind = kind_at-read c.args.nodes.now c.args.id _ (And c.in-And.fanin0 c.in-And.fanin1) c.requires.there (sym c.in-And.is ∙ c.typ.ensures) in
    rw c.unwrap_or.ensures (HasForm-or c.args.nodes.now c.args.optimize c.args.id c.in-And.fanin0 c.in-And.fanin1 c.find_pattern.result kind c.if-optimize.true c.find_pattern.ensures)

pub returns-else-optimize : goal.returns-else-optimize
returns-else-optimize c =
    plain (kind_at-read c.args.nodes.now c.args.id _ (And c.in-And.fanin0 c.in-And.fanin1) c.requires.there (sym c.in-And.is ∙ c.typ.ensures)) c.if-optimize.false
