use Rattle.std.proofs.Common.{ℕ, ◌+◌, List, None, Option, arith, sym, ap, ◌∙◌}
use Rattle.aig_base.proofs.Words.{insert, take_all}
use Rattle.aig_circuit.specs.View.{names_of}
use Rattle.aig_join.specs.Names.{with_name}
use Rattle.aig_live.specs.Names.{numbered, with_row}
use Rattle.aig_live.proofs.Rows.{numbered-at, numbered-long, row-more}
use Rattle.aig_live.proofs.naming.put_numbered.Goals as goal

pub loop-i-preserved : goal.loop-i-preserved
loop-i-preserved c =
    let word = c.args.word.now in
    let first = c.args.first in
    let count = c.args.count in
    let i = c.loop-i.i in
    let names = names_of c.loop-i.names.entries in
    c.in_ok-put_name.ensures
    ∙ ap (λ (text : List ℕ). insert names (c.args.node + i) text) c.in_ok-name.ensures.ok
    ∙ ap (λ (o : Option (List ℕ)). with_name names (c.args.node + i) o)
    (sym (numbered-at word first count i None c.loop-i-test.true))
    ∙ row-more (names_of c.args.names.now.entries) names c.args.node (numbered word first count) i
    None (omega (arith, numbered-long word first count, c.loop-i-test.true)) c.loop-i.invariant

pub returns : goal.returns
returns c =
    let all = numbered c.args.word.now c.args.first c.args.count in
    let long = numbered-long c.args.word.now c.args.first c.args.count in
    c.loop-i.invariant
    ∙ ap (with_row (names_of c.args.names.now.entries) c.args.node)
    (take_all c.loop-i.i all (omega (arith, long, c.loop-i-test.false)))
