use Rattle.aig_base.proofs.Words.{◌<◌, length, arith, nat_tests}
use Rattle.aig_change.proofs.First.{JoinsFirst-set}
use Rattle.aig_change.proofs.Moving.{All-grown}
use Rattle.aig_change.proofs.joining.join_first.Goals as goal

pub returns-clause-joins : goal.returns-clause-joins
returns-clause-joins c =
    let test = c.is_empty.ensures in
    let no = c.if-is_empty.false in
    let long = c.args.edges.now.ok.0 in
    let some : 0 < length c.args.edges.now.items = grind (arith, nat_tests) in
    JoinsFirst-set c.args.nodes.now.items c.new_and_node.new.nodes.items c.args.next c.in_ok-joined.joined c.index.result.now c.args.edges.now.items
    some c.index.ensures (All-grown _ _ _ c.in_ok-joined.ensures.gates.grows c.requires.edges) c.in_ok-joined.ensures.rule c.in_ok-joined.ensures.gives
