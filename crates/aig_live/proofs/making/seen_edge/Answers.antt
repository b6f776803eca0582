use Rattle.aig_circuit.proofs.Building.{AddsGates-then}
use Rattle.aig_circuit.proofs.Words.{inverse}
use Rattle.std.proofs.Common.{arith}
use Rattle.aig_live.proofs.Made.{fold_few, seen_gives}
use Rattle.aig_live.proofs.making.seen_edge.Goals as goal

pub returns-clause-gives : goal.returns-clause-gives
returns-clause-gives c =
    seen_gives c.args.nodes.now.items c.new_and_node.new.nodes.items c.new_or_node.new.nodes.items
    c.args.own c.args.active c.args.e c.in_ok-now.now c.in_ok-seen.seen c.requires.sound
    c.requires.own c.in_ok-now.ensures.gates c.in_ok-now.ensures.gives c.in_ok-seen.ensures.gives

pub returns-clause-gates : goal.returns-clause-gates
returns-clause-gates c =
    AddsGates-then c.args.nodes.now.items c.new_and_node.new.nodes.items
    c.new_or_node.new.nodes.items
    c.in_ok-now.ensures.gates c.in_ok-seen.ensures.gates

pub returns-clause-few : goal.returns-clause-few
returns-clause-few c =
    let one = c.new_and_node.new.nodes.items in
    let new = c.new_or_node.new.nodes.items in
    omega (
      arith,
      fold_few c.args.nodes.now.items one c.args.active c.args.e c.in_ok-now.now
          c.in_ok-now.ensures.rule,
      fold_few one new (inverse c.args.own) (inverse c.in_ok-now.now)
          (inverse c.in_ok-seen.seen) c.in_ok-seen.ensures.rule,
    )
