use Rattle.std.proofs.Common.{◌&&◌, arith, subst}
use Rattle.aig_circuit.proofs.Words.{GivesEdge, edge_value}
use Rattle.aig_circuit.proofs.Building.{AddsGates-then}
use Rattle.aig_circuit.proofs.Words.{inverse}
use Rattle.aig_circuit.specs.declared.edge.AigEdge.{AigEdge}
use Rattle.aig_live.proofs.Made.{fold_few, choice_gives}
use Rattle.aig_live.proofs.making.choice.Goals as goal

pub returns-clause-gives : goal.returns-clause-gives
returns-clause-gives c =
    let one = c.new_and_node.new.nodes.items in
    let two = c.new_and_node-2.new.nodes.items in
    choice_gives c.args.nodes.now.items one two c.new_or_node.new.nodes.items c.args.which
    c.args.then c.args.other c.in_ok-left.left c.in_ok-right.right c.in_ok-either.either
    c.requires.sound c.requires.which c.requires.other c.in_ok-left.ensures.gates
    c.in_ok-left.ensures.gives c.in_ok-right.ensures.gates
    (subst (λ (n : AigEdge). GivesEdge two
    (λ x. edge_value one x n && edge_value one x c.args.other) c.in_ok-right.right)
    c.not.ensures c.in_ok-right.ensures.gives)
    c.in_ok-either.ensures.gives

pub returns-clause-gates : goal.returns-clause-gates
returns-clause-gates c =
    AddsGates-then c.args.nodes.now.items c.new_and_node.new.nodes.items
    c.new_or_node.new.nodes.items
    c.in_ok-left.ensures.gates
    (AddsGates-then c.new_and_node.new.nodes.items c.new_and_node-2.new.nodes.items
    c.new_or_node.new.nodes.items
    c.in_ok-right.ensures.gates c.in_ok-either.ensures.gates)

pub returns-clause-few : goal.returns-clause-few
returns-clause-few c =
    let one = c.new_and_node.new.nodes.items in
    let two = c.new_and_node-2.new.nodes.items in
    let new = c.new_or_node.new.nodes.items in
    omega (
      arith,
      fold_few c.args.nodes.now.items one c.args.which c.args.then c.in_ok-left.left
          c.in_ok-left.ensures.rule,
      fold_few one two c.not.result c.args.other c.in_ok-right.right c.in_ok-right.ensures.rule,
      fold_few two new (inverse c.in_ok-left.left) (inverse c.in_ok-right.right)
          (inverse c.in_ok-either.either) c.in_ok-either.ensures.rule,
    )
