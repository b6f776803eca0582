use Rattle.aig_base.proofs.Words.{◌≡◌, ◌<◌, ◌+◌, ◌∙◌, ◌++◌, ◌∷◌, ◌&&◌, [], Bool, List, ap, sym, get_or, length, map, take, arith, list_all}
use Rattle.std.proofs.lemmas.List.{length_push, map_more, take_all}
use Rattle.std.proofs.lemmas.List.Folds.{list_all_at, list_all_more}
use Rattle.aig_circuit.specs.declared.node.AigNode.{AigNode}
use Rattle.aig_ordering.specs.Gates.{node_in, nodes_in}
use Rattle.aig_ordering.specs.Numbers.{has_operands, with_numbers}
use Rattle.aig_ordering.proofs.NodesIn.{length-nodes_in, nodes_in-at}
use Rattle.aig_ordering.proofs.gate_nodes.nodes.Goals as goal
use Rattle.aig_ordering.proofs.gate_nodes.nodes.Goals.{After-push_numbered}

module _ (c : After-push_numbered) where
  -- the node of the variable, with the numbers of variables
  abbrev old : AigNode
  old = node_in c.loop-i.i c.index-gates-i.result

  within : c.loop-i.i < length (nodes_in c.args.gates.now)
  within = omega (arith, length-nodes_in c.args.gates.now)

  -- it is the next of the nodes
  next_is : get_or (nodes_in c.args.gates.now) c.loop-i.i old ≡ old
  next_is = nodes_in-at c.args.gates.now c.loop-i.i old c.index-gates-i.result c.loop-i-test.true ∙ ap (node_in c.loop-i.i) (sym c.index-gates-i.is)

  abbrev test : AigNode → Bool
  test node = has_operands c.args.numbers.now.table.now node.typ

pub returns-in_default : goal.returns-in_default
returns-in_default c =
    let here = (goal.at.returns-in_default c).After-push_numbered in
    list_all_at (test here) (nodes_in c.args.gates.now) c.loop-i.i (old here) (within here) (ap (test here) (next_is here) ∙ c.in_default.ensures.node)

pub push_numbered-requires : goal.push_numbered-requires
push_numbered-requires c = let new = c.loop-i.new in omega (arith, c.loop-i.invariant.count, c.loop-i.invariant.room, new.ok.0)

pub loop-i-preserved : goal.loop-i-preserved
loop-i-preserved c =
    let here = (goal.at.loop-i-preserved c).After-push_numbered in
    let nodes = nodes_in c.args.gates.now in
    let node = old here in
    let numbered = with_numbers c.args.numbers.now.table.now in
    let made = c.in-Some.ensures.node in
    record {
      have =
          list_all_more (test here) nodes c.loop-i.i node (within here)
          ∙ ap (λ b. b && test here (get_or nodes c.loop-i.i node)) c.loop-i.invariant.have ∙ ap (test here) (next_is here) ∙ made.0;
      made =
          made.1 ∙ ap (λ (ns : List AigNode). ns ++ numbered node ∷ []) c.loop-i.invariant.made
          ∙ ap (λ (x : AigNode). map numbered (take c.loop-i.i nodes) ++ x ∷ []) (sym (ap numbered (next_is here)))
          ∙ sym (map_more numbered nodes c.loop-i.i node (within here));
      count = ap length made.1 ∙ length_push c.loop-i.new.items (numbered node) ∙ ap (λ n. n + 1) c.loop-i.invariant.count;
      room = omega (arith, c.push_numbered.ensures.capacity, c.loop-i.invariant.room);
    }

pub returns : goal.returns
returns c =
    let nodes = nodes_in c.args.gates.now in
    let all = take_all c.loop-i.i nodes (omega (arith, length-nodes_in c.args.gates.now)) in (
      ap (list_all (λ (node : AigNode). has_operands c.args.numbers.now.table.now node.typ)) (sym all) ∙ c.loop-i.invariant.have,
      c.loop-i.invariant.made ∙ ap (map (with_numbers c.args.numbers.now.table.now)) all,
    )
