use Rattle.aig_base.proofs.Words.{◌&&◌, sym, subst, IfOk-from_err, IfOk-weaker}
use Rattle.aig_circuit.proofs.Words.{inverse, edge_value, FoldsOrAdds, GivesEdge, IsInRange}
use Rattle.aig_circuit.proofs.Building.{AddsGates-then}
use Rattle.aig_circuit.proofs.Joining.{GivesEdge-both_or_neither}
use Rattle.aig_build.proofs.Joined.{still_there}
use Rattle.aig_build.proofs.build.both_or_neither.Goals as goal

pub returns-clause-gives : goal.returns-clause-gives
returns-clause-gives c =
    let one = c.new_and_node.new.nodes.items in
    let two = c.new_and_node-2.new.nodes.items in
    let new = c.new_or_node.new.nodes.items in
    let neither : GivesEdge two (λ x. edge_value one x (inverse c.args.fanin0) && edge_value one x (inverse c.args.fanin1)) c.in_ok-neither.neither = rw (c.not.ensures, c.not-2.ensures) at c.in_ok-neither.ensures.gives in
    IfOk-weaker c.new_or_node.result _ _ (λ e. GivesEdge-both_or_neither c.args.nodes.now.items one two new c.args.fanin0 c.args.fanin1 c.in_ok-both.both c.in_ok-neither.neither e c.requires.sound c.new_and_node.ensures.gates.grows c.new_and_node-2.ensures.gates.grows c.requires.first c.requires.second c.in_ok-both.ensures.gives neither) c.new_or_node.ensures.gives

pub returns-clause-gates : goal.returns-clause-gates
returns-clause-gates c = AddsGates-then _ _ _ c.new_and_node.ensures.gates (AddsGates-then _ _ _ c.new_and_node-2.ensures.gates c.new_or_node.ensures.gates)

pub returns-clause-rule : goal.returns-clause-rule
returns-clause-rule c =
    let one = c.new_and_node.new.nodes.items in
    let two = c.new_and_node-2.new.nodes.items in
    let is_neither : FoldsOrAdds one two (inverse c.args.fanin0) (inverse c.args.fanin1) c.in_ok-neither.neither = rw (c.not.ensures, c.not-2.ensures) at c.in_ok-neither.ensures.rule in
    IfOk-weaker c.new_or_node.result _ _ (λ e is_either. record {
      one = one;
      two = two;
      both = c.in_ok-both.both;
      neither = c.in_ok-neither.neither;
      is_both = c.in_ok-both.ensures.rule;
      is_neither = is_neither;
      is_either = is_either;
    }) c.new_or_node.ensures.rule

pub new_and_node-requires-clause-sound : goal.new_and_node-requires-clause-sound
new_and_node-requires-clause-sound c = c.requires.sound

pub new_and_node-requires-clause-first : goal.new_and_node-requires-clause-first
new_and_node-requires-clause-first c = c.requires.first

pub new_and_node-requires-clause-second : goal.new_and_node-requires-clause-second
new_and_node-requires-clause-second c = c.requires.second

pub returns-in_err-both-clause-gates : goal.returns-in_err-both-clause-gates
returns-in_err-both-clause-gates c = c.new_and_node.ensures.gates

pub new_and_node-requires-2-clause-sound : goal.new_and_node-requires-2-clause-sound
new_and_node-requires-2-clause-sound c = c.new_and_node.ensures.gates.grows.sound

pub new_and_node-requires-2-clause-first : goal.new_and_node-requires-2-clause-first
new_and_node-requires-2-clause-first c = subst (IsInRange c.new_and_node.new.nodes.items) (sym c.not.ensures) (still_there c.args.nodes.now.items c.new_and_node.new.nodes.items c.args.fanin0 c.new_and_node.ensures.gates.grows c.requires.first)

pub new_and_node-requires-2-clause-second : goal.new_and_node-requires-2-clause-second
new_and_node-requires-2-clause-second c = subst (IsInRange c.new_and_node.new.nodes.items) (sym c.not-2.ensures) (still_there c.args.nodes.now.items c.new_and_node.new.nodes.items c.args.fanin1 c.new_and_node.ensures.gates.grows c.requires.second)

pub returns-in_err-neither-clause-gates : goal.returns-in_err-neither-clause-gates
returns-in_err-neither-clause-gates c = AddsGates-then c.args.nodes.now.items c.new_and_node.new.nodes.items c.new_and_node-2.new.nodes.items c.new_and_node.ensures.gates c.new_and_node-2.ensures.gates

pub new_or_node-requires-clause-sound : goal.new_or_node-requires-clause-sound
new_or_node-requires-clause-sound c = c.new_and_node-2.ensures.gates.grows.sound

pub new_or_node-requires-clause-first : goal.new_or_node-requires-clause-first
new_or_node-requires-clause-first c = still_there c.new_and_node.new.nodes.items c.new_and_node-2.new.nodes.items c.in_ok-both.both c.new_and_node-2.ensures.gates.grows c.in_ok-both.ensures.gives.there

pub new_or_node-requires-clause-second : goal.new_or_node-requires-clause-second
new_or_node-requires-clause-second c = c.in_ok-neither.ensures.gives.there

pub returns-in_err-both-clause-rule : goal.returns-in_err-both-clause-rule
returns-in_err-both-clause-rule c = IfOk-from_err c.from_residual.result _ c.from_residual.ensures.0

pub returns-in_err-both-clause-gives : goal.returns-in_err-both-clause-gives
returns-in_err-both-clause-gives c = IfOk-from_err c.from_residual.result _ c.from_residual.ensures.0

pub returns-in_err-neither-clause-rule : goal.returns-in_err-neither-clause-rule
returns-in_err-neither-clause-rule c = IfOk-from_err c.from_residual-in_err-neither.result _ c.from_residual-in_err-neither.ensures.0

pub returns-in_err-neither-clause-gives : goal.returns-in_err-neither-clause-gives
returns-in_err-neither-clause-gives c = IfOk-from_err c.from_residual-in_err-neither.result _ c.from_residual-in_err-neither.ensures.0
