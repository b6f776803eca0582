use Rattle.std.proofs.Common.{◌≡◌, sym, ap, subst, ◌∙◌}
use Rattle.aig_circuit.proofs.Words.{inverse, IsInRange}
use Rattle.aig_circuit.proofs.Joining.{inverse_twice}
use Rattle.aig_build.proofs.Joined.{GivesEdge-or}
use Rattle.aig_build.proofs.build.trivial_new_or_node.Goals as goal

pub trivial_new_and_node-requires-clause-sound : goal.trivial_new_and_node-requires-clause-sound
trivial_new_and_node-requires-clause-sound c = c.requires.sound

pub trivial_new_and_node-requires-clause-first : goal.trivial_new_and_node-requires-clause-first
trivial_new_and_node-requires-clause-first c = subst (IsInRange c.args.nodes.now.items) (sym c.not.ensures) c.requires.first

pub trivial_new_and_node-requires-clause-second : goal.trivial_new_and_node-requires-clause-second
trivial_new_and_node-requires-clause-second c = subst (IsInRange c.args.nodes.now.items) (sym c.not-2.ensures) c.requires.second

pub returns-clause-ok : goal.returns-clause-ok
returns-clause-ok c =
    let e : inverse c.not-3.result ≡ c.in_ok-trivial_new_and_node.field-0 = ap inverse c.not-3.ensures ∙ inverse_twice c.in_ok-trivial_new_and_node.field-0 in
    rw (e, ← c.not.ensures, ← c.not-2.ensures) c.in_ok-trivial_new_and_node.ensures.ok

pub returns-clause-gives : goal.returns-clause-gives
returns-clause-gives c = GivesEdge-or c.args.nodes.now.items c.trivial_new_and_node.new.nodes.items c.args.fanin0 c.args.fanin1 c.not.result c.not-2.result c.in_ok-trivial_new_and_node.field-0 c.not-3.result c.not.ensures c.not-2.ensures c.not-3.ensures c.in_ok-trivial_new_and_node.ensures.gives

pub returns-clause-gates : goal.returns-clause-gates
returns-clause-gates c = c.trivial_new_and_node.ensures.gates
