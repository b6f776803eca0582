use Rattle.std.proofs.Common.{◌∙◌, ap, arith, sym}
use Rattle.aig_circuit.specs.declared.node.AigNodeType.TheVariants.{Leaf}
use Rattle.aig_circuit.specs.Edge.{edge_to}
use Rattle.aig_circuit.proofs.Building.{AddsGates-then, Grows-longer}
use Rattle.aig_circuit.proofs.Trees.{kind_at-within}
use Rattle.aig_change.proofs.Constraining.{constrained_one}
use Rattle.aig_change.proofs.inits.constrain.Goals as goal

pub new_or_node-requires-clause-sound : goal.new_or_node-requires-clause-sound
new_or_node-requires-clause-sound c = c.in_ok-equal.ensures.gates.grows.sound

pub new_or_node-requires-clause-second : goal.new_or_node-requires-clause-second
new_or_node-requires-clause-second c = c.in_ok-equal.ensures.gives.there

pub new_or_node-requires-clause-first : goal.new_or_node-requires-clause-first
new_or_node-requires-clause-first c = rw c.not.ensures (omega (arith, c.requires.first_edge, Grows-longer _ _ c.in_ok-equal.ensures.gates.grows))

pub new_eq_node-requires-clause-first : goal.new_eq_node-requires-clause-first
new_eq_node-requires-clause-first c = rw (c.from.ensures, c.input.ensures) (kind_at-within c.args.nodes.now.items c.args.latch.input Leaf c.requires.latch.leaf)

pub returns-in_ok-push-clause-gates : goal.returns-in_ok-push-clause-gates
returns-in_ok-push-clause-gates c = AddsGates-then _ _ _ c.in_ok-equal.ensures.gates c.in_ok-implied.ensures.gates

pub returns-in_err-push-clause-gates : goal.returns-in_err-push-clause-gates
returns-in_err-push-clause-gates c = AddsGates-then _ _ _ c.in_ok-equal.ensures.gates c.in_ok-implied.ensures.gates

pub returns-in_ok-push-clause-constrains : goal.returns-in_ok-push-clause-constrains
returns-in_ok-push-clause-constrains c =
    constrained_one c.args.nodes.now.items c.new_eq_node.new.nodes.items c.new_or_node.new.nodes.items c.args.first c.in_ok-equal.equal c.in_ok-implied.implied c.not.result c.from.result c.in-Some.start c.args.latch c.args.constraints.now.items c.push.new.self.items
    c.requires.sound c.requires.first_edge c.requires.latch (sym c.init.ensures ∙ c.in-Some.is) (λ e. c.if-node_id-ne0.true (c.node_id.ensures ∙ e))
    c.in_ok-equal.ensures.gates c.in_ok-equal.ensures.gives (c.from.ensures ∙ ap (λ n. edge_to n _) c.input.ensures)
    c.in_ok-equal.ensures.rule c.in_ok-implied.ensures.rule
    c.in_ok-implied.ensures.gives c.not.ensures c.in_ok-push.ensures.items
