use Rattle.aig_base.proofs.Words.{◌≡◌, map, ◌∙◌, IfOk-from_err}
use Rattle.aig_circuit.proofs.Words.{inverse, JoinsByAnd}
use Rattle.aig_circuit.proofs.Joining.{All-inverse, JoinsByOr-inverse}
use Rattle.aig_circuit.proofs.Building.{AddsGates-itself}
use Rattle.aig_build.proofs.build.new_ors_node.Goals as goal

pub new_ands_node-requires-clause-edges : goal.new_ands_node-requires-clause-edges
new_ands_node-requires-clause-edges c = rw (c.deref.ensures.value, c.in_ok-inverses.ensures) (All-inverse c.args.nodes.now.items c.args.fanins.now c.requires.edges)

pub returns-clause-joins : goal.returns-clause-joins
returns-clause-joins c =
    let edges : c.deref.result.now ≡ map inverse c.args.fanins.now = c.deref.ensures.value ∙ c.in_ok-inverses.ensures in
    let all : JoinsByAnd c.args.nodes.now.items c.new_ands_node.new.nodes.items (map inverse c.args.fanins.now) c.in_ok-new_ands_node.field-0 = rw edges at c.in_ok-new_ands_node.ensures.joins in
    let any = JoinsByOr-inverse c.args.nodes.now.items c.new_ands_node.new.nodes.items c.args.fanins.now c.in_ok-new_ands_node.field-0 all in
    rw c.not.ensures any

pub returns-in_err-inverses-clause-gates : goal.returns-in_err-inverses-clause-gates
returns-in_err-inverses-clause-gates c = AddsGates-itself c.args.nodes.now.items c.requires.sound

pub new_ands_node-requires-clause-sound : goal.new_ands_node-requires-clause-sound
new_ands_node-requires-clause-sound c = c.requires.sound

pub returns-in_err-new_ands_node-clause-gates : goal.returns-in_err-new_ands_node-clause-gates
returns-in_err-new_ands_node-clause-gates c = c.new_ands_node.ensures.gates

pub returns-clause-gates : goal.returns-clause-gates
returns-clause-gates c = c.new_ands_node.ensures.gates

pub returns-in_err-inverses-clause-rule : goal.returns-in_err-inverses-clause-rule
returns-in_err-inverses-clause-rule c = IfOk-from_err c.from_residual.result _ c.from_residual.ensures.0

pub returns-in_err-new_ands_node-clause-rule : goal.returns-in_err-new_ands_node-clause-rule
returns-in_err-new_ands_node-clause-rule c = IfOk-from_err c.from_residual-in_err-new_ands_node.result _ c.from_residual-in_err-new_ands_node.ensures.0

pub returns-in_err-inverses-clause-joins : goal.returns-in_err-inverses-clause-joins
returns-in_err-inverses-clause-joins c = IfOk-from_err c.from_residual.result _ c.from_residual.ensures.0

pub returns-in_err-new_ands_node-clause-joins : goal.returns-in_err-new_ands_node-clause-joins
returns-in_err-new_ands_node-clause-joins c = IfOk-from_err c.from_residual-in_err-new_ands_node.result _ c.from_residual-in_err-new_ands_node.ensures.0
