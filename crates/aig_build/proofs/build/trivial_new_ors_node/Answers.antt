use Rattle.aig_base.proofs.Words.{◌≡◌, map, length, ap, sym, subst, ◌∙◌, arith, length-map, IfOk-from_err}
use Rattle.aig_circuit.proofs.Words.{inverse, AddsGateForEach, JoinsByAnd}
use Rattle.aig_circuit.proofs.Joining.{All-inverse, JoinsByOr-inverse, inverse_twice}
use Rattle.aig_circuit.proofs.Building.{AddsGates-itself}
use Rattle.aig_build.proofs.build.trivial_new_ors_node.Goals as goal

pub trivial_new_ands_node-requires-clause-edges : goal.trivial_new_ands_node-requires-clause-edges
trivial_new_ands_node-requires-clause-edges c = rw (c.deref.ensures.value, c.in_ok-inverses.ensures) (All-inverse c.args.nodes.now.items c.args.fanins.now c.requires.edges)

pub returns-clause-joins : goal.returns-clause-joins
returns-clause-joins c =
    let edges : c.deref.result.now ≡ map inverse c.args.fanins.now = c.deref.ensures.value ∙ c.in_ok-inverses.ensures in
    let all : JoinsByAnd c.args.nodes.now.items c.trivial_new_ands_node.new.nodes.items (map inverse c.args.fanins.now) c.in_ok-trivial_new_ands_node.field-0 = rw edges at c.in_ok-trivial_new_ands_node.ensures.joins.0 in
    let any = JoinsByOr-inverse c.args.nodes.now.items c.trivial_new_ands_node.new.nodes.items c.args.fanins.now c.in_ok-trivial_new_ands_node.field-0 all in
    let count : length c.deref.result.now ≡ length c.args.fanins.now = ap length edges ∙ simp length-map in
    rw c.not.ensures (any, omega (arith, c.in_ok-trivial_new_ands_node.ensures.joins.1))

pub returns-in_err-inverses-clause-gates : goal.returns-in_err-inverses-clause-gates
returns-in_err-inverses-clause-gates c = AddsGates-itself c.args.nodes.now.items c.requires.sound

pub trivial_new_ands_node-requires-clause-sound : goal.trivial_new_ands_node-requires-clause-sound
trivial_new_ands_node-requires-clause-sound c = c.requires.sound

pub returns-in_err-trivial_new_ands_node-clause-gates :
    goal.returns-in_err-trivial_new_ands_node-clause-gates
returns-in_err-trivial_new_ands_node-clause-gates c = c.trivial_new_ands_node.ensures.gates

pub returns-clause-gates : goal.returns-clause-gates
returns-clause-gates c = c.trivial_new_ands_node.ensures.gates

pub returns-in_err-inverses-clause-rule : goal.returns-in_err-inverses-clause-rule
returns-in_err-inverses-clause-rule c = IfOk-from_err c.from_residual.result _ c.from_residual.ensures.0

pub returns-in_err-trivial_new_ands_node-clause-rule :
    goal.returns-in_err-trivial_new_ands_node-clause-rule
returns-in_err-trivial_new_ands_node-clause-rule c = IfOk-from_err c.from_residual-in_err-trivial_new_ands_node.result _ c.from_residual-in_err-trivial_new_ands_node.ensures.0

pub returns-in_err-inverses-clause-joins : goal.returns-in_err-inverses-clause-joins
returns-in_err-inverses-clause-joins c = IfOk-from_err c.from_residual.result _ c.from_residual.ensures.0

pub returns-in_err-trivial_new_ands_node-clause-joins :
    goal.returns-in_err-trivial_new_ands_node-clause-joins
returns-in_err-trivial_new_ands_node-clause-joins c = IfOk-from_err c.from_residual-in_err-trivial_new_ands_node.result _ c.from_residual-in_err-trivial_new_ands_node.ensures.0

pub returns-clause-rule : goal.returns-clause-rule
returns-clause-rule c =
    let old = c.args.nodes.now.items in
    let new = c.trivial_new_ands_node.new.nodes.items in
    let all = c.in_ok-trivial_new_ands_node.field-0 in
    let edges = c.deref.ensures.value ∙ c.in_ok-inverses.ensures in
    let back = ap inverse c.not.ensures ∙ inverse_twice all in
    subst (AddsGateForEach old (map inverse c.args.fanins.now) new) (sym back) (subst (λ l. AddsGateForEach old l new all) edges c.in_ok-trivial_new_ands_node.ensures.rule)
