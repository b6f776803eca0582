use Rattle.aig_base.proofs.Words.{inl, inr, refl, IfOk-weaker}
use Rattle.aig_circuit.proofs.Building.{AddsGates-itself, GivesEdge-Folds}
use Rattle.aig_build.proofs.build.new_and_node.Goals as goal

pub returns-in-Some-clause-rule : goal.returns-in-Some-clause-rule
returns-in-Some-clause-rule c = inl (c.in-Some.ensures, refl)

pub returns-in-Some-clause-folds : goal.returns-in-Some-clause-folds
returns-in-Some-clause-folds c = λ f h. refl

pub returns-in-Some-clause-gives : goal.returns-in-Some-clause-gives
returns-in-Some-clause-gives c = GivesEdge-Folds c.args.nodes.now.items c.args.fanin0 c.args.fanin1 c.in-Some.folded c.requires.sound c.requires.first c.requires.second c.in-Some.ensures

pub returns-in-Some-clause-gates : goal.returns-in-Some-clause-gates
returns-in-Some-clause-gates c = AddsGates-itself c.args.nodes.now.items c.requires.sound

pub trivial_new_and_node-requires-clause-sound : goal.trivial_new_and_node-requires-clause-sound
trivial_new_and_node-requires-clause-sound c = c.requires.sound

pub trivial_new_and_node-requires-clause-first : goal.trivial_new_and_node-requires-clause-first
trivial_new_and_node-requires-clause-first c = c.requires.first

pub trivial_new_and_node-requires-clause-second : goal.trivial_new_and_node-requires-clause-second
trivial_new_and_node-requires-clause-second c = c.requires.second

pub returns-clause-rule : goal.returns-clause-rule
returns-clause-rule c = IfOk-weaker c.trivial_new_and_node.result _ _ (λ e adds. inr (c.in_default.ensures, adds)) c.trivial_new_and_node.ensures.ok

pub returns-clause-folds : goal.returns-clause-folds
returns-clause-folds c = λ f h. absurd (c.in_default.ensures f h)

pub returns-clause-gives : goal.returns-clause-gives
returns-clause-gives c = c.trivial_new_and_node.ensures.gives

pub returns-clause-gates : goal.returns-clause-gates
returns-clause-gates c = c.trivial_new_and_node.ensures.gates

pub returns-clause-err : goal.returns-clause-err
returns-clause-err c = c.trivial_new_and_node.ensures.err
