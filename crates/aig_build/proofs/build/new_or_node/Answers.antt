use Rattle.aig_base.proofs.Words.{◌≡◌, refl, sym, ap, subst, ◌∙◌, false≢true}
use Rattle.aig_circuit.proofs.Words.{inverse, IsInRange}
use Rattle.aig_circuit.proofs.Joining.{inverse_twice}
use Rattle.aig_build.proofs.Joined.{GivesEdge-or}
use Rattle.aig_build.proofs.build.new_or_node.Goals as goal

pub returns-in_err-new_and_node-clause-folds : goal.returns-in_err-new_and_node-clause-folds
returns-in_err-new_and_node-clause-folds c = λ f h. absurd (false≢true (c.in_err-new_and_node.ensures.folds f (rw (c.not.ensures, c.not-2.ensures) h)))

pub returns-clause-rule : goal.returns-clause-rule
returns-clause-rule c =
    let e : inverse c.not-3.result ≡ c.in_ok-new_and_node.field-0 = ap inverse c.not-3.ensures ∙ inverse_twice c.in_ok-new_and_node.field-0 in
    rw (e, ← c.not.ensures, ← c.not-2.ensures) c.in_ok-new_and_node.ensures.rule

pub new_and_node-requires-clause-sound : goal.new_and_node-requires-clause-sound
new_and_node-requires-clause-sound c = c.requires.sound

pub new_and_node-requires-clause-first : goal.new_and_node-requires-clause-first
new_and_node-requires-clause-first c = subst (IsInRange c.args.nodes.now.items) (sym c.not.ensures) c.requires.first

pub new_and_node-requires-clause-second : goal.new_and_node-requires-clause-second
new_and_node-requires-clause-second c = subst (IsInRange c.args.nodes.now.items) (sym c.not-2.ensures) c.requires.second

pub returns-in_err-new_and_node-clause-gates : goal.returns-in_err-new_and_node-clause-gates
returns-in_err-new_and_node-clause-gates c = c.new_and_node.ensures.gates

pub returns-clause-folds : goal.returns-clause-folds
returns-clause-folds c = λ f h. refl

pub returns-clause-gives : goal.returns-clause-gives
returns-clause-gives c = GivesEdge-or c.args.nodes.now.items c.new_and_node.new.nodes.items c.args.fanin0 c.args.fanin1 c.not.result c.not-2.result c.in_ok-new_and_node.field-0 c.not-3.result c.not.ensures c.not-2.ensures c.not-3.ensures c.in_ok-new_and_node.ensures.gives

pub returns-clause-gates : goal.returns-clause-gates
returns-clause-gates c = c.new_and_node.ensures.gates
