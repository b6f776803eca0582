use Rattle.aig_base.proofs.Words.{◌≡◌, ◌||◌, ℕ, Bool, sym, ap, subst, ◌∙◌, IfOk, IfOk-weaker}
use Rattle.aig_circuit.specs.declared.edge.AigEdge.{AigEdge}
use Rattle.aig_circuit.proofs.Words.{inverse, edge_value, Folds, FoldsOrAdds, IsInRange}
use Rattle.aig_circuit.proofs.Joining.{GivesEdge-same, edge_value-inverse, inverse_twice}
use Rattle.aig_build.proofs.build.new_imply_node.Goals as goal

pub returns-clause-rule : goal.returns-clause-rule
returns-clause-rule c =
    let same : inverse c.not.result ≡ c.args.fanin0 = ap inverse c.not.ensures ∙ inverse_twice c.args.fanin0 in
    subst (λ (a : AigEdge). IfOk c.new_or_node.result (λ e. FoldsOrAdds c.args.nodes.now.items c.new_or_node.new.nodes.items a (inverse c.args.fanin1) (inverse e))) same c.new_or_node.ensures.rule

pub returns-clause-folds : goal.returns-clause-folds
returns-clause-folds c =
    let same : inverse c.not.result ≡ c.args.fanin0 = ap inverse c.not.ensures ∙ inverse_twice c.args.fanin0 in
    λ f h. c.new_or_node.ensures.folds f (subst (λ (a : AigEdge). Folds a (inverse c.args.fanin1) f) (sym same) h)

pub new_or_node-requires-clause-sound : goal.new_or_node-requires-clause-sound
new_or_node-requires-clause-sound c = c.requires.sound

pub new_or_node-requires-clause-first : goal.new_or_node-requires-clause-first
new_or_node-requires-clause-first c = subst (IsInRange c.args.nodes.now.items) (sym c.not.ensures) c.requires.first

pub new_or_node-requires-clause-second : goal.new_or_node-requires-clause-second
new_or_node-requires-clause-second c = c.requires.second

pub returns-clause-gives : goal.returns-clause-gives
returns-clause-gives c =
    let old = c.args.nodes.now.items in
    let new = c.new_or_node.new.nodes.items in
    let first = λ (x : ℕ → Bool). ap (edge_value old x) c.not.ensures ∙ edge_value-inverse old x c.args.fanin0 in
    IfOk-weaker c.new_or_node.result _ _ (λ e. GivesEdge-same new e (λ x. ap (λ v. v || edge_value old x c.args.fanin1) (first x))) c.new_or_node.ensures.gives

pub returns-clause-gates : goal.returns-clause-gates
returns-clause-gates c = c.new_or_node.ensures.gates

pub returns-clause-err : goal.returns-clause-err
returns-clause-err c = c.new_or_node.ensures.err
