use Rattle.aig_witness_circuits.proofs.Words.{AigNode, IfOk-weaker, List, [], ap₂, lists_circuit, made_in, model_leaf, ◌++◌, ◌∙◌, ◌∷◌}
use Rattle.aig_witness_circuits.proofs.Exactly.{question_is}
use Rattle.aig_witness_circuits.proofs.questions.whole_question.Goals as goal

pub returns-clause-exact : goal.returns-clause-exact
returns-clause-exact c =
    let begins = c.in_ok-push.ensures.items
    ∙ ap₂ (λ (l : List AigNode) (n : AigNode). l ++ n ∷ []) c.new-nodes.ensures.items
    c.false_node.ensures in
    IfOk-weaker c.with_bad.result _ _
    (λ lists is.
    question_is c.args.condition (model_leaf c.args.shared.now) c.args.model.now c.args.witness.now
    (lists_circuit lists) c.push.new.self.items
    (made_in c.asking_edge.new.nodes.items c.in_ok-bad.bad) is c.in_ok-bad.ensures.exact begins)
    c.with_bad.ensures
