use Rattle.aig_answers.proofs.Words.{◌<◌, ◌^◌, All-drop, All-take, AigEdge}
use Rattle.aig_answers.proofs.clauses.induction_over.Goals as goal

pub push_inverses-requires : goal.push_inverses-requires
push_inverses-requires c = All-take (λ (e : AigEdge). e.node_id < 2 ^ 31) _ _ c.requires.bads

pub push_any-requires : goal.push_any-requires
push_any-requires c =
    let Few = λ (e : AigEdge). e.node_id < 2 ^ 31 in
    All-take Few _ _ (All-drop Few _ _ c.requires.bads)
