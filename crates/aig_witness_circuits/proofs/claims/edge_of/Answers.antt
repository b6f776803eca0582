use Rattle.aig_witness_circuits.proofs.Words.{IfOk-weaker, ap, sym, ◌∙◌, make_claim}
use Rattle.aig_witness_circuits.proofs.Exactly.{equal_made}
use Rattle.aig_witness_circuits.proofs.claims.edge_of.Goals as goal

pub returns-in-Equal : goal.returns-in-Equal
returns-in-Equal c =
    let old = c.args.nodes.now.items in
    IfOk-weaker c.new_eq_node.result _ _
    (λ e rule.
    equal_made old c.new_eq_node.new.nodes.items c.in-Equal.first c.in-Equal.second e rule
    ∙ ap (make_claim old) (sym c.in-Equal.is)) c.new_eq_node.ensures.rule
