use Rattle.std.proofs.lemmas.Result.{IfOk-weaker}
use Rattle.aig_handles.proofs.Taking.{taken}
use Rattle.aig_handles.proofs.connectives.join_all.Goals as goal

pub returns-in-TrivialAnds-clause-joins : goal.returns-in-TrivialAnds-clause-joins
returns-in-TrivialAnds-clause-joins c =
    rw c.in-TrivialAnds.is (IfOk-weaker c.trivial_new_ands_node.result _ _
    (λ e told. let t = taken c.args.edges _ told in record { adds = (t.0, t.2); joins = t.1; gates = c.trivial_new_ands_node.ensures.gates })
    c.trivial_new_ands_node.ensures.joins)

pub returns-in-Ands-clause-joins : goal.returns-in-Ands-clause-joins
returns-in-Ands-clause-joins c =
    rw c.in-Ands.is (IfOk-weaker c.new_ands_node.result _ _
    (λ e told. let t = taken c.args.edges _ told in record { adds = t.0; joins = t.1; gates = c.new_ands_node.ensures.gates })
    c.new_ands_node.ensures.joins)

pub returns-in-TrivialOrs-clause-joins : goal.returns-in-TrivialOrs-clause-joins
returns-in-TrivialOrs-clause-joins c =
    rw c.in-TrivialOrs.is (IfOk-weaker c.trivial_new_ors_node.result _ _
    (λ e told. let t = taken c.args.edges _ told in record { adds = (t.0, t.2); joins = t.1; gates = c.trivial_new_ors_node.ensures.gates })
    c.trivial_new_ors_node.ensures.joins)

pub returns-in-Ors-clause-joins : goal.returns-in-Ors-clause-joins
returns-in-Ors-clause-joins c =
    rw c.in-Ors.is (IfOk-weaker c.new_ors_node.result _ _
    (λ e told. let t = taken c.args.edges _ told in record { adds = t.0; joins = t.1; gates = c.new_ors_node.ensures.gates })
    c.new_ors_node.ensures.joins)
