use Rattle.aig_base.proofs.Words.{IfOk-weaker}
use Rattle.aig_witness_circuits.proofs.Circular.{is_table, told}
use Rattle.aig_witness_circuits.proofs.circles.is_circular.Goals as goal

pub has_circle-requires : goal.has_circle-requires
has_circle-requires c =
    rw (c.nodes.ensures.value, c.deref.ensures.value) (is_table c.args.shared.now
    c.args.witness.now c.nodes.ensures.circuit c.in_ok-resets.resets.items c.in_ok-resets.ensures)

pub returns-clause-exact : goal.returns-clause-exact
returns-clause-exact c =
    IfOk-weaker c.has_circle.result _ _
    (λ circle is. (told c.args.shared.now c.args.witness.now c.nodes.ensures.circuit
    c.in_ok-resets.resets.items c.in_ok-resets.ensures circle is).0)
    (rw (c.nodes.ensures.value, c.deref.ensures.value) at c.has_circle.ensures)

pub returns-clause-starts : goal.returns-clause-starts
returns-clause-starts c =
    IfOk-weaker c.has_circle.result _ _
    (λ circle is. (told c.args.shared.now c.args.witness.now c.nodes.ensures.circuit
    c.in_ok-resets.resets.items c.in_ok-resets.ensures circle is).1)
    (rw (c.nodes.ensures.value, c.deref.ensures.value) at c.has_circle.ensures)
