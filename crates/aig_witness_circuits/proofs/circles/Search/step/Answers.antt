use Rattle.aig_base.proofs.Words.{IfOk-weaker}
use Rattle.aig_witness_circuits.proofs.Descent.{opened_next, rest_within, settled_next}
use Rattle.aig_witness_circuits.proofs.circles.Search.step.Goals as goal

pub returns-in-Some : goal.returns-in-Some
returns-in-Some c =
    let nodes = c.args.nodes.now in
    let resets = c.args.resets.now in
    let next = c.in-Some.next in
    let one = c.in-Some.ensures.0 in
    let closed = rw c.deref.ensures.value at c.in-Some.ensures.1 in
    IfOk-weaker c.open.result _ _
    (λ turn opens. opened_next nodes resets c.args.self.now c.open.new.self c.args.node next turn
    c.requires.at one closed (rest_within nodes resets c.requires.table c.args.node next one) opens)
    c.open.ensures

pub returns-in-None : goal.returns-in-None
returns-in-None c =
    settled_next c.args.nodes.now c.args.resets.now c.args.self.now c.settle.new.self c.args.node
    c.settle.result c.requires.at (λ m one. rw c.deref.ensures.value at (c.in-None.ensures m one))
    c.settle.ensures
