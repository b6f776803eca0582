use Rattle.std.proofs.Common.{◌≡◌, ◌↔◌, false, IsTrue, subst}
use Rattle.aig_circuit.specs.Circuit.{Circuit, HasFreeLeaf, IsClosed}
use Rattle.aig_circuit.proofs.Circuits.{AreLeaves-of_circuit}
use Rattle.aig.proofs.graph.Aig.is_closed.Goals as goal

pub is_closed-requires : goal.is_closed-requires
is_closed-requires c = rw (c.deref.ensures.value, c.deref-2.ensures.value, c.deref-3.ensures.value) (AreLeaves-of_circuit _ c.self.invariant)

pub returns-clause-closed : goal.returns-clause-closed
returns-clause-closed c =
    let closed = rw (c.deref.ensures.value, c.deref-2.ensures.value, c.deref-3.ensures.value) at c.is_closed.ensures.closed in
    subst (λ (v : Circuit). IsTrue c.is_closed.result ↔ IsClosed v) c.self.view_is closed

pub returns-clause-open : goal.returns-clause-open
returns-clause-open c =
    let open_leaf = rw (c.deref.ensures.value, c.deref-2.ensures.value, c.deref-3.ensures.value) at c.is_closed.ensures.open in
    subst (λ (v : Circuit). c.is_closed.result ≡ false → HasFreeLeaf v.nodes v.inputs v.latchs) c.self.view_is open_leaf
