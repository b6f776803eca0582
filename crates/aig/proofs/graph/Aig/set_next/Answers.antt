use Rattle.aig_base.proofs.Words.{◌≡◌, ◌<◌, Some, length, set, sym, ap, subst, ◌∙◌, slice_get, get_or_from_slice_get}
use Rattle.aig_circuit.specs.declared.node.AigLatch.{AigLatch}
use Rattle.aig_circuit.specs.Circuit.{Circuit, IsInRange}
use Rattle.aig_circuit.proofs.Writing.{IsCircuit-set_next}
use Rattle.aig.specs.View.{circuit_of_lists}
use Rattle.aig.proofs.graph.Aig.set_next.Goals as goal

pub invariant_of-self : goal.invariant_of-self
invariant_of-self c =
    let latch = c.index.result.now in
    let new : c.new.result ≡ record latch { next = c.args.e } = rw (c.new.ensures, c.input.ensures, c.init.ensures) in
    rw new (IsCircuit-set_next _ c.args.i latch c.args.e c.self.invariant
    (subst (λ (v : Circuit). c.args.i < length v.latchs) (sym c.self.view_is) c.requires.place)
    c.index.ensures
    (subst (λ (v : Circuit). IsInRange v.nodes c.args.e) (sym c.self.view_is) c.requires.edge))

pub returns : goal.returns
returns c = λ latch is.
    let there = subst (λ (v : Circuit). slice_get v.latchs c.args.i ≡ Some latch) (sym c.self.view_is) is in
    let old : c.index.result.now ≡ latch = c.index.ensures ∙ get_or_from_slice_get _ c.args.i latch _ there in
    let new : c.new.result ≡ record latch { next = c.args.e } = rw (c.new.ensures, c.input.ensures, c.init.ensures, old) in
    ap (λ (l : AigLatch). record (circuit_of_lists c.self.inside) { latchs = set c.self.inside.lists.latchs.items c.args.i l }) new
    ∙ ap (λ (v : Circuit). record v { latchs = set v.latchs c.args.i (record latch { next = c.args.e }) }) c.self.view_is
