use Rattle.aig_base.proofs.Words.{◌≡◌, ◌<◌, Some, length, set, sym, ap, subst, ◌∙◌, IfSome, slice_get, get_or_from_slice_get}
use Rattle.aig_circuit.specs.declared.node.AigLatch.{AigLatch}
use Rattle.aig_circuit.specs.Circuit.{Circuit, IsInRange}
use Rattle.aig_circuit.proofs.Writing.{IsCircuit-set_init}
use Rattle.aig.specs.View.{circuit_of_lists}
use Rattle.aig.proofs.graph.Aig.set_init.Goals as goal

pub invariant_of-self : goal.invariant_of-self
invariant_of-self c =
    let latch = c.index.result.now in
    let new : c.new.result ≡ record latch { init = c.args.e } = rw (c.new.ensures, c.input.ensures, c.next.ensures) in
    rw new (IsCircuit-set_init _ c.args.i latch c.args.e c.self.invariant
    (subst (λ (v : Circuit). c.args.i < length v.latchs) (sym c.self.view_is) c.requires.place)
    c.index.ensures
    (subst (λ (v : Circuit). IfSome c.args.e (IsInRange v.nodes)) (sym c.self.view_is) c.requires.edge))

pub returns : goal.returns
returns c = λ latch is.
    let there = subst (λ (v : Circuit). slice_get v.latchs c.args.i ≡ Some latch) (sym c.self.view_is) is in
    let old : c.index.result.now ≡ latch = c.index.ensures ∙ get_or_from_slice_get _ c.args.i latch _ there in
    let new : c.new.result ≡ record latch { init = c.args.e } = rw (c.new.ensures, c.input.ensures, c.next.ensures, old) in
    ap (λ (l : AigLatch). record (circuit_of_lists c.self.inside) { latchs = set c.self.inside.lists.latchs.items c.args.i l }) new
    ∙ ap (λ (v : Circuit). record v { latchs = set v.latchs c.args.i (record latch { init = c.args.e }) }) c.self.view_is
