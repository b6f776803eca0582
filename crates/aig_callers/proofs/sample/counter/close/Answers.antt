use Rattle.aig_base.proofs.Words.{ap, None, slice_get-get_or}
use Rattle.aig_circuit.specs.declared.node.AigLatch.{AigLatch}
use Rattle.aig_circuit.specs.Circuit.{Circuit}
use Rattle.aig_callers.proofs.sample.counter.close.Goals as goal

pub returns : goal.returns
returns c =
    let other : AigLatch = record { input = 0; next = c.args.next; init = None } in
    ap (λ (v : Circuit). v.nodes) (c.set_next.ensures _ (slice_get-get_or _ c.args.place other c.requires.place))
