use Rattle.std.proofs.Common.{◌≡◌, ◌++◌, length}
use Rattle.aig_unroll.specs.Places.{leaves_after}
use Rattle.aig_unroll.specs.Step.{CopiesBelow}
use Rattle.aig_unroll.proofs.nodes.copy_nodes.Given as goal

abbrev pub invariant-loop-id : goal.invariant-loop-id
invariant-loop-id l = record {
  copies : CopiesBelow l.from l.fn.nodes.items l.nodes.items l.initial.images l.images l.id;
  inputs : l.inputs.items ≡ l.fn.inputs.items ++ leaves_after (length l.fn.nodes.items) l.nodes.items;
}
