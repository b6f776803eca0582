use Rattle.std.proofs.Common.{take}
use Rattle.aig_join.specs.Constraints.{AreJoined}
use Rattle.aig_join.proofs.constraints.joined_each.Given as goal

abbrev pub invariant-loop-e : goal.invariant-loop-e
invariant-loop-e l = AreJoined l.initial.nodes.items l.all (take l.e-index l.edges) l.made.items
    l.nodes.items
