use Rattle.aig_live.specs.Making.{GivesEach, start_of}
use Rattle.aig_live.proofs.making.start_edges.Given as goal

abbrev pub invariant-loop-i : goal.invariant-loop-i
invariant-loop-i l = GivesEach 3 l.initial.nodes.items l.nodes.items
    (start_of l.initial.nodes.items l.saved l.leaf l.latchs) l.i l.made.items
