use Rattle.aig_live.specs.Making.{GivesEach, same_of}
use Rattle.aig_live.proofs.making.same_edges.Given as goal

abbrev pub invariant-loop-i : goal.invariant-loop-i
invariant-loop-i l = GivesEach 3 l.initial.nodes.items l.nodes.items
    (same_of l.initial.nodes.items l.latchs l.starts) l.i l.made.items
