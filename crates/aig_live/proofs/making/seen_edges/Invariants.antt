use Rattle.aig_live.specs.Making.{GivesEach, seen_of}
use Rattle.aig_live.proofs.making.seen_edges.Given as goal

abbrev pub invariant-loop-i : goal.invariant-loop-i
invariant-loop-i l = GivesEach 2 l.initial.nodes.items l.nodes.items
    (seen_of l.initial.nodes.items l.active l.leaf l.edges) l.i l.made.items
