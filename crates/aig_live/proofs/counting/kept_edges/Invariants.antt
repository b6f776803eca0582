use Rattle.aig_live.specs.Counting.{kept_of}
use Rattle.aig_live.specs.Making.{GivesEach}
use Rattle.aig_live.proofs.counting.kept_edges.Given as goal

abbrev pub invariant-loop-e : goal.invariant-loop-e
invariant-loop-e l = GivesEach 1 l.initial.nodes.items l.nodes.items
    (kept_of l.initial.nodes.items l.ends l.edges) l.e-index l.made.items
