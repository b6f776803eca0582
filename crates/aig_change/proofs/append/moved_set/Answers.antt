use Rattle.std.proofs.Common.{◌++◌, ◌∙◌, List, ap, arith, map}
use Rattle.aig_circuit.specs.declared.edge.AigEdge.{AigEdge}
use Rattle.aig_circuit.specs.Renumber.{renumbered_edge}
use Rattle.aig_change.specs.Merge.{shifted}
use Rattle.aig_change.proofs.append.moved_set.Goals as goal

pub edges-requires : goal.edges-requires
edges-requires c = record { below = c.requires; room = omega (arith, c.in_ok-moved.ensures.len, c.in_ok-moved.ensures.capacity) }

pub returns : goal.returns
returns c = c.edges.ensures ∙ ap (λ (es : List AigEdge). es ++ map (renumbered_edge (shifted c.args.numbers.now.count)) c.args.set.now) c.in_ok-moved.ensures.items
