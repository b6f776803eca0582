use Rattle.std.proofs.Common.{◌≡◌, ◌+◌, true, false, length, slice_index_or}
use Rattle.aig_base.proofs.Words.{option_to_list}
use Rattle.aig_format.specs.File.{File}
use Rattle.aig_ordering.specs.Gates.{nodes_in}
use Rattle.aig_ordering.specs.Search.{IsAtSome, StaysOpen, work_of}
use Rattle.aig_ordering.specs.Tables.{AreNodesOf}
use Rattle.aig_ordering.proofs.levels.Search.find.Given as goal

abbrev pub invariant-loop-current : goal.invariant-loop-current
invariant-loop-current l = record {
  at : (f : File) → AreNodesOf f (nodes_in l.gates) → IsAtSome f l.self l.current;
  opened : StaysOpen l.fn.self l.self;
  started : slice_index_or l.self.opened.items l.start false ≡ true;
}

abbrev pub decreases-loop-current : goal.decreases-loop-current
decreases-loop-current l = work_of l.self + length (option_to_list l.current)
