use Rattle.std.proofs.Common.{◌≡◌, ◌<◌, ℕ, true, false, slice_index_or}
use Rattle.aig_format.specs.File.{File}
use Rattle.aig_ordering.specs.Gates.{nodes_in}
use Rattle.aig_ordering.specs.Search.{IsAtRest}
use Rattle.aig_ordering.specs.Tables.{AreNodesOf}
use Rattle.aig_ordering.proofs.levels.find_levels.Given as goal

abbrev pub invariant-loop-variable : goal.invariant-loop-variable
invariant-loop-variable l = record {
  rest : (f : File) → AreNodesOf f (nodes_in l.gates) → IsAtRest f l.search;
  opened : (v : ℕ) → v < l.variable → slice_index_or l.search.opened.items v false ≡ true;
}
