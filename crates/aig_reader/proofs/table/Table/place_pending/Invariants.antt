use Rattle.aig_base.proofs.Words.{ℕ, ◌<◌, ◌≤◌, ◌/◌, List, vec_len, All}
use Rattle.aig_format.specs.File.{GateLine}
use Rattle.aig_ordering.specs.Gates.{nodes_in}
use Rattle.aig_reader.specs.Gates.{AreFirstNodes, AreNew, lines_of}
use Rattle.aig_reader.proofs.Waiting.{ArePlacing}
use Rattle.aig_reader.proofs.table.Table.place_pending.Given as goal

abbrev pub invariant-loop-gate : goal.invariant-loop-gate
invariant-loop-gate l =
    (size : ℕ) (front : List GateLine) → AreFirstNodes front (nodes_in l.fn.self.entries.items) → AreNew front (lines_of l.gate-items) → vec_len l.fn.self.entries ≤ size → All (λ g. g.lhs / 2 < size) l.gate-items
    → ArePlacing size front l.gate-items l.gate-index l.entries
