use Rattle.std.proofs.Common.{◌≡◌, List, Some, map, take, ℕ}
use Rattle.std.specs.HashMap.{get_by_text}
use Rattle.aig_join.specs.Starts.{named_place}
use Rattle.aig_join.proofs.Partners.{register}
use Rattle.aig_join.proofs.alike.named_leaves.Given as goal

abbrev pub invariant-loop-latch : goal.invariant-loop-latch
invariant-loop-latch l = (text : List ℕ)
    → get_by_text l.leaves text
    ≡ named_place (map (register l.circuit.names) (take l.latch-index l.latch-items)) (Some text)
