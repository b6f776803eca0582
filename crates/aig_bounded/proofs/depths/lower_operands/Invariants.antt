use Rattle.std.proofs.Common.{◌≡◌, ℕ, ◌<◌, ◌≤◌, List, length}
use Rattle.aig_circuit.specs.Circuit.{Circuit}
use Rattle.aig_bounded.specs.Depths.{AreRead, HasOperandDepths, Lowers}
use Rattle.aig_bounded.proofs.depths.lower_operands.Given as goal

abbrev pub invariant-loop-id : goal.invariant-loop-id
invariant-loop-id l = record {
  lowers : Lowers (λ (ds : List ℕ). (n : ℕ) → l.id ≤ n → n < length l.nodes → HasOperandDepths l.nodes l.last n ds)
      l.fn.depths l.depths l.lowered;
  read : (d : Circuit) → d.nodes ≡ l.nodes → AreRead d l.last l.fn.depths → AreRead d l.last l.depths;
}
