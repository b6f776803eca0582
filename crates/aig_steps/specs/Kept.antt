-- Part of what is promised.
-- What an unrolling keeps: the circuits, and where each step ends.
use Rattle.std.specs.Prelude.{◌≡◌, ℕ, zero, suc, ◌-◌, ◌<◌, List, [], ◌∷◌, ◌++◌, length}
use Rattle.aig_circuit.specs.Circuit.{Circuit}
use Rattle.aig_unroll.specs.Frame.{with_steps}
use Rattle.aig_steps.specs.Unrolling.{IsStepped}

-- how many nodes there are after each of the steps 0 to k
abbrev pub ends_to : Circuit → ℕ → List ℕ
ends_to c zero = length c.nodes ∷ []
ends_to c (suc k) = ends_to c k ++ length (with_steps c (suc k)).nodes ∷ []

-- the circuits and the ends of steps
pub record IsKept (c : Circuit) (unrolled : Circuit) (ends : List ℕ) : Type 0 where
  pub stepped : IsStepped (record { circuit = c; steps = length ends - 1 })
  pub same : unrolled ≡ with_steps c (length ends - 1)
  pub counted : ends ≡ ends_to c (length ends - 1)
  pub some : 0 < length ends
