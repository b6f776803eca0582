-- Serves private clauses alone.
-- What is said of a circuit that was read.
use Rattle.std.specs.Prelude.{ℕ, ◌+◌, ◌-◌, ◌*◌, ◌==◌, nat_lt, if◌then◌else◌, length}
use Rattle.aig_circuit.specs.Circuit.{Circuit}
use Rattle.aig_reader.specs.Verdicts.{Accepted, NoBads, TooLarge, Verdict}

-- the verdict on a file of so many nodes, latches and bad edges that is asked for a bad state at
-- step k
abbrev pub asks_verdict : ℕ → ℕ → ℕ → ℕ → ℕ → Verdict
asks_verdict limit k nodes latchs bads =
    if nat_lt limit (nodes + k * (nodes - 1 - latchs)) then TooLarge
    else if bads == 0 then NoBads else Accepted

-- on one of this circuit
abbrev pub circuit_verdict : ℕ → ℕ → Circuit → Verdict
circuit_verdict limit k c =
    asks_verdict limit k (length c.nodes) (length c.latchs) (length c.properties.bads)
