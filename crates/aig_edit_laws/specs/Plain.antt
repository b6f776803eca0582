-- Part of what laws say, and of no promise of a call.
-- Circuits whose size alone can keep them from a written form.
use Rattle.std.specs.Prelude.{All}
use Rattle.aig_circuit.specs.Circuit.{Circuit, IsClosed}
use Rattle.aig_circuit.specs.Edges.{HasConstantInit}
use Rattle.aig_format.specs.Writable.{HasLineFeed, named_nodes}

-- no leaf is free, initial edges are constant, and no name that is written holds a line feed
pub record IsPlain (c : Circuit) : Type 0 where
  pub closed : IsClosed c
  pub start : All HasConstantInit c.latchs
  pub names : All (λ n. ¬ HasLineFeed c.names n) (named_nodes c)
