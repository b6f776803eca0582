-- Part of what is promised.
-- What is read.
use Rattle.std.specs.Prelude.{◌≡◌}
use Rattle.aig_circuit.specs.Circuit.{Circuit}
use Rattle.aig_format.specs.File.{File}
use Rattle.aig_format.specs.Circuit.{circuit_of}

-- the circuit is the file's
abbrev pub IsFileCircuit : File → Circuit → Type 0
IsFileCircuit f c = c ≡ circuit_of f
