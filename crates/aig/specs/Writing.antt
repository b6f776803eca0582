-- Part of what is promised.
-- What a writing call returns.
use Rattle.std.specs.Prelude.{All, Any, Result, Ok, Err}
use Rattle.aig_circuit.specs.Circuit.{Circuit, HasFreeLeaf, IsClosed}
use Rattle.aig_format.specs.Writable.{HasLineFeed, FitsFormat, IsWritable, named_nodes}
use Rattle.aig_circuit.specs.Edges.{HasNonConstantInit, HasConstantInit}
use Rattle.aig.specs.declared.aiger.WriteError.{WriteError}
use Rattle.aig.specs.declared.aiger.WriteError.TheVariants as errors

-- a refusal that the circuit alone decides
abbrev pub IsRefusal : WriteError → Type 0
IsRefusal errors.FreeLeaf = Unit {0}
IsRefusal errors.InitialEdge = Unit {0}
IsRefusal errors.Name = Unit {0}
IsRefusal errors.TooLarge = Unit {0}
IsRefusal e = ⊥

-- what an answer tells of the circuit: of the refusals the first that applies, and else that none
-- does
abbrev pub IsVerdictOf : Circuit → Result Unit WriteError → Type 0
IsVerdictOf c (Ok _) = IsWritable c
IsVerdictOf c (Err errors.Memory) = IsWritable c
IsVerdictOf c (Err errors.Stream) = IsWritable c
IsVerdictOf c (Err errors.Open) = IsWritable c
IsVerdictOf c (Err errors.FreeLeaf) = HasFreeLeaf c.nodes c.inputs c.latchs
IsVerdictOf c (Err errors.InitialEdge) = IsClosed c × Any HasNonConstantInit c.latchs
IsVerdictOf c (Err errors.Name) =
    IsClosed c × All HasConstantInit c.latchs × Any (HasLineFeed c.names) (named_nodes c)
IsVerdictOf c (Err errors.TooLarge) =
    IsClosed c × All HasConstantInit c.latchs × All (λ n. ¬ HasLineFeed c.names n) (named_nodes c)
    × ¬ FitsFormat c
