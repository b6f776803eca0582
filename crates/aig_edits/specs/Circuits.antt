-- Part of what is promised.
-- What is made of two circuits: their joint circuit.
use Rattle.std.specs.Prelude.{length, Result, Ok, Err}
use Rattle.aig_circuit.specs.Circuit.{Circuit, IsCircuit}
use Rattle.aig_circuit.specs.View.{lists_circuit}
use Rattle.aig_circuit.specs.declared.view.CircuitLists.{CircuitLists}
use Rattle.aig_format.specs.Writable.{FitsFormat}
use Rattle.aig_join.specs.Certificate.{HasLeavesOf}
use Rattle.aig_join.specs.Miter.{HaveSameCounts}
use Rattle.aig_edits.specs.declared.pair_error.PairError.{PairError}
use Rattle.aig_edits.specs.declared.pair_error.PairError.TheVariants as errors
use Rattle.aig_edits.specs.declared.pairing.Pairing.{Pairing}
use Rattle.aig_edits.specs.declared.pairing.Pairing.TheVariants.{Certificate, Merge, Miter}
use Rattle.aig_edits.specs.declared.misfit.Misfit.{Misfit}
use Rattle.aig_edits.specs.Joints.{Counted, IsJoint, IsMisfit}

-- the circuits' counts fit
abbrev pub CanPair : Pairing → Circuit → Circuit → Type 0
CanPair (Miter comparison) a b = HaveSameCounts a b
CanPair Certificate a b = HasLeavesOf b a
CanPair Merge a b = Unit {0}

-- the counts of a circuit
abbrev pub counted_circuit : Circuit → Counted
counted_circuit c = record {
  inputs = length c.inputs;
  latches = length c.latchs;
  outputs = length c.properties.outputs;
  bads = length c.properties.bads;
}

-- the first counts that don't fit
abbrev pub AreMisfit : Pairing → Circuit → Circuit → Misfit → Type 0
AreMisfit pairing a b m = IsMisfit pairing (counted_circuit a) (counted_circuit b) m

-- the lists are those of the joint circuit, if the counts fit and it fits the format
abbrev pub IsJoinOf : Pairing → Circuit → Circuit → Result CircuitLists PairError → Type 0
IsJoinOf pairing a b (Ok lists) =
    CanPair pairing a b × IsJoint pairing a b (lists_circuit lists)
    × IsCircuit (lists_circuit lists) × FitsFormat (lists_circuit lists)
IsJoinOf pairing a b (Err (errors.Misfit m)) = AreMisfit pairing a b m
IsJoinOf pairing a b (Err errors.TooLarge) =
    CanPair pairing a b × ((m : Circuit) × IsJoint pairing a b m × ¬ FitsFormat m)
IsJoinOf pairing a b (Err errors.Memory) = CanPair pairing a b
IsJoinOf pairing a b (Err e) = ⊥
