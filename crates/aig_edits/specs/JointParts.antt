-- Serves private clauses alone.
-- What the parts of a call on two files do.
use Rattle.std.specs.Prelude.{Option, None, Some, Result, Ok, Err}
use Rattle.aig_circuit.specs.Circuit.{Circuit, IsCircuit}
use Rattle.aig_circuit.specs.View.{lists_circuit}
use Rattle.aig_circuit.specs.declared.view.CircuitLists.{CircuitLists}
use Rattle.aig_format.specs.File.{File}
use Rattle.aig_reader.specs.Reading.{AreListsOf}
use Rattle.aig_edits.specs.declared.pair_error.PairError.{PairError}
use Rattle.aig_edits.specs.declared.pair_error.PairError.TheVariants as errors
use Rattle.aig_edits.specs.declared.pairing.Pairing.{Pairing}
use Rattle.aig_edits.specs.declared.misfit.Misfit.{Misfit}
pub use Rattle.aig_edits.specs.Circuits.{AreMisfit, CanPair, IsJoinOf, counted_circuit}
use Rattle.aig_edits.specs.Joints.{IsJoint}

-- the lists of both were read, and there is no other error
abbrev pub AreListsOfBoth : File → File → Result (CircuitLists × CircuitLists) PairError → Type 0
AreListsOfBoth f g (Ok (own, other)) = AreListsOf f own × AreListsOf g other
AreListsOfBoth f g (Err e) = ⊥

-- these are the first counts that don't fit, if there are any
abbrev pub MayMisfit : Pairing → Circuit → Circuit → Option Misfit → Type 0
MayMisfit pairing a b (Some m) = AreMisfit pairing a b m
MayMisfit pairing a b None = CanPair pairing a b

-- the lists are those of the joint circuit, if the counts fit
abbrev pub IsPaired : Pairing → Circuit → Circuit → Result CircuitLists PairError → Type 0
IsPaired pairing a b (Ok lists) =
    CanPair pairing a b × IsJoint pairing a b (lists_circuit lists)
    × IsCircuit (lists_circuit lists)
IsPaired pairing a b (Err (errors.Misfit m)) = AreMisfit pairing a b m
IsPaired pairing a b (Err errors.Memory) = CanPair pairing a b
IsPaired pairing a b (Err e) = ⊥
