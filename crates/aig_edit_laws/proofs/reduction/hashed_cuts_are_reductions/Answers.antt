use Rattle.std.proofs.Common.{refl}
use Rattle.aig_cone.specs.Refine.{refined}
use Rattle.aig_strash.specs.Strash.{strashed}
use Rattle.aig_edit_laws.specs.Reduction.{asked_alone}
use Rattle.aig_edit_laws.proofs.AskedCones.{IsCircuit-asked}
use Rattle.aig_edit_laws.proofs.Reducing.{reduces}
use Rattle.aig_edit_laws.proofs.reduction.hashed_cuts_are_reductions.Goals as goal

pub returns : goal.returns
returns c old cone kept is is_cone are =
    let asked = asked_alone cone old in
    let is_asked = IsCircuit-asked old cone is in
    let mid = refined kept asked in
    let is_mid = c.refining_is_circuit.ensures asked kept is_asked are in
    reduces old cone kept is is_cone are is_mid (c.refining_keeps_runs.ensures asked kept is_asked are) (c.strashing_keeps_runs.ensures mid is_mid) (strashed mid) refl
