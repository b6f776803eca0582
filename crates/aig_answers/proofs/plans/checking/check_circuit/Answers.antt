use Rattle.aig_answers.proofs.Words.{ap, sym, ◌∙◌, lists_circuit, room_of}
use Rattle.aig_answers.proofs.PlanRooms.{has_room}
use Rattle.aig_answers.proofs.plans.checking.check_circuit.Goals as goal

pub check-requires-clause-room : goal.check-requires-clause-room
check-requires-clause-room g c =
    let a = c.args in
    has_room a.limit a.plan.now (lists_circuit a.circuit)
    (sym (c.in_ok-check_room.ensures ∙ ap (room_of a.limit a.plan.now) c.new.ensures))
