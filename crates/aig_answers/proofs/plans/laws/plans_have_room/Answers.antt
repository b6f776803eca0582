use Rattle.aig_answers.proofs.PlanRooms.{has_room}
use Rattle.aig_answers.proofs.plans.laws.plans_have_room.Goals as goal

pub returns : goal.returns
returns c = has_room
