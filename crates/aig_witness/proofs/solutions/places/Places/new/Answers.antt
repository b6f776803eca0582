use Rattle.aig_witness.proofs.Turning.{turns_from}
use Rattle.aig_witness.proofs.solutions.places.Places.new.Goals as goal

pub invariant_of-result : goal.invariant_of-result
invariant_of-result g c = turns_from (g.C.HasLeaves.circuit c.args.circuit.now) c.in_ok-turns.turns.items c.in_ok-turns.others c.count_others.ensures.circuit.nodes c.in_ok-turns.ensures.turns c.in_ok-turns.ensures.all
