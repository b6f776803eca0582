use Rattle.aig_answers.proofs.Words.{take, AllZip, IsNamed}
use Rattle.aig_answers.proofs.bounded_checks.naming.name_places.Given as goal

abbrev pub invariant-loop-place : goal.invariant-loop-place
invariant-loop-place l = AllZip (IsNamed l.circuit) (take l.place-index l.places) l.named.items
