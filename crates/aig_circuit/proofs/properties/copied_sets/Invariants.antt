use Rattle.std.proofs.Common.{◌≡◌, map, take}
use Rattle.aig_circuit.proofs.properties.copied_sets.Given as goal

abbrev pub invariant-loop-set : goal.invariant-loop-set
invariant-loop-set g l = map (λ set. set.items) l.new.items ≡ map (λ set. set.items) (take l.set-index l.old)
