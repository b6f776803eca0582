use Rattle.std.proofs.Common.{◌≡◌, map, slice_index, take}
use Rattle.aig_base.proofs.Words.{filter}
use Rattle.aig_circuit.specs.Renumber.{is_in}
use Rattle.aig_renumber.proofs.lists.inputs.Given as goal

abbrev pub invariant-loop-input : goal.invariant-loop-input
invariant-loop-input l = l.new.items ≡ map (slice_index l.numbers) (filter (is_in l.kept) (take l.input-index l.old))
