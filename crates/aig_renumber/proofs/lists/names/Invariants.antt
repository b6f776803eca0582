use Rattle.aig_circuit.specs.Renumber.{is_in}
use Rattle.aig_renumber.proofs.Names.{NamesSoFar}
use Rattle.aig_renumber.proofs.lists.names.Given as goal

abbrev pub invariant-loop-id : goal.invariant-loop-id
invariant-loop-id l = NamesSoFar l.numbers (is_in l.kept) l.old.entries l.id-iterator l.new.entries
