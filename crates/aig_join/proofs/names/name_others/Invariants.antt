use Rattle.std.proofs.Common.{◌≡◌, slice_index, take}
use Rattle.aig_base.proofs.Words.{contains_text}
use Rattle.aig_circuit.specs.View.{names_of}
use Rattle.aig_join.specs.Names.{with_names}
use Rattle.aig_join.proofs.names.name_others.Given as goal

abbrev pub invariant-loop-n : goal.invariant-loop-n
invariant-loop-n l = names_of l.names.entries
    ≡ with_names (slice_index l.numbers.table.now) (contains_text l.taken)
    (names_of l.theirs.entries) (names_of l.initial.names.entries) (take l.n-index l.nodes)
