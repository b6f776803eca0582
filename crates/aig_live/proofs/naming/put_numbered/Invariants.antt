use Rattle.std.proofs.Common.{◌≡◌, take}
use Rattle.aig_circuit.specs.View.{names_of}
use Rattle.aig_live.specs.Names.{numbered, with_row}
use Rattle.aig_live.proofs.naming.put_numbered.Given as goal

abbrev pub invariant-loop-i : goal.invariant-loop-i
invariant-loop-i l = names_of l.names.entries
    ≡ with_row (names_of l.initial.names.entries) l.node
    (take l.i (numbered l.word l.first l.count))
