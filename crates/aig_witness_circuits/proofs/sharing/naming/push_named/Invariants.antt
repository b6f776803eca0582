use Rattle.aig_witness_circuits.proofs.Words.{take, names_of, node_told, AddsNamed, IsAt}
use Rattle.aig_witness_circuits.proofs.sharing.naming.push_named.Given as goal

abbrev pub invariant-loop-leaf : goal.invariant-loop-leaf
invariant-loop-leaf l =
    AddsNamed (node_told l.variables) (names_of l.names.entries) (take l.leaf-index l.leaves)
    (IsAt l.marks)
    l.fn.shared.items l.shared.items l.taken
