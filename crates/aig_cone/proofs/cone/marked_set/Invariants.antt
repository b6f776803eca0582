use Rattle.aig_base.proofs.Words.{ℕ, ◌↔◌, take, IsTrue, nat_eq}
use Rattle.std.specs.HashSet as bag
use Rattle.aig_circuit.specs.Marks.{IsMarked}
use Rattle.aig_cone.proofs.cone.marked_set.Given as goal

abbrev pub invariant-loop-id : goal.invariant-loop-id
invariant-loop-id l = (q : ℕ) → IsTrue (bag.contains nat_eq l.set q) ↔ IsMarked (take l.id l.marks) q
