use Rattle.aig_base.proofs.Words.{◌↔◌, subst, arith, IsTrue, nat_eq, nat_eq_equiv, take_all}
use Rattle.std.specs.HashSet as bag
use Rattle.std.proofs.lemmas.Map.Views.{exact_unsigned_eq, hash_set_contains_iff}
use Rattle.aig_circuit.specs.Marks.{IsMarked}
use Rattle.aig_cone.proofs.Numbers.{marked-passed, marked-put}
use Rattle.aig_cone.proofs.cone.marked_set.Goals as goal
use Rattle.aig_cone.proofs.cone.marked_set.Goals.{then-marked+in_ok-insert, else-marked}

pub returns : goal.returns
returns c n =
    let set = c.loop-id.set in
    let seen = hash_set_contains_iff nat_eq_equiv exact_unsigned_eq set n in
    let all = subst (λ marks. IsTrue (bag.contains nat_eq set n) ↔ IsMarked marks n) (take_all c.loop-id.id c.args.marks.now (omega arith)) (c.loop-id.invariant n) in
    ((λ has. all.0 (seen.1 has)), λ marked. seen.0 (all.1 marked))

pub loop-id-init : goal.loop-id-init
loop-id-init c q = rw c.new-set.ensures.empty ((λ h. h), λ h. h)

pub loop-id-preserved : goal.loop-id-preserved
loop-id-preserved c =
    let marks = c.args.marks.now in
    elim c.if-marked.branch [
      | then-marked+in_ok-insert w ↦ rw w.set-is (marked-put marks c.loop-id.id (bag.contains nat_eq c.loop-id.set) (bag.contains nat_eq w.insert.new.self) w.if-marked.true w.in_ok-insert.ensures.updates.0 c.loop-id.invariant)
      | else-marked w ↦ rw w.set-is (marked-passed marks c.loop-id.id (bag.contains nat_eq c.loop-id.set) w.if-marked.false c.loop-id.invariant)
    ]
