use Rattle.aig_base.proofs.Words.{ℕ, ◌<◌, ◌↔◌, List, length, subst, sym, ◌∙◌, All, IfOk-weaker}
use Rattle.aig_circuit.proofs.Words.{IsInCone, IsMarked}
use Rattle.aig_cone.proofs.Keeping.{AreKept-marked, refining_roots_within}
use Rattle.aig_cone.proofs.refine.kept_numbers.Goals as goal

pub cone_marks-requires : goal.cone_marks-requires
cone_marks-requires c =
    let nodes = c.args.circuit.now.nodes in
    record { there = subst (λ (ns : List ℕ). All (λ n. n < length nodes) ns) (sym (c.deref.ensures.value ∙ c.in_ok-roots.ensures.1)) (refining_roots_within c.args.circuit.now c.in_ok-roots.ensures.0) }

pub returns : goal.returns
returns c =
    let circuit = c.args.circuit.now in
    let marks = c.in_ok-marks.marks.items in
    let same = subst (λ (roots : List ℕ). (n : ℕ) → IsMarked marks n ↔ IsInCone circuit roots n) (c.deref.ensures.value ∙ c.in_ok-roots.ensures.1) c.in_ok-marks.ensures in
    IfOk-weaker c.marked_numbers.result _ _
    (λ numbers are. (c.in_ok-roots.ensures.0, AreKept-marked circuit marks numbers.items (rw c.deref-2.ensures.value at are) same))
    c.marked_numbers.ensures
