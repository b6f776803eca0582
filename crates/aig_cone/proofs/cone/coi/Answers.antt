use Rattle.aig_base.proofs.Words.{ℕ, IfOk-weaker}
use Rattle.aig_cone.proofs.cone.coi.Goals as goal

pub returns : goal.returns
returns c =
    let marked = λ (n : ℕ). rw (← c.deref.ensures.value) at (c.in_ok-marks.ensures n) in
    IfOk-weaker c.marked_set.result _ _ (λ set same n. ((λ has. (marked n).0 ((same n).0 has)), λ h. (same n).1 ((marked n).1 h))) c.marked_set.ensures
