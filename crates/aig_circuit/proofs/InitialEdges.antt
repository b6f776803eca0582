-- Initial edges that are constant, or not.
use Rattle.std.proofs.Common.{◌≡◌, ◌≢◌, ◌↔◌, Bool, true, false, Option, Some, None, IsTrue, List, nat_eq, refl, subst}
use Rattle.std.specs.Prelude.{All, Any, IfSome, IsSomeAnd, not}
use Rattle.aig_base.proofs.Words.{eqb-false, eqb-true, false≢true, All-weaker}
use Rattle.aig_circuit.specs.declared.edge.AigEdge.{AigEdge}
use Rattle.aig_circuit.specs.declared.node.AigLatch.{AigLatch}
use Rattle.aig_circuit.specs.Edges.{HasConstantInit, HasNonConstantInit}
use Rattle.aig_circuit.proofs.Lists.{All-from_no_Any}

-- an initial edge that isn't open is constant
plain_init : (latch : AigLatch) → ¬ HasNonConstantInit latch → HasConstantInit latch
plain_init latch closed = by_init latch.init closed
  where
    by_init : (o : Option AigEdge) → ¬ IsSomeAnd o (λ e. e.node_id ≢ 0) → IfSome o (λ e. e.node_id ≡ 0)
    by_init None none = tt
    by_init (Some e) none = by_test (nat_eq e.node_id 0) refl
      where
        by_test : (b : Bool) → nat_eq e.node_id 0 ≡ b → e.node_id ≡ 0
        by_test true is = eqb-true e.node_id 0 is
        by_test false is = absurd (none (eqb-false e.node_id 0 is))

pub not_both : (o : Option AigEdge) → IfSome o (λ e. e.node_id ≡ 0) → IsSomeAnd o (λ e. e.node_id ≢ 0) → ⊥
not_both (Some e) plain variable = variable plain
not_both None plain variable = variable

-- the test for one that isn't constant fails exactly where all are
pub all_plain : (latchs : List AigLatch) (r : Bool) → (IsTrue r ↔ Any HasNonConstantInit latchs) → IsTrue (not r) ↔ All HasConstantInit latchs
all_plain latchs false told = (
  λ is. All-weaker (λ latch. ¬ HasNonConstantInit latch) HasConstantInit plain_init latchs (All-from_no_Any HasNonConstantInit latchs (λ any. false≢true (told.1 any))),
  λ all. refl,
)
all_plain latchs true told = (
  λ is. absurd (false≢true is),
  λ all.
      let any = told.0 refl in
      let plain = subst HasConstantInit any.3 (all any.0 any.1 any.2) in
      absurd (not_both any.1.init plain any.4),
)
