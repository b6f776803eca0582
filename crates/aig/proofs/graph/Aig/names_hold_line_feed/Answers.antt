use Rattle.aig_base.proofs.Words.{◌≡◌, ◌↔◌, ◌++◌, ℕ, List, IsTrue, false, Bool, sym, ◌∙◌, inl, inr, Any, false≢true}
use Rattle.aig_circuit.specs.declared.node.AigLatch.{AigLatch}
use Rattle.aig_circuit.specs.Circuit.{latch_leaves}
use Rattle.aig.proofs.Refusing.{Any-append, Any-latch_leaves}
use Rattle.aig.proofs.graph.Aig.names_hold_line_feed.Goals as goal

-- where no input is named so, some node is exactly if some latch is
among_latches : (P : ℕ → Type 0) (inputs : List ℕ) (latchs : List AigLatch) (r s : Bool) → (IsTrue r ↔ Any P inputs) → r ≡ false → (IsTrue s ↔ Any (λ latch. P latch.input) latchs) → IsTrue s ↔ Any P (inputs ++ latch_leaves latchs)
among_latches P inputs latchs r s first none second = (
  λ h. (Any-append P inputs (latch_leaves latchs)).1 (inr ((Any-latch_leaves P latchs).0 (second.0 h))),
  λ any. elim ((Any-append P inputs (latch_leaves latchs)).0 any) [
    | inl left ↦ absurd (false≢true (sym none ∙ first.1 left))
    | inr right ↦ second.1 ((Any-latch_leaves P latchs).1 right)
  ],
)

pub returns-else-input_has_line_feed : goal.returns-else-input_has_line_feed
returns-else-input_has_line_feed c =
    rw (← c.symbols-symbols.ensures.value, ← c.inputs.ensures.value, ← c.latchs.ensures.value)
    (among_latches _ c.inputs.result.now c.latchs.result.now _ _ c.input_has_line_feed.ensures c.if-input_has_line_feed.false c.latch_has_line_feed.ensures)
