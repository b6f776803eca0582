use Rattle.aig_base.proofs.Words.{◌≡◌, ℕ, ◌+◌, ◌++◌, List, length, length-append, sym, ◌∙◌, arith, eqb-true, eqb-false, eq-eqb, length-map}
use Rattle.aig_circuit.specs.declared.node.AigLatch.{AigLatch}
use Rattle.aig_circuit.specs.Circuit.{latch_leaves}
use Rattle.aig_circuit.proofs.Counting.{closed-count, count-closed, count-open}
use Rattle.aig_circuit.proofs.leaves.is_closed.Goals as goal

length-named : (inputs : List ℕ) (latchs : List AigLatch) → length (inputs ++ latch_leaves latchs) ≡ length inputs + length latchs
length-named inputs latchs = length-append inputs (latch_leaves latchs) ∙ (let e = length-map latchs (λ (latch : AigLatch). latch.input) in omega arith)

pub returns-clause-closed : goal.returns-clause-closed
returns-clause-closed c =
    let named = length-named c.args.inputs.now c.args.latchs.now in (
      λ h. count-closed c.args.nodes.now c.args.inputs.now c.args.latchs.now c.requires (sym c.count_leaves.ensures ∙ eqb-true _ _ h ∙ sym named),
      λ closed. eq-eqb _ _ (c.count_leaves.ensures ∙ closed-count c.args.nodes.now c.args.inputs.now c.args.latchs.now c.requires closed ∙ named),
    )

pub returns-clause-open : goal.returns-clause-open
returns-clause-open c = λ h.
    let named = length-named c.args.inputs.now c.args.latchs.now in
    count-open c.args.nodes.now c.args.inputs.now c.args.latchs.now c.requires (λ e. eqb-false _ _ h (c.count_leaves.ensures ∙ e ∙ named))
