use Rattle.std.proofs.lemmas.List.Elements.{All-append}
use Rattle.aig_answers.proofs.Words.{latch_leaves, HasName}
use Rattle.aig_answers.proofs.bounded_checks.naming.name_leaves.Goals as goal

pub returns : goal.returns
returns c =
    let circuit = c.args.circuit.now in
    All-append (HasName circuit c.name_latchs.new.names) circuit.inputs (latch_leaves
    circuit.latchs)
    (λ i d h. c.name_latchs.ensures.kept _ (c.name_inputs.ensures i d h))
    c.name_latchs.ensures.named
