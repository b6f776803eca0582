use Rattle.aig_answers.proofs.Words.{length, sym, ap, subst, ◌++◌, arith, with_items_is, All, latch_leaves, HasName}
use Rattle.aig_answers.proofs.bounded_checks.naming.leaf_names.Goals as goal

pub returns-clause-named : goal.returns-clause-named
returns-clause-named c =
    let circuit = c.args.circuit.now in
    let written = with_items_is c.in_ok-names.names c.name_leaves.new.names (omega (
      arith,
      c.in_ok-names.names.ok.0,
      ap length c.deref_mut.ensures.value,
    )) in
    subst (λ names. All (HasName circuit names) (circuit.inputs ++ latch_leaves circuit.latchs))
    (sym written) c.name_leaves.ensures

pub returns-clause-count : goal.returns-clause-count
returns-clause-count c =
    let written = with_items_is c.in_ok-names.names c.name_leaves.new.names (omega (
      arith,
      c.in_ok-names.names.ok.0,
      ap length c.deref_mut.ensures.value,
    )) in
    omega (arith, ap length written, ap length c.deref_mut.ensures.value, ap length c.nodes.ensures.value, c.in_ok-names.ensures.len)
