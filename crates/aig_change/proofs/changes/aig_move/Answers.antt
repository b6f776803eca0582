use Rattle.std.proofs.Common.{sym, ap, subst, ◌∙◌}
use Rattle.aig_circuit.proofs.Words.{Circuit, IsCircuit, lists_circuit}
use Rattle.aig_change.specs.Changes.{FoldsConstraints}
use Rattle.aig_change.proofs.changes.aig_move.Goals as goal

pub fold_constraints-requires : goal.fold_constraints-requires
fold_constraints-requires c = record {
  circuit = subst IsCircuit (sym c.in_ok-lists.ensures.copy) c.constraints.ensures.circuit;
  constraints = c.constraints.ensures.value ∙ sym (ap (λ (d : Circuit). d.properties.constraints) c.in_ok-lists.ensures.copy);
}

pub returns-clause-circuit : goal.returns-clause-circuit
returns-clause-circuit c = c.in_ok-fold_constraints.ensures.0

pub returns-clause-moves : goal.returns-clause-moves
returns-clause-moves c = subst (λ old. FoldsConstraints old (lists_circuit c.fold_constraints.new.lists)) c.in_ok-lists.ensures.copy c.in_ok-fold_constraints.ensures.1
