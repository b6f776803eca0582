-- The refined circuit is the definition's, to which the laws of refining apply.
use Rattle.std.proofs.Common.{sym, subst}
use Rattle.aig_circuit.proofs.Words.{Circuit, IsCircuit, lists_circuit}
use Rattle.aig_cone.specs.Refine.{CutsRuns}
use Rattle.aig_cone.proofs.Refining.{CutsRuns-refined, IsCircuit-refined}
use Rattle.aig.specs.Others.{IsRefined}
use Rattle.aig.proofs.graph.Aig.coi_refine.Goals as goal

pub from_lists-requires : goal.from_lists-requires
from_lists-requires c =
    let made = c.in_ok-lists.ensures in
    let is : IsCircuit c.view.result = subst IsCircuit (sym c.view.ensures.value) c.view.ensures.circuit in
    subst IsCircuit (sym made.2) (IsCircuit-refined c.view.result made.0 is made.1)

pub returns-clause-refined : goal.returns-clause-refined
returns-clause-refined c =
    let made = c.in_ok-lists.ensures in
    let is : IsCircuit c.view.result = subst IsCircuit (sym c.view.ensures.value) c.view.ensures.circuit in
    let refined : IsRefined c.view.result (lists_circuit c.in_ok-lists.lists) c.in_ok-lists.old_numbers = record {
      kept = made.0;
      are_kept = made.1;
      exact = made.2;
      old_numbers = made.3;
      runs = subst (λ (d : Circuit). CutsRuns c.view.result d made.0) (sym made.2) (CutsRuns-refined c.view.result made.0 is made.1);
    } in
    subst (λ (d : Circuit). IsRefined c.args.self.now d c.in_ok-lists.old_numbers) (sym c.from_lists.ensures)
    (subst (λ (v : Circuit). IsRefined v (lists_circuit c.in_ok-lists.lists) c.in_ok-lists.old_numbers) c.view.ensures.value refined)
