-- The circuits merged are the definition's, to which the laws of merging apply.
use Rattle.aig_base.proofs.Words.{length, sym, subst, IfOk-weaker, on_err_weaker}
use Rattle.aig_circuit.proofs.Words.{Circuit, IsCircuit, lists_circuit}
use Rattle.aig_change.specs.Merge.{PairsRuns, shifted}
use Rattle.aig_change.proofs.Merged.{IsCircuit-merged, PairsRuns-merged}
use Rattle.aig.proofs.Results.{after_either}
use Rattle.aig.proofs.graph.Aig.merge.Goals as goal

pub invariant_of-self : goal.invariant_of-self
invariant_of-self c =
    let first = lists_circuit c.self.inside.lists in
    let other : IsCircuit c.view.result = subst IsCircuit (sym c.view.ensures.value) c.view.ensures.circuit in
    after_either c.merge.result
    (IfOk-weaker c.merge.result _ _ (λ _ made. subst IsCircuit (sym made) (IsCircuit-merged first c.view.result c.self.invariant other)) c.merge.ensures.merged)
    (on_err_weaker c.merge.result (λ same. subst IsCircuit (sym same) c.self.invariant) c.merge.ensures.err)

pub returns-clause-runs : goal.returns-clause-runs
returns-clause-runs c =
    let first = lists_circuit c.self.inside.lists in
    let new = lists_circuit c.merge.new.first in
    let other : IsCircuit c.view.result = subst IsCircuit (sym c.view.ensures.value) c.view.ensures.circuit in
    IfOk-weaker c.merge.result _ _ (λ _ made.
    let pairs : PairsRuns first c.view.result new (shifted (length first.nodes)) =
    subst (λ (joint : Circuit). PairsRuns first c.view.result joint (shifted (length first.nodes))) (sym made) (PairsRuns-merged first c.view.result c.self.invariant other) in
    subst (λ (v : Circuit). PairsRuns c.args.self.now v new (shifted (length c.args.self.now.nodes))) c.view.ensures.value
    (subst (λ (v : Circuit). PairsRuns v c.view.result new (shifted (length v.nodes))) c.self.view_is pairs)) c.merge.ensures.merged
