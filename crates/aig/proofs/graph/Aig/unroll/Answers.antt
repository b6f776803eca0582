-- A step that unrolls adds inputs and gates alone.
use Rattle.aig_base.proofs.Words.{subst, on_ok_weaker}
use Rattle.aig_circuit.proofs.Words.{Circuit, lists_circuit}
use Rattle.aig_unroll.specs.Unroll.{AddsExactly}
use Rattle.aig_unroll.proofs.Exactly.{counted}
use Rattle.aig.proofs.graph.Aig.unroll.Goals as goal

pub returns-clause-adds : goal.returns-clause-adds
returns-clause-adds c =
    let old = lists_circuit c.self.inside.lists in
    let new = lists_circuit c.unroll.new.lists in
    on_ok_weaker c.unroll.result (λ once.
    subst (λ (from : Circuit). AddsExactly from c.args.self.now new) c.view-circuit.ensures.value
    (subst (λ (v : Circuit). AddsExactly c.view-circuit.result v new) c.self.view_is
    (counted c.view-circuit.result old new c.self.invariant once))) c.unroll.ensures.unrolls
