use Rattle.aig_base.proofs.Words.{◌<◌, ◌^◌, List, length, sym, ap, ◌∙◌, subst, arith, false≢true, length-map, All}
use Rattle.aig_circuit.specs.declared.edge.AigEdge.{AigEdge}
use Rattle.aig.proofs.Refusing.{lists-numbers, sets-items}
use Rattle.aig.proofs.graph.Aig.is_small.Goals as goal

pub returns-then-not-are_numbers-clause-small : goal.returns-then-not-are_numbers-clause-small
returns-then-not-are_numbers-clause-small c =
    let lists = lists-numbers (λ n. n < 2 ^ 32) c.args.self.now _ _ _ _ _ _ _ (ap length c.inputs.ensures.value) (ap length c.latchs.ensures.value) (ap length c.outputs.ensures.value) (ap length c.bads.ensures.value) (ap length c.constraints.ensures.value) (sym (length-map c.justice.result.now _) ∙ ap length c.justice.ensures.value) (ap length c.fairness.ensures.value) in
    (λ h. absurd (false≢true h), λ small. absurd (false≢true (sym c.if-not-are_numbers.true ∙ c.are_numbers.ensures.1 (lists.1 small.lists))))

pub returns-clause-small : goal.returns-clause-small
returns-clause-small c =
    let lists = lists-numbers (λ n. n < 2 ^ 32) c.args.self.now _ _ _ _ _ _ _ (ap length c.inputs.ensures.value) (ap length c.latchs.ensures.value) (ap length c.outputs.ensures.value) (ap length c.bads.ensures.value) (ap length c.constraints.ensures.value) (sym (length-map c.justice.result.now _) ∙ ap length c.justice.ensures.value) (ap length c.fairness.ensures.value) in
    let sets = sets-items (λ n. n < 2 ^ 32) c.justice-2.result.now in
    let in_view = λ (all : All (λ (set : List AigEdge). length set < 2 ^ 32) _). subst (All (λ (set : List AigEdge). length set < 2 ^ 32)) c.justice-2.ensures.value all in (
      λ h. record { nodes = omega (arith, c.num_nodes.ensures.value); lists = lists.0 (c.are_numbers.ensures.0 c.if-not-are_numbers.false); sets = in_view (sets.0 (c.are_short.ensures.0 h)) },
      λ small. c.are_short.ensures.1 (sets.1 (subst (All (λ (set : List AigEdge). length set < 2 ^ 32)) (sym c.justice-2.ensures.value) small.sets)),
    )
