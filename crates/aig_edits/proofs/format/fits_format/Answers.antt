use Rattle.aig_base.proofs.Words.{◌<◌, ◌^◌, List, length, sym, ap, ◌∙◌, subst, arith, false≢true, length-map, All}
use Rattle.aig_circuit.specs.declared.edge.AigEdge.{AigEdge}
use Rattle.aig.proofs.Refusing.{lists-numbers, sets-items}
use Rattle.aig_edits.proofs.format.fits_format.Goals as goal

pub returns-then-nodes-gt-MOST_NODES : goal.returns-then-nodes-gt-MOST_NODES
returns-then-nodes-gt-MOST_NODES c =
    let many = c.if-nodes-gt-MOST_NODES.true in
    let nodes = ap length c.nodes.ensures.value in
    (λ h. absurd (false≢true h), λ small. let few = small.nodes in absurd (omega arith))

pub returns-then-not-are_numbers : goal.returns-then-not-are_numbers
returns-then-not-are_numbers c =
    let lists = lists-numbers (λ n. n < 2 ^ 32) c.args.circuit.now _ _ _ _ _ _ _
    (ap length c.inputs.ensures.value) (ap length c.latchs.ensures.value)
    (ap length c.outputs.ensures.value) (ap length c.bads.ensures.value)
    (ap length c.constraints.ensures.value)
    (sym (length-map c.justice.result.now _) ∙ ap length c.justice.ensures.value)
    (ap length c.fairness.ensures.value) in (
      λ h. absurd (false≢true h),
      λ small. absurd (false≢true (sym c.if-not-are_numbers.true
          ∙ c.are_numbers.ensures.1 (lists.1 small.lists))),
    )

pub returns : goal.returns
returns c =
    let lists = lists-numbers (λ n. n < 2 ^ 32) c.args.circuit.now _ _ _ _ _ _ _
    (ap length c.inputs.ensures.value) (ap length c.latchs.ensures.value)
    (ap length c.outputs.ensures.value) (ap length c.bads.ensures.value)
    (ap length c.constraints.ensures.value)
    (sym (length-map c.justice.result.now _) ∙ ap length c.justice.ensures.value)
    (ap length c.fairness.ensures.value) in
    let sets = sets-items (λ n. n < 2 ^ 32) c.justice-2.result.now in
    let Short : List (List AigEdge) → Type 0 = All (λ (set : List AigEdge). length set < 2 ^ 32) in
    let nodes = ap length c.nodes.ensures.value in
    let few = c.if-nodes-gt-MOST_NODES.false in (
      λ h. record {
        nodes = omega (arith, nodes, few);
        lists = lists.0 (c.are_numbers.ensures.0 c.if-not-are_numbers.false);
        sets = subst Short c.justice-2.ensures.value (sets.0 (c.are_short.ensures.0 h));
      },
      λ small. c.are_short.ensures.1 (sets.1 (subst Short (sym c.justice-2.ensures.value)
          small.sets)),
    )
