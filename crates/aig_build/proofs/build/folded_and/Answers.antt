use Rattle.aig_base.proofs.Words.{◌≡◌, ◌≢◌, Bool, true, false, ◌&&◌, eqb, refl, sym, ap, ◌∙◌, arith, common_steps}
use Rattle.std.proofs.Math.Bool.{beq}
use Rattle.aig_circuit.specs.declared.edge.AigEdge.{AigEdge}
use Rattle.aig_circuit.proofs.Words.{edge_to, inverse, Folds}
use Rattle.aig_circuit.specs.Build.Folds.{true_first, true_second, false_first, false_second, same, opposite}
use Rattle.aig_build.proofs.build.folded_and.Goals.{then-eq-3-via-then-eq-3, then-eq-3-via-else-eq-3+then-eq-4}
use Rattle.aig_build.proofs.build.folded_and.Goals as goal

-- edges that are found equal are equal
same_edge : (a b : AigEdge) (r : Bool) → r ≡ (eqb a.node_id b.node_id && beq a.compl b.compl)
    → r ≡ true → a ≡ b
same_edge a b r is found = grind (arith, common_steps)

-- and others are not
other_edge : (a b : AigEdge) (r : Bool) → r ≡ (eqb a.node_id b.node_id && beq a.compl b.compl)
    → r ≡ false → a ≢ b
other_edge a b r is missed equal = grind (arith, common_steps)

-- where no case stands, nothing folds
none_folds : (a b : AigEdge) → a ≢ edge_to 0 true → b ≢ edge_to 0 true → a ≢ edge_to 0 false
    → b ≢ edge_to 0 false → a ≢ b → a ≢ inverse b → (f : AigEdge) → ¬ Folds a b f
none_folds a b p q r s t u f (true_first h e) = p h
none_folds a b p q r s t u f (true_second h e) = q h
none_folds a b p q r s t u f (false_first h e) = r h
none_folds a b p q r s t u f (false_second h e) = s h
none_folds a b p q r s t u f (same h e) = t h
none_folds a b p q r s t u f (opposite h e) = u h

-- nor where two nodes differ, and none of them is false
apart : (a b : AigEdge) → (a.node_id ≢ 0) × (b.node_id ≢ 0) × (a.node_id ≢ b.node_id)
    → (f : AigEdge) → ¬ Folds a b f
apart a b differ f (true_first h e) = differ.0 (ap (λ (d : AigEdge). d.node_id) h)
apart a b differ f (true_second h e) = differ.1 (ap (λ (d : AigEdge). d.node_id) h)
apart a b differ f (false_first h e) = differ.0 (ap (λ (d : AigEdge). d.node_id) h)
apart a b differ f (false_second h e) = differ.1 (ap (λ (d : AigEdge). d.node_id) h)
apart a b differ f (same h e) = differ.2 (ap (λ (d : AigEdge). d.node_id) h)
apart a b differ f (opposite h e) = differ.2 (ap (λ (d : AigEdge). d.node_id) h)

pub returns-then-are_apart : goal.returns-then-are_apart
returns-then-are_apart c = apart c.args.fanin0 c.args.fanin1 (c.are_apart.ensures.0 c.if-are_apart.true)

pub returns-then-eq : goal.returns-then-eq
returns-then-eq c = true_first (same_edge c.args.fanin0 c.constant.result c.eq.result c.eq.ensures c.if-eq.true ∙ c.constant.ensures) refl

pub returns-then-eq-2 : goal.returns-then-eq-2
returns-then-eq-2 c = true_second (same_edge c.args.fanin1 c.constant-2.result c.eq-2.result c.eq-2.ensures c.if-eq-2.true ∙ c.constant-2.ensures) refl

pub returns-then-eq-3 : goal.returns-then-eq-3
returns-then-eq-3 c = elim c.then-eq-3.branch [
  | then-eq-3-via-then-eq-3 w ↦ false_first (same_edge c.args.fanin0 c.constant-3.result c.eq-3.result c.eq-3.ensures w.if-eq-3.true ∙ c.constant-3.ensures) c.constant-then-eq-3.ensures
  | then-eq-3-via-else-eq-3+then-eq-4 w ↦ false_second (same_edge c.args.fanin1 w.constant-else-eq-3.result w.eq-else-eq-3.result w.eq-else-eq-3.ensures w.if-eq-4.true ∙ w.constant-else-eq-3.ensures) c.constant-then-eq-3.ensures
]

pub returns-then-eq-5 : goal.returns-then-eq-5
returns-then-eq-5 c = same (same_edge c.args.fanin0 c.args.fanin1 c.eq-4.result c.eq-4.ensures c.if-eq-5.true) refl

pub returns-then-eq-6 : goal.returns-then-eq-6
returns-then-eq-6 c = opposite (same_edge c.args.fanin0 c.not.result c.eq-5.result c.eq-5.ensures c.if-eq-6.true ∙ c.not.ensures) c.constant-then-eq-6.ensures

pub returns : goal.returns
returns c =
    none_folds c.args.fanin0 c.args.fanin1
    (λ e. other_edge c.args.fanin0 c.constant.result c.eq.result c.eq.ensures c.if-eq.false (e ∙ sym c.constant.ensures))
    (λ e. other_edge c.args.fanin1 c.constant-2.result c.eq-2.result c.eq-2.ensures c.if-eq-2.false (e ∙ sym c.constant-2.ensures))
    (λ e. other_edge c.args.fanin0 c.constant-3.result c.eq-3.result c.eq-3.ensures c.if-eq-3.false (e ∙ sym c.constant-3.ensures))
    (λ e. other_edge c.args.fanin1 c.constant-else-eq-3.result c.eq-else-eq-3.result c.eq-else-eq-3.ensures c.if-eq-4.false (e ∙ sym c.constant-else-eq-3.ensures))
    (λ e. other_edge c.args.fanin0 c.args.fanin1 c.eq-4.result c.eq-4.ensures c.if-eq-5.false e)
    (λ e. other_edge c.args.fanin0 c.not.result c.eq-5.result c.eq-5.ensures c.if-eq-6.false (e ∙ sym c.not.ensures))
