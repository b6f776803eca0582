-- Two circuits have one miter.
use Rattle.aig_base.proofs.Words.{◌≡◌, List, [], ◌∷◌, refl, sym, ap, ap₂, subst, ◌∙◌, inl, inr, same_Some}
use Rattle.aig_circuit.specs.declared.edge.AigEdge.{AigEdge}
use Rattle.aig_circuit.specs.declared.node.AigNode.{AigNode}
use Rattle.aig_circuit.proofs.Words.{inverse, Circuit, FoldsOrAdds}
use Rattle.aig_circuit.specs.Build.{Folds, FoldsOrAddsEq}
use Rattle.aig_circuit.specs.Properties.{no_properties}
use Rattle.aig_circuit.proofs.Joining.{inverse_twice}
use Rattle.aig_unroll.proofs.Framed.{folded-Folds}
use Rattle.aig_join.specs.Joined.{joined}
use Rattle.aig_join.specs.Miter.{DifferInSteps, IsMiter, compared, moved_compared}

-- two edges fold to one
fold_one : (a b e f : AigEdge) → Folds a b e → Folds a b f → e ≡ f
fold_one a b e f p q = same_Some _ _ (sym (folded-Folds a b e p) ∙ folded-Folds a b f q)

-- and the rule makes one edge and the same nodes
rule_one : (old new other : List AigNode) (a b e f : AigEdge) → FoldsOrAdds old new a b e
    → FoldsOrAdds old other a b f → (new ≡ other) × (e ≡ f)
rule_one old new other a b e f (inl p) (inl q) = (p.1 ∙ sym q.1, fold_one a b e f p.0 q.0)
rule_one old new other a b e f (inl p) (inr q) = absurd (q.0 e p.0)
rule_one old new other a b e f (inr p) (inl q) = absurd (p.0 f q.0)
rule_one old new other a b e f (inr p) (inr q) = (p.1.gate ∙ sym q.1.gate, p.1.edge ∙ sym q.1.edge)

-- so does that of equality
eq_one : (old new other : List AigNode) (a b e f : AigEdge) → FoldsOrAddsEq old new a b e
    → FoldsOrAddsEq old other a b f → (new ≡ other) × (e ≡ f)
eq_one old new other a b e f p q =
    let first = rule_one old p.one q.one a b p.both q.both p.is_both q.is_both in
    let second = rule_one q.one p.two q.two (inverse a) (inverse b) p.neither q.neither (subst (λ ns. FoldsOrAdds ns p.two (inverse a) (inverse b) p.neither) first.0 p.is_neither) q.is_neither in
    let moved : FoldsOrAdds q.two new (inverse q.both) (inverse q.neither) (inverse e) =
    subst (λ (g : AigEdge). FoldsOrAdds q.two new (inverse q.both) (inverse g) (inverse e)) second.1
    (subst (λ (g : AigEdge). FoldsOrAdds q.two new (inverse g) (inverse p.neither) (inverse e)) first.1 (subst (λ ns. FoldsOrAdds ns new (inverse p.both) (inverse p.neither) (inverse e)) second.0 p.is_either)) in
    let last = rule_one q.two new other (inverse q.both) (inverse q.neither) (inverse e) (inverse f) moved q.is_either in
    (last.0, sym (inverse_twice e) ∙ ap inverse last.1 ∙ inverse_twice f)

-- and the edges that tell pairs apart
steps_one : (old : List AigNode) (es fs ds gs : List AigEdge) (new other : List AigNode)
    → DifferInSteps old es fs ds new → DifferInSteps old es fs gs other → (ds ≡ gs) × (new ≡ other)
steps_one old [] [] [] [] new other p q = (refl, p ∙ sym q)
steps_one old [] [] [] (g ∷ gs) new other p q = absurd q
steps_one old [] [] (d ∷ ds) gs new other p q = absurd p
steps_one old [] (f ∷ fs) ds gs new other p q = absurd p
steps_one old (e ∷ es) [] ds gs new other p q = absurd p
steps_one old (e ∷ es) (f ∷ fs) [] gs new other p q = absurd p
steps_one old (e ∷ es) (f ∷ fs) (d ∷ ds) [] new other p q = absurd q
steps_one old (e ∷ es) (f ∷ fs) (d ∷ ds) (g ∷ gs) new other p q =
    let first = eq_one old p.0 q.0 e f (inverse d) (inverse g) p.1.rule q.1.rule in
    let edge : d ≡ g = sym (inverse_twice d) ∙ ap inverse first.1 ∙ inverse_twice g in
    let rest = steps_one q.0 es fs ds gs new other (subst (λ ns. DifferInSteps ns es fs ds new) first.0 p.2) q.2 in
    (ap₂ (λ (x : AigEdge) xs. x ∷ xs) edge rest.0, rest.1)

pub one_miter : (a b m n : Circuit) → IsMiter a b m → IsMiter a b n → m ≡ n
one_miter a b m n p q =
    let steps = steps_one (joined 0 a b).nodes (compared a) (moved_compared a b) m.properties.bads n.properties.bads m.nodes n.nodes p.steps q.steps in
    p.rest ∙ ap₂ made steps.1 steps.0 ∙ sym q.rest
  where
    made : List AigNode → List AigEdge → Circuit
    made nodes bads = record (joined 0 a b) {
      nodes = nodes;
      properties = record no_properties { bads = bads; constraints = (joined 0 a b).properties.constraints };
    }
