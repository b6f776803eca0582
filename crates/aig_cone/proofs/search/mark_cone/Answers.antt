use Rattle.aig_base.proofs.Words.{◌≡◌, List, ℕ, subst, ◌∙◌, on_ok_weaker}
use Rattle.aig_circuit.specs.declared.node.AigNodeType.TheVariants.{False}
use Rattle.aig_circuit.proofs.Trees.{kind_at-within}
use Rattle.aig_cone.specs.Marks.{Visits}
use Rattle.aig_cone.proofs.Searching.{IsInCone-reached, stacked-start}
use Rattle.aig_cone.proofs.search.mark_cone.Goals as goal

pub visit-requires : goal.visit-requires
visit-requires c = rw c.requires.lengths (kind_at-within c.args.circuit.now.nodes 0 False c.requires.circuit.nodes.false_first)

pub visit_all-requires : goal.visit_all-requires
visit_all-requires c = rw (c.visit.auto.marks, c.requires.lengths) c.requires.there

pub follow-requires-clause-lengths : goal.follow-requires-clause-lengths
follow-requires-clause-lengths c = c.visit_all.auto.marks ∙ c.visit.auto.marks ∙ c.requires.lengths

pub follow-requires-clause-stacked : goal.follow-requires-clause-stacked
follow-requires-clause-stacked c n =
    let first = subst (λ (stack : List ℕ). Visits c.args.marks.now c.visit.new.marks stack c.visit.new.stack.items (λ k. k ≡ 0)) c.new-stack.ensures.items c.in_ok-visit.ensures in
    (stacked-start c.args.marks.now c.visit.new.marks c.visit_all.new.marks c.visit.new.stack.items c.visit_all.new.stack.items c.args.roots.now c.requires.unmarked first c.in_ok-visit_all.ensures n).0

pub returns : goal.returns
returns c =
    let first = subst (λ (stack : List ℕ). Visits c.args.marks.now c.visit.new.marks stack c.visit.new.stack.items (λ k. k ≡ 0)) c.new-stack.ensures.items c.in_ok-visit.ensures in
    let start = stacked-start c.args.marks.now c.visit.new.marks c.visit_all.new.marks c.visit.new.stack.items c.visit_all.new.stack.items c.args.roots.now c.requires.unmarked first c.in_ok-visit_all.ensures in
    on_ok_weaker c.follow.result
    (λ marked n.
    let cone = IsInCone-reached c.args.circuit.now c.args.roots.now c.visit_all.new.stack.items c.requires.circuit (λ k. (start k).1) n in
    let reached = marked n in
    ((λ m. cone.0 (reached.0 m)), λ h. reached.1 (cone.1 h)))
    c.follow.ensures
