use Rattle.aig_base.proofs.Words.{ℕ, ◌<◌, ◌↔◌, List, length, subst, sym, ◌∙◌, All, Contains, IfOk-weaker}
use Rattle.aig_circuit.specs.Reach.{IsInCone}
use Rattle.aig_edit_laws.proofs.AskedCones.{asked_nodes_within}
use Rattle.aig_edits.proofs.reducing.asked_cone.Goals as goal

pub coi-requires : goal.coi-requires
coi-requires c =
    let circuit = c.args.circuit.now in
    let roots = c.deref.ensures.value ∙ c.in_ok-roots.ensures.1 in
    record { there = subst (All (λ n. n < length circuit.nodes)) (sym roots) (asked_nodes_within circuit c.in_ok-roots.ensures.0) }

pub returns : goal.returns
returns c =
    let circuit = c.args.circuit.now in
    let roots = c.deref.ensures.value ∙ c.in_ok-roots.ensures.1 in
    IfOk-weaker c.coi.result _ _
    (λ cone same. (c.in_ok-roots.ensures.0, subst (λ (roots : List ℕ). (n : ℕ) → Contains cone.keys n ↔ IsInCone circuit roots n) roots same))
    c.coi.ensures
