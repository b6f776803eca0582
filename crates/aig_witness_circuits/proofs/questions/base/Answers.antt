use Rattle.aig_witness_circuits.proofs.Words.{All, Frame, IfOk-weaker, IsClaimIn, ap, ap₂, constraint_claims, frame_in, good_claims, made_in, start_claims, subst, sym, ◌++◌, ◌∙◌, ◌≡◌}
use Rattle.aig_witness_circuits.proofs.Deciding.{base_conclusions, base_premises}
use Rattle.aig_witness_circuits.proofs.Exactly.{base_asked}
use Rattle.aig_witness_circuits.proofs.questions.base.Goals as goal
use Rattle.aig_witness_circuits.proofs.questions.base.Goals.{After-deref-5}

module _ (c : After-deref-5) where
  abbrev y : Frame
  y = frame_in c.copy_circuit.new.nodes.items c.in_ok-y.y.items

  premises : c.deref-4.result.now
      ≡ start_claims c.args.witness.now.latchs y.images
      ++ constraint_claims c.args.witness.now y.images
  premises =
      c.deref-4.ensures.value
      ∙ c.in_ok-push_constraints.ensures
      ∙ ap₂ ◌++◌ (c.in_ok-push_starts.ensures
      ∙ ap₂ ◌++◌ c.new-premises.ensures.items
      (ap₂ start_claims c.latchs.ensures.value c.deref.ensures.value))
      (ap (constraint_claims c.args.witness.now) c.deref-2.ensures.value)

  conclusions : c.deref-5.result.now ≡ good_claims c.args.witness.now y.images
  conclusions =
      c.deref-5.ensures.value
      ∙ c.in_ok-push_good.ensures
      ∙ ap₂ ◌++◌ c.new-conclusions.ensures.items
      (ap (good_claims c.args.witness.now) c.deref-3.ensures.value)

pub refuting_edge-requires-clause-premises : goal.refuting_edge-requires-clause-premises
refuting_edge-requires-clause-premises c =
    subst (All (IsClaimIn c.copy_circuit.new.nodes.items)) (sym (premises c))
    (base_premises c.args.witness.now c.copy_circuit.ensures.circuit c.args.nodes.now.items
    c.requires (y c) c.in_ok-y.ensures.exact).there

pub refuting_edge-requires-clause-conclusions : goal.refuting_edge-requires-clause-conclusions
refuting_edge-requires-clause-conclusions c =
    subst (All (IsClaimIn c.copy_circuit.new.nodes.items)) (sym (conclusions c))
    (base_conclusions c.args.witness.now c.copy_circuit.ensures.circuit c.args.nodes.now.items
    c.requires (y c) c.in_ok-y.ensures.exact).there

pub returns-clause-exact : goal.returns-clause-exact
returns-clause-exact c =
    let d = (goal.at.returns-clause-exact c).After-deref-5 in
    IfOk-weaker c.refuting_edge.result _ _
    (λ e made.
    base_asked c.args.witness.now c.args.nodes.now.items
    (made_in c.refuting_edge.new.nodes.items e) c.deref-4.result.now c.deref-5.result.now (y d)
    c.in_ok-y.ensures.exact made (premises d) (conclusions d)) c.refuting_edge.ensures
