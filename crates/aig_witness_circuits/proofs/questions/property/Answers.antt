use Rattle.aig_witness_circuits.proofs.Words.{All, Frame, HasImage, IfOk-weaker, IsClaimIn, ap, ap₂, beside, constraint_claims, copy_after, frame_in, good_claims, made_in, model_leaf, no_leaf, shared_leaves, subst, sym, ◌++◌, ◌∙◌, ◌≡◌}
use Rattle.aig_witness_circuits.proofs.Deciding.{property_conclusions, property_premises}
use Rattle.aig_witness_circuits.proofs.Exactly.{property_asked}
use Rattle.aig_witness_circuits.proofs.Framed.{first_frame, has_shared}
use Rattle.aig_witness_circuits.proofs.questions.property.Goals as goal
use Rattle.aig_witness_circuits.proofs.questions.property.Goals.{After-deref-7}

pub copy_circuit-requires-2-clause-others : goal.copy_circuit-requires-2-clause-others
copy_circuit-requires-2-clause-others c =
    let x = frame_in c.copy_circuit.new.nodes.items c.in_ok-x.x.items in
    subst (λ l. All (λ p. HasImage x.nodes l p.0) c.args.shared.now) (sym c.deref.ensures.value)
    (has_shared c.args.shared.now c.args.model.now c.args.witness.now c.requires.shared x
    (first_frame c.args.model.now c.copy_circuit.ensures.circuit c.args.nodes.now.items
    c.requires.sound x c.in_ok-x.ensures.exact).copy)

module _ (c : After-deref-7) where
  abbrev x : Frame
  x = frame_in c.copy_circuit.new.nodes.items c.in_ok-x.x.items

  abbrev y : Frame
  y = frame_in c.copy_circuit-2.new.nodes.items c.in_ok-y.y.items

  is_y : y ≡ beside (model_leaf c.args.shared.now) c.args.witness.now x
  is_y =
      c.in_ok-y.ensures.exact
      ∙ ap (λ l. copy_after x.nodes c.args.witness.now
      (shared_leaves (model_leaf c.args.shared.now) l no_leaf)) c.deref.ensures.value

  premises : c.deref-6.result.now
      ≡ constraint_claims c.args.model.now x.images ++ constraint_claims c.args.witness.now y.images
      ++ good_claims c.args.witness.now y.images
  premises =
      c.deref-6.ensures.value
      ∙ c.in_ok-push_good.ensures
      ∙ ap₂ ◌++◌ (c.in_ok-push_constraints-2.ensures
      ∙ ap₂ ◌++◌ (c.in_ok-push_constraints.ensures
      ∙ ap₂ ◌++◌ c.new-premises.ensures.items
      (ap (constraint_claims c.args.model.now) c.deref-2.ensures.value))
      (ap (constraint_claims c.args.witness.now) c.deref-3.ensures.value))
      (ap (good_claims c.args.witness.now) c.deref-4.ensures.value)

  conclusions : c.deref-7.result.now ≡ good_claims c.args.model.now x.images
  conclusions =
      c.deref-7.ensures.value
      ∙ c.in_ok-push_good-2.ensures
      ∙ ap₂ ◌++◌ c.new-conclusions.ensures.items
      (ap (good_claims c.args.model.now) c.deref-5.ensures.value)

pub refuting_edge-requires-clause-premises : goal.refuting_edge-requires-clause-premises
refuting_edge-requires-clause-premises c =
    subst (All (IsClaimIn c.copy_circuit-2.new.nodes.items)) (sym (premises c))
    (property_premises c.args.shared.now c.args.model.now c.args.witness.now
    c.copy_circuit.ensures.circuit c.copy_circuit-2.ensures.circuit c.requires.shared
    c.args.nodes.now.items c.requires.sound (x c) c.in_ok-x.ensures.exact (y c) (is_y c)).there

pub refuting_edge-requires-clause-conclusions : goal.refuting_edge-requires-clause-conclusions
refuting_edge-requires-clause-conclusions c =
    let are : c.deref-7.result.now ≡ good_claims c.args.model.now (x c).images =
    c.deref-7.ensures.value ∙ c.in_ok-push_good-2.ensures
    ∙ ap₂ ◌++◌ c.new-conclusions.ensures.items
    (ap (good_claims c.args.model.now) c.deref-5.ensures.value) in
    subst (All (IsClaimIn c.copy_circuit-2.new.nodes.items)) (sym are)
    (property_conclusions c.args.shared.now c.args.model.now c.args.witness.now
    c.copy_circuit.ensures.circuit c.copy_circuit-2.ensures.circuit c.requires.shared
    c.args.nodes.now.items c.requires.sound (x c) c.in_ok-x.ensures.exact (y c) (is_y c)).there

pub returns-clause-exact : goal.returns-clause-exact
returns-clause-exact c =
    let d = (goal.at.returns-clause-exact c).After-deref-7 in
    IfOk-weaker c.refuting_edge.result _ _
    (λ e made.
    property_asked (model_leaf c.args.shared.now) c.args.model.now c.args.witness.now
    c.args.nodes.now.items (made_in c.refuting_edge.new.nodes.items e) c.deref-6.result.now
    c.deref-7.result.now (x d) (y d) c.in_ok-x.ensures.exact (is_y d) made (premises d)
    (conclusions d)) c.refuting_edge.ensures
