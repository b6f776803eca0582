use Rattle.aig_witness_circuits.proofs.Words.{AigLatch, All, Frame, HasImage, IfOk-weaker, IsClaimIn, List, ap, ap₂, beside, constraint_claims, copy_after, frame_in, made_in, model_leaf, no_leaf, own_among, refl, shared_leaves, start_claims, subst, sym, ◌++◌, ◌∙◌, ◌≡◌}
use Rattle.aig_witness_circuits.proofs.Deciding.{reset_conclusions, reset_premises}
use Rattle.aig_witness_circuits.proofs.Exactly.{own_is, reset_asked}
use Rattle.aig_witness_circuits.proofs.Framed.{first_frame, has_shared}
use Rattle.aig_witness_circuits.proofs.questions.reset.Goals as goal
use Rattle.aig_witness_circuits.proofs.questions.reset.Goals.{After-deref-9}

pub copy_circuit-requires-2-clause-others : goal.copy_circuit-requires-2-clause-others
copy_circuit-requires-2-clause-others c =
    let x = frame_in c.copy_circuit.new.nodes.items c.in_ok-x.x.items in
    subst (λ l. All (λ p. HasImage x.nodes l p.0) c.args.shared.now) (sym c.deref.ensures.value)
    (has_shared c.args.shared.now c.args.model.now c.args.witness.now c.requires.shared x
    (first_frame c.args.model.now c.copy_circuit.ensures.circuit c.args.nodes.now.items
    c.requires.sound x c.in_ok-x.ensures.exact).copy)

module _ (c : After-deref-9) where
  abbrev x : Frame
  x = frame_in c.copy_circuit.new.nodes.items c.in_ok-x.x.items

  abbrev y : Frame
  y = frame_in c.copy_circuit-2.new.nodes.items c.in_ok-y.y.items

  is_y : y ≡ beside (model_leaf c.args.shared.now) c.args.witness.now x
  is_y =
      c.in_ok-y.ensures.exact
      ∙ ap (λ l. copy_after x.nodes c.args.witness.now
      (shared_leaves (model_leaf c.args.shared.now) l no_leaf)) c.deref.ensures.value

  abbrev own : List AigLatch
  own = own_among c.args.shared.now c.args.witness.now.latchs

  premises : c.deref-8.result.now
      ≡ start_claims c.args.model.now.latchs x.images ++ constraint_claims c.args.model.now x.images
      ++ start_claims own y.images
  premises =
      c.deref-8.ensures.value
      ∙ c.in_ok-push_starts-2.ensures
      ∙ ap₂ ◌++◌ (c.in_ok-push_constraints.ensures
      ∙ ap₂ ◌++◌ (c.in_ok-push_starts.ensures
      ∙ ap₂ ◌++◌ c.new-premises.ensures.items
      (ap₂ start_claims c.latchs.ensures.value c.deref-2.ensures.value))
      (ap (constraint_claims c.args.model.now) c.deref-3.ensures.value))
      (ap₂ start_claims (c.deref-4.ensures.value ∙ c.in_ok-own.ensures.exact)
      c.deref-5.ensures.value)

  conclusions : c.deref-9.result.now
      ≡ start_claims c.args.witness.now.latchs y.images
      ++ constraint_claims c.args.witness.now y.images
  conclusions =
      c.deref-9.ensures.value
      ∙ c.in_ok-push_constraints-2.ensures
      ∙ ap₂ ◌++◌ (c.in_ok-push_starts-3.ensures
      ∙ ap₂ ◌++◌ c.new-conclusions.ensures.items
      (ap₂ start_claims c.latchs-2.ensures.value c.deref-6.ensures.value))
      (ap (constraint_claims c.args.witness.now) c.deref-7.ensures.value)

pub refuting_edge-requires-clause-premises : goal.refuting_edge-requires-clause-premises
refuting_edge-requires-clause-premises c =
    let are : c.deref-8.result.now
    ≡ start_claims c.args.model.now.latchs (x c).images
    ++ constraint_claims c.args.model.now (x c).images ++ start_claims (own c) (y c).images =
    c.deref-8.ensures.value ∙ c.in_ok-push_starts-2.ensures
    ∙ ap₂ ◌++◌ (c.in_ok-push_constraints.ensures
    ∙ ap₂ ◌++◌ (c.in_ok-push_starts.ensures
    ∙ ap₂ ◌++◌ c.new-premises.ensures.items
    (ap₂ start_claims c.latchs.ensures.value c.deref-2.ensures.value))
    (ap (constraint_claims c.args.model.now) c.deref-3.ensures.value))
    (ap₂ start_claims (c.deref-4.ensures.value ∙ c.in_ok-own.ensures.exact)
    c.deref-5.ensures.value) in
    subst (All (IsClaimIn c.copy_circuit-2.new.nodes.items)) (sym are)
    (reset_premises c.args.shared.now c.args.model.now c.args.witness.now
    c.copy_circuit.ensures.circuit c.copy_circuit-2.ensures.circuit c.requires.shared
    c.args.nodes.now.items c.requires.sound (x c) c.in_ok-x.ensures.exact (y c) (is_y c) (own c)
    refl).there

pub refuting_edge-requires-clause-conclusions : goal.refuting_edge-requires-clause-conclusions
refuting_edge-requires-clause-conclusions c =
    subst (All (IsClaimIn c.copy_circuit-2.new.nodes.items)) (sym (conclusions c))
    (reset_conclusions c.args.shared.now c.args.model.now c.args.witness.now
    c.copy_circuit.ensures.circuit c.copy_circuit-2.ensures.circuit c.requires.shared
    c.args.nodes.now.items c.requires.sound (x c) c.in_ok-x.ensures.exact (y c) (is_y c) (own c)
    refl).there

pub returns-clause-exact : goal.returns-clause-exact
returns-clause-exact c =
    let d = (goal.at.returns-clause-exact c).After-deref-9 in
    IfOk-weaker c.refuting_edge.result _ _
    (λ e made.
    reset_asked (model_leaf c.args.shared.now) c.args.model.now c.args.witness.now
    c.args.nodes.now.items (made_in c.refuting_edge.new.nodes.items e) c.deref-8.result.now
    c.deref-9.result.now (x d) (y d) c.in_ok-x.ensures.exact (is_y d) (own d)
    (own_is c.args.shared.now c.args.witness.now.latchs) made (premises d) (conclusions d))
    c.refuting_edge.ensures
