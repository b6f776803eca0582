use Rattle.aig_witness_circuits.proofs.Words.{All, Frame, HasImage, IfOk-weaker, IsClaimIn, ap, ap₂, beside, constraint_claims, copy_after, frame_in, made_in, model_leaf, move_claims, moved, moved_beside, next_leaves, no_leaf, shared_leaves, subst, sym, ◌++◌, ◌∙◌, ◌≡◌}
use Rattle.aig_witness_circuits.proofs.Deciding.{carry2, copy_x, copy_y, frame_next, transition_conclusions, transition_premises}
use Rattle.aig_witness_circuits.proofs.Exactly.{transition_asked}
use Rattle.aig_witness_circuits.proofs.Framed.{first_frame, has_image, has_shared}
use Rattle.aig_witness_circuits.proofs.questions.transition.Goals as goal
use Rattle.aig_witness_circuits.proofs.questions.transition.Goals.{After-deref-4, After-deref-12}

pub copy_circuit-requires-2-clause-others : goal.copy_circuit-requires-2-clause-others
copy_circuit-requires-2-clause-others c =
    let x = frame_in c.copy_circuit.new.nodes.items c.in_ok-x.x.items in
    subst (λ l. All (λ p. HasImage x.nodes l p.0) c.args.shared.now) (sym c.deref.ensures.value)
    (has_shared c.args.shared.now c.args.model.now c.args.witness.now c.requires.shared x
    (first_frame c.args.model.now c.copy_circuit.ensures.circuit c.args.nodes.now.items
    c.requires.sound x c.in_ok-x.ensures.exact).copy)

pub copy_circuit-requires-3-clause-next : goal.copy_circuit-requires-3-clause-next
copy_circuit-requires-3-clause-next c =
    let model = c.args.model.now in
    let x = frame_in c.copy_circuit.new.nodes.items c.in_ok-x.x.items in
    let y = frame_in c.copy_circuit-2.new.nodes.items c.in_ok-y.y.items in
    carry2 (λ latchs l. All (λ m. HasImage y.nodes l m.next.node_id) latchs) model.latchs
    c.latchs.result.now x.images c.deref-2.result.now (sym c.latchs.ensures.value)
    (sym c.deref-2.ensures.value)
    (λ k d h. has_image model.nodes y.nodes x.images
    (copy_x c.args.shared.now model c.args.witness.now c.copy_circuit.ensures.circuit
    c.copy_circuit-2.ensures.circuit c.requires.shared c.args.nodes.now.items c.requires.sound x
    c.in_ok-x.ensures.exact y
    (c.in_ok-y.ensures.exact
    ∙ ap (λ l. copy_after x.nodes c.args.witness.now
    (shared_leaves (model_leaf c.args.shared.now) l no_leaf)) c.deref.ensures.value)) _
    (c.copy_circuit.ensures.circuit.latchs k d h).next)

module _ (c : After-deref-4) where
  abbrev x : Frame
  x = frame_in c.copy_circuit.new.nodes.items c.in_ok-x.x.items

  abbrev y : Frame
  y = frame_in c.copy_circuit-2.new.nodes.items c.in_ok-y.y.items

  abbrev next : Frame
  next = frame_in c.copy_circuit-3.new.nodes.items c.in_ok-next.next.items

  is_y : y ≡ beside (model_leaf c.args.shared.now) c.args.witness.now x
  is_y =
      c.in_ok-y.ensures.exact
      ∙ ap (λ l. copy_after x.nodes c.args.witness.now
      (shared_leaves (model_leaf c.args.shared.now) l no_leaf)) c.deref.ensures.value

  is_next : next ≡ moved c.args.model.now x.images y.nodes
  is_next =
      c.in_ok-next.ensures.exact
      ∙ ap₂ (λ latchs l. copy_after y.nodes c.args.model.now (next_leaves latchs l))
      c.latchs.ensures.value c.deref-2.ensures.value

pub copy_circuit-requires-4-clause-next : goal.copy_circuit-requires-4-clause-next
copy_circuit-requires-4-clause-next c =
    let witness = c.args.witness.now in
    let last = (next c).nodes in
    carry2 (λ latchs l. All (λ m. HasImage last l m.next.node_id) latchs) witness.latchs
    c.latchs-2.result.now (y c).images c.deref-3.result.now (sym c.latchs-2.ensures.value)
    (sym c.deref-3.ensures.value)
    (λ k d h. has_image witness.nodes last (y c).images
    (copy_y c.args.shared.now c.args.model.now witness
    c.copy_circuit.ensures.circuit c.copy_circuit-2.ensures.circuit c.requires.shared
    c.args.nodes.now.items c.requires.sound (x c) c.in_ok-x.ensures.exact (y c) (is_y c)
    (next c) (is_next c)) _
    (c.copy_circuit-2.ensures.circuit.latchs k d h).next)

pub copy_circuit-requires-4-clause-others : goal.copy_circuit-requires-4-clause-others
copy_circuit-requires-4-clause-others c =
    subst (λ l. All (λ p. HasImage (next c).nodes l p.0) c.args.shared.now)
    (sym c.deref-4.ensures.value)
    (has_shared c.args.shared.now c.args.model.now c.args.witness.now c.requires.shared (next c)
    (frame_next c.args.shared.now c.args.model.now c.args.witness.now
    c.copy_circuit.ensures.circuit c.copy_circuit-2.ensures.circuit c.requires.shared
    c.args.nodes.now.items c.requires.sound (x c) c.in_ok-x.ensures.exact (y c) (is_y c) (next c)
    (is_next c)).copy)

module _ (c : After-deref-12) where
  abbrev before_z : After-deref-4
  before_z = (goal.at.refuting_edge-requires-clause-premises c).After-deref-4

  abbrev z : Frame
  z = frame_in c.copy_circuit-4.new.nodes.items c.in_ok-z.z.items

  is_z : z ≡ moved_beside (model_leaf c.args.shared.now) c.args.witness.now (y before_z).images
      (next before_z)
  is_z =
      c.in_ok-z.ensures.exact
      ∙ ap₂ (λ others given. copy_after (next before_z).nodes c.args.witness.now
      (shared_leaves (model_leaf c.args.shared.now) others given)) c.deref-4.ensures.value
      (ap₂ next_leaves c.latchs-2.ensures.value c.deref-3.ensures.value)

  premises : c.deref-11.result.now
      ≡ constraint_claims c.args.model.now (x before_z).images
      ++ constraint_claims c.args.model.now (next before_z).images
      ++ constraint_claims c.args.witness.now (y before_z).images
  premises =
      c.deref-11.ensures.value
      ∙ c.in_ok-push_constraints-3.ensures
      ∙ ap₂ ◌++◌ (c.in_ok-push_constraints-2.ensures
      ∙ ap₂ ◌++◌ (c.in_ok-push_constraints.ensures
      ∙ ap₂ ◌++◌ c.new-premises.ensures.items
      (ap (constraint_claims c.args.model.now) c.deref-5.ensures.value))
      (ap (constraint_claims c.args.model.now) c.deref-6.ensures.value))
      (ap (constraint_claims c.args.witness.now) c.deref-7.ensures.value)

  conclusions : c.deref-12.result.now
      ≡ move_claims c.args.witness.now (y before_z).images z.images
      ++ constraint_claims c.args.witness.now z.images
  conclusions =
      c.deref-12.ensures.value
      ∙ c.in_ok-push_constraints-4.ensures
      ∙ ap₂ ◌++◌ (c.in_ok-push_moves.ensures
      ∙ ap₂ ◌++◌ c.new-conclusions.ensures.items
      (ap₂ (move_claims c.args.witness.now) c.deref-8.ensures.value c.deref-9.ensures.value))
      (ap (constraint_claims c.args.witness.now) c.deref-10.ensures.value)

pub refuting_edge-requires-clause-premises : goal.refuting_edge-requires-clause-premises
refuting_edge-requires-clause-premises c =
    let d = before_z c in
    let are : c.deref-11.result.now
    ≡ constraint_claims c.args.model.now (x d).images
    ++ constraint_claims c.args.model.now (next d).images
    ++ constraint_claims c.args.witness.now (y d).images =
    c.deref-11.ensures.value ∙ c.in_ok-push_constraints-3.ensures
    ∙ ap₂ ◌++◌ (c.in_ok-push_constraints-2.ensures
    ∙ ap₂ ◌++◌ (c.in_ok-push_constraints.ensures
    ∙ ap₂ ◌++◌ c.new-premises.ensures.items
    (ap (constraint_claims c.args.model.now) c.deref-5.ensures.value))
    (ap (constraint_claims c.args.model.now) c.deref-6.ensures.value))
    (ap (constraint_claims c.args.witness.now) c.deref-7.ensures.value) in
    subst (All (IsClaimIn c.copy_circuit-4.new.nodes.items)) (sym are)
    (transition_premises c.args.shared.now c.args.model.now c.args.witness.now
    c.copy_circuit.ensures.circuit c.copy_circuit-2.ensures.circuit c.requires.shared
    c.args.nodes.now.items c.requires.sound (x d) c.in_ok-x.ensures.exact (y d) (is_y d) (next d)
    (is_next d) (z c) (is_z c)).there

pub refuting_edge-requires-clause-conclusions : goal.refuting_edge-requires-clause-conclusions
refuting_edge-requires-clause-conclusions c =
    let d = before_z c in
    subst (All (IsClaimIn c.copy_circuit-4.new.nodes.items)) (sym (conclusions c))
    (transition_conclusions c.args.shared.now c.args.model.now c.args.witness.now
    c.copy_circuit.ensures.circuit c.copy_circuit-2.ensures.circuit c.requires.shared
    c.args.nodes.now.items c.requires.sound (x d) c.in_ok-x.ensures.exact (y d) (is_y d) (next d)
    (is_next d) (z c) (is_z c)).there

pub returns-clause-exact : goal.returns-clause-exact
returns-clause-exact c =
    let last = (goal.at.returns-clause-exact c).After-deref-12 in
    let d = before_z last in
    IfOk-weaker c.refuting_edge.result _ _
    (λ e made.
    transition_asked (model_leaf c.args.shared.now) c.args.model.now c.args.witness.now
    c.args.nodes.now.items (made_in c.refuting_edge.new.nodes.items e) c.deref-11.result.now
    c.deref-12.result.now (x d) (y d) c.in_ok-x.ensures.exact (is_y d) (next d) (z last)
    (is_next d) (is_z last) made (premises last) (conclusions last)) c.refuting_edge.ensures
