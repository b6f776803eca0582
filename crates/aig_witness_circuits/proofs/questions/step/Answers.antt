use Rattle.aig_witness_circuits.proofs.Words.{All, Frame, HasImage, IfOk-weaker, IsClaimIn, ap, ap₂, constraint_claims, copy_after, frame_in, good_claims, made_in, moved, next_leaves, subst, sym, ◌++◌, ◌∙◌, ◌≡◌}
use Rattle.aig_witness_circuits.proofs.Deciding.{carry2, step_conclusions, step_premises}
use Rattle.aig_witness_circuits.proofs.Exactly.{step_asked}
use Rattle.aig_witness_circuits.proofs.Framed.{first_frame, has_image}
use Rattle.aig_witness_circuits.proofs.questions.step.Goals as goal
use Rattle.aig_witness_circuits.proofs.questions.step.Goals.{After-deref-7}

pub copy_circuit-requires-2-clause-next : goal.copy_circuit-requires-2-clause-next
copy_circuit-requires-2-clause-next c =
    let witness = c.args.witness.now in
    let is = c.copy_circuit.ensures.circuit in
    let y = frame_in c.copy_circuit.new.nodes.items c.in_ok-y.y.items in
    carry2 (λ latchs l. All (λ m. HasImage y.nodes l m.next.node_id) latchs) witness.latchs
    c.latchs.result.now y.images c.deref.result.now (sym c.latchs.ensures.value)
    (sym c.deref.ensures.value)
    (λ k d h. has_image witness.nodes y.nodes y.images
    (first_frame witness is c.args.nodes.now.items c.requires y c.in_ok-y.ensures.exact).copy _
    (is.latchs k d h).next)

module _ (c : After-deref-7) where
  abbrev y : Frame
  y = frame_in c.copy_circuit.new.nodes.items c.in_ok-y.y.items

  abbrev z : Frame
  z = frame_in c.copy_circuit-2.new.nodes.items c.in_ok-z.z.items

  is_z : z ≡ moved c.args.witness.now y.images y.nodes
  is_z =
      c.in_ok-z.ensures.exact
      ∙ ap₂ (λ latchs l. copy_after y.nodes c.args.witness.now (next_leaves latchs l))
      c.latchs.ensures.value c.deref.ensures.value

  premises : c.deref-6.result.now
      ≡ good_claims c.args.witness.now y.images ++ constraint_claims c.args.witness.now y.images
      ++ constraint_claims c.args.witness.now z.images
  premises =
      c.deref-6.ensures.value
      ∙ c.in_ok-push_constraints-2.ensures
      ∙ ap₂ ◌++◌ (c.in_ok-push_constraints.ensures
      ∙ ap₂ ◌++◌ (c.in_ok-push_good.ensures
      ∙ ap₂ ◌++◌ c.new-premises.ensures.items
      (ap (good_claims c.args.witness.now) c.deref-2.ensures.value))
      (ap (constraint_claims c.args.witness.now) c.deref-3.ensures.value))
      (ap (constraint_claims c.args.witness.now) c.deref-4.ensures.value)

  conclusions : c.deref-7.result.now ≡ good_claims c.args.witness.now z.images
  conclusions =
      c.deref-7.ensures.value
      ∙ c.in_ok-push_good-2.ensures
      ∙ ap₂ ◌++◌ c.new-conclusions.ensures.items
      (ap (good_claims c.args.witness.now) c.deref-5.ensures.value)

pub refuting_edge-requires-clause-premises : goal.refuting_edge-requires-clause-premises
refuting_edge-requires-clause-premises c =
    subst (All (IsClaimIn c.copy_circuit-2.new.nodes.items)) (sym (premises c))
    (step_premises c.args.witness.now c.copy_circuit.ensures.circuit c.args.nodes.now.items
    c.requires (y c) c.in_ok-y.ensures.exact (z c) (is_z c)).there

pub refuting_edge-requires-clause-conclusions : goal.refuting_edge-requires-clause-conclusions
refuting_edge-requires-clause-conclusions c =
    subst (All (IsClaimIn c.copy_circuit-2.new.nodes.items)) (sym (conclusions c))
    (step_conclusions c.args.witness.now c.copy_circuit.ensures.circuit c.args.nodes.now.items
    c.requires (y c) c.in_ok-y.ensures.exact (z c) (is_z c)).there

pub returns-clause-exact : goal.returns-clause-exact
returns-clause-exact c =
    let d = (goal.at.returns-clause-exact c).After-deref-7 in
    IfOk-weaker c.refuting_edge.result _ _
    (λ e made.
    step_asked c.args.witness.now c.args.nodes.now.items
    (made_in c.refuting_edge.new.nodes.items e) c.deref-6.result.now c.deref-7.result.now (y d)
    c.in_ok-y.ensures.exact (z d) (is_z d) made (premises d) (conclusions d))
    c.refuting_edge.ensures
