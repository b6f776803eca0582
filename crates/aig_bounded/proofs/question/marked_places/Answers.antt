use Rattle.std.proofs.Common.{◌++◌, ◌∷◌, [], cond, take, get_or, sym, ap, ◌∙◌}
use Rattle.aig_bounded.specs.declared.place.Place.{Place}
use Rattle.aig_bounded.specs.Cut.{marked_places}
use Rattle.aig_bounded.proofs.Marked.{marked_more}
use Rattle.aig_bounded.proofs.question.marked_places.Goals as goal
use Rattle.aig_bounded.proofs.question.marked_places.Goals.{then-marks-input+in_ok-push, else-marks-input}

pub loop-i-preserved : goal.loop-i-preserved
loop-i-preserved c =
    let marks = c.args.marks.now in
    let inputs = c.args.inputs.now in
    let places = c.args.places.now in
    let i = c.loop-i.i in
    let e : Place = record { step = 0; leaf = 0 } in
    let so_far = marked_places marks (take i inputs) (take i places) in
    let more = marked_more marks inputs places i 0 e c.requires.count c.loop-i-test.true in
    elim c.if-marks-input.branch [
      | then-marks-input+in_ok-push w ↦
          rw w.kept-is
          (w.in_ok-push.ensures.items ∙ ap (λ l. l ++ get_or places i e ∷ []) c.loop-i.invariant
          ∙ sym (more ∙ ap (λ b. cond b (so_far ++ get_or places i e ∷ []) so_far) w.if-marks-input.true))
      | else-marks-input w ↦
          rw w.kept-is
          (c.loop-i.invariant ∙ sym (more ∙ ap (λ b. cond b (so_far ++ get_or places i e ∷ []) so_far) w.if-marks-input.false))
    ]
