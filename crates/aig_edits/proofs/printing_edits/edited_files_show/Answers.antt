use Rattle.aig_base.proofs.Words.{◌↔◌, ℕ, Bool, subst, sym}
use Rattle.aig_circuit.specs.Reencode.{new_number, reencoded}
use Rattle.aig_cone.specs.Refine.{refined}
use Rattle.aig_edit_laws.specs.Shown.{HasCircuitOutput, HasCircuitRun}
use Rattle.aig_format.specs.Circuit.{circuit_of, file_of}
use Rattle.aig_format.specs.declared.FileKind.TheVariants.{Text}
use Rattle.aig_edit_laws.specs.Reduction.{HaveSameWitnesses}
use Rattle.aig_runs.specs.CircuitQueries.{HasCircuitWitness}
use Rattle.aig_edits.specs.declared.editing.Edit.TheVariants.{Bads, Compress, Cone, Move, Possible, Property, Reencode, Refine, Unroll}
use Rattle.aig_edits.specs.Edits.{AreAsSafe, CanEdit, EditShows, IsEdited}
use Rattle.aig_edits.proofs.EditedFiles.{can_forth}
use Rattle.aig_edits.proofs.printing_edits.edited_files_show.Goals as goal

pub returns : goal.returns
returns c = λ edit f limit m fits can made again.
    let circuit = circuit_of f in
    let h = file_of Text m in
    let is = c.files_are_circuits.ensures.circuit f limit fits in
    let closed = c.files_are_circuits.ensures.closed f limit fits in
    let written = λ (k : ℕ). c.written_circuits_have_witnesses.ensures m h k again in
    let safe : HaveSameWitnesses circuit m → AreAsSafe f h = c.same_witnesses_are_as_safe.ensures f limit m fits again in
    (elim edit as (λ e. CanEdit e f → IsEdited e circuit m → EditShows e f h) [
      | Refine ↦ λ can (kept, are, exact). safe (subst (HaveSameWitnesses circuit) (sym exact)
          (c.runs_keep_witnesses.ensures.cut circuit (refined kept circuit) kept
          (c.refining_is_circuit.ensures circuit kept is are) (c.refining_keeps_runs.ensures
          circuit kept is are)))
      | Reencode ↦ λ can exact. safe (subst (HaveSameWitnesses circuit) (sym exact)
          (c.runs_keep_witnesses.ensures.renumbered circuit (reencoded circuit) (new_number circuit)
          is (c.reencoding_keeps_runs.ensures circuit is closed)))
      | Unroll k ↦ λ can (unrolls, steps).
          let runs = c.unrolled_witnesses_are_runs.ensures circuit m k unrolls in
          let shown = c.shown_runs_are_machine_runs.ensures.bads f limit k fits in
          (λ w. shown.0 (runs.0 ((written 0).1 w)), λ b. (written 0).0 (runs.1 (shown.1 b)))
      | Move ↦ λ can folds. safe (c.changed_circuits_keep_witnesses.ensures.folded circuit m is
          folds (can_forth Move f can))
      | Compress ↦ λ can compresses. safe (c.changed_circuits_keep_witnesses.ensures.compressed circuit
          m is compresses)
      | Bads ↦ λ can exact k.
          let outputs : HasCircuitWitness m k ↔ HasCircuitOutput circuit k = subst (λ d.
          HasCircuitWitness d k ↔ HasCircuitOutput circuit k) (sym exact)
          (c.outputs_become_bads.ensures circuit k) in
          let shown = c.shown_runs_are_machine_runs.ensures.outputs f limit k fits in
          (λ w. shown.0 (outputs.0 ((written k).1 w)), λ b. (written k).0 (outputs.1 (shown.1 b)))
      | Property n ↦ λ can of k.
          let bad = c.properties_show_their_bad.ensures circuit m n k of in
          let shown = c.shown_runs_are_machine_runs.ensures.bad f limit n k fits in
          (λ w. shown.0 (bad.0 ((written k).1 w)), λ b. (written k).0 (bad.1 (shown.1 b)))
      | Possible ↦ λ can exact k.
          let runs = λ (x : ℕ → ℕ → Bool). c.always_bad_runs_are_runs.ensures circuit k x is in
          let all : HasCircuitWitness m k ↔ HasCircuitRun circuit k = subst (λ d.
          HasCircuitWitness d k ↔ HasCircuitRun circuit k) (sym exact)
          (λ w. (w.0, (runs w.0).0 w.1), λ s. (s.0, (runs s.0).1 s.1)) in
          let shown = c.shown_runs_are_machine_runs.ensures.runs f limit k fits in
          (λ w. shown.0 (all.0 ((written k).1 w)), λ b. (written k).0 (all.1 (shown.1 b)))
      | Cone n ↦ λ can of k.
          let cone = c.cones_show_their_output.ensures circuit m n k is of in
          let text = c.written_circuits_have_outputs.ensures m h k again in
          let shown = c.shown_runs_are_machine_runs.ensures.output f limit n k fits in
          (λ s. shown.0 (cone.0 (text.1 s)), λ s. text.0 (cone.1 (shown.1 s)))
    ]) can made
