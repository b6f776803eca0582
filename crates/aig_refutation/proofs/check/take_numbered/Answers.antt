use Rattle.aig_base.proofs.Words.{◌≡◌, ℕ, Err, length, sym, ap, ◌∙◌, err_from_is_err_and, ◌==◌}
use Rattle.aig_refutation.specs.Checking.{added, deleted, taken}
use Rattle.aig_refutation.specs.Tokens.{said_numbers}
use Rattle.aig_refutation.proofs.Known.{tells_on}
use Rattle.aig_refutation.proofs.Outcomes.{adds_last, adds_taken, deletes_more, deletes_taken, empty_length}
use Rattle.aig_refutation.proofs.check.take_numbered.Goals as goal

pub returns-in_err-delete-clause-moves : goal.returns-in_err-delete-clause-moves
returns-in_err-delete-clause-moves c live said is h =
    let e = c.in_err-delete.field-0.0 in
    let p = err_from_is_err_and c.from_residual.result c.from_residual.ensures.1 in
    let same = deletes_taken live c.args.step.now said is c.if-step.true in
    rw (p.1, p.2)
    (tells_on e (deleted live c.deref.result.now ≡ Err e) (taken live said ≡ Err e) (λ
    wrong. same ∙ ap (deleted live) (sym c.deref.ensures.value) ∙ wrong)
    (c.in_err-delete.ensures.moves live h))

pub returns-then-step-clause-moves : goal.returns-then-step-clause-moves
returns-then-step-clause-moves c live said is h =
    let same = deletes_taken live c.args.step.now said is c.if-step.true in
    let then = c.in_ok-delete.ensures.moves live h in (
      then.0,
      same ∙ ap (deleted live) (sym c.deref.ensures.value) ∙ then.1,
      then.2,
      sym (deletes_more live c.args.step.now said is c.if-step.true),
    )

pub returns-in_err-add-clause-moves : goal.returns-in_err-add-clause-moves
returns-in_err-add-clause-moves c live said is h =
    let s = c.args.step.now in
    let e = c.in_err-add.field-0.0 in
    let p = err_from_is_err_and c.from_residual-in_err-add.result
    c.from_residual-in_err-add.ensures.1 in
    let same = adds_taken live s said is c.if-step.false in
    let as_held = ap (λ clause. added live s.number clause c.deref-3.result.now
    (said_numbers c.deref-4.result.now)) c.deref-2.ensures.value
    ∙ ap (λ hints. added live s.number s.clause.items hints
    (said_numbers c.deref-4.result.now)) c.deref-3.ensures.value
    ∙ ap (λ groups. added live s.number s.clause.items s.numbers.items
    (said_numbers groups)) c.deref-4.ensures.value in
    rw (p.1, p.2)
    (tells_on e (added live s.number c.deref-2.result.now c.deref-3.result.now
    (said_numbers c.deref-4.result.now) ≡ Err e)
    (taken live said ≡ Err e) (λ wrong. same ∙ sym as_held ∙ wrong)
    (c.in_err-add.ensures.moves live h))

pub returns-clause-moves : goal.returns-clause-moves
returns-clause-moves c live said is h =
    let s = c.args.step.now in
    let same = adds_taken live s said is c.if-step.false in
    let as_held = ap (λ clause. added live s.number clause c.deref-3.result.now
    (said_numbers c.deref-4.result.now)) c.deref-2.ensures.value
    ∙ ap (λ hints. added live s.number s.clause.items hints
    (said_numbers c.deref-4.result.now)) c.deref-3.ensures.value
    ∙ ap (λ groups. added live s.number s.clause.items s.numbers.items
    (said_numbers groups)) c.deref-4.ensures.value in
    let then = c.in_ok-add.ensures.moves live h in (
      then.0,
      same ∙ sym as_held ∙ then.1,
      then.2,
      c.is_empty.ensures ∙ ap (λ (n : ℕ). n == 0) (sym c.deref-2.ensures.len ∙ ap length
          c.deref-2.ensures.value) ∙ empty_length s.clause.items ∙ sym (adds_last live s said is
          c.if-step.false),
    )
