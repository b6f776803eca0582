use Rattle.aig_base.proofs.Words.{subst, err_from_is_err_and}
use Rattle.aig_circuit.proofs.Words.{lists_circuit}
use Rattle.aig_edits.specs.QuestionParts.{IsPlainQuestion}
use Rattle.aig_edits.proofs.Asking.{asks_taken, refused_question}
use Rattle.aig_edits.proofs.printing_question.write_question.Goals as goal

pub returns-in_err-made-clause-prints : goal.returns-in_err-made-clause-prints
returns-in_err-made-clause-prints g c =
    let p = err_from_is_err_and c.from_residual.result c.from_residual.ensures.1 in
    let e = c.in_err-made.field-0.0 in
    rw (p.1, p.2) (λ f bound fits is. refused_question c.args.k c.args.limit g.W.Sink.held
    g.W.Sink.failed c.args.w.now f c.args.circuit.now e is c.in_err-made.ensures)

pub returns-in_err-made-clause-never_read : goal.returns-in_err-made-clause-never_read
returns-in_err-made-clause-never_read g c =
    let p = err_from_is_err_and c.from_residual.result c.from_residual.ensures.1 in
    let e = c.in_err-made.field-0.0 in
    rw (p.1, p.2) (asks_taken c.args.k c.args.limit c.args.circuit.now e c.in_err-made.ensures)

pub returns-in_err-write_text-clause-prints : goal.returns-in_err-write_text-clause-prints
returns-in_err-write_text-clause-prints g c =
    let p = err_from_is_err_and c.from_residual-in_err-write_text.result
    c.from_residual-in_err-write_text.ensures.1 in
    let k = c.args.k in
    let limit = c.args.limit in
    let m = lists_circuit c.in_ok-made.made in
    let stops = rw c.new.ensures at c.in_err-write_text.ensures.err in
    rw (p.1, p.2) (λ f bound fits is. (
      m,
      c.questions_show.ensures k limit bound f m c.requires.few fits
          (subst (λ d. IsPlainQuestion k limit d m) is c.in_ok-made.ensures),
      stops,
    ))

pub returns-clause-prints : goal.returns-clause-prints
returns-clause-prints g c = λ f bound fits is.
    let k = c.args.k in
    let limit = c.args.limit in
    let m = lists_circuit c.in_ok-made.made in
    let written = rw c.new.ensures at c.in_ok-write_text.ensures.ok in (
      m,
      c.questions_show.ensures k limit bound f m c.requires.few fits
          (subst (λ d. IsPlainQuestion k limit d m) is c.in_ok-made.ensures),
      written,
      c.in_ok-write_text.ensures.sound,
    )
