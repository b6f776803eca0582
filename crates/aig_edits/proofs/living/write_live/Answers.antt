use Rattle.aig_base.proofs.Words.{err_from_is_err_and}
use Rattle.aig_circuit.proofs.Words.{lists_circuit}
use Rattle.aig_edits.proofs.LiveFiles.{prints_none}
use Rattle.aig_edits.proofs.living.write_live.Goals as goal

pub returns-in_err-made-clause-prints : goal.returns-in_err-made-clause-prints
returns-in_err-made-clause-prints g c =
    let p = err_from_is_err_and c.from_residual.result c.from_residual.ensures.1 in
    let e = c.in_err-made.field-0.0 in
    rw (p.1, p.2) (λ f bound fits is. prints_none c.args.fairness g.W.Sink.held g.W.Sink.failed
    c.args.w.now f e (c.in_err-made.ensures.gives f bound fits is))

pub returns-in_err-made-clause-never_read : goal.returns-in_err-made-clause-never_read
returns-in_err-made-clause-never_read g c =
    let p = err_from_is_err_and c.from_residual.result c.from_residual.ensures.1 in
    rw (p.1, p.2) c.in_err-made.ensures.never_read

pub returns-in_err-write_text-clause-prints : goal.returns-in_err-write_text-clause-prints
returns-in_err-write_text-clause-prints g c =
    let p = err_from_is_err_and c.from_residual-in_err-write_text.result
    c.from_residual-in_err-write_text.ensures.1 in
    let m = lists_circuit c.in_ok-made.made in
    let stops = rw c.new.ensures at c.in_err-write_text.ensures.err in
    rw (p.1, p.2) (λ f bound fits is. (m, c.in_ok-made.ensures.gives f bound fits is, stops))

pub returns-clause-prints : goal.returns-clause-prints
returns-clause-prints g c = λ f bound fits is.
    let written = rw c.new.ensures at c.in_ok-write_text.ensures.ok in (
      lists_circuit c.in_ok-made.made,
      c.in_ok-made.ensures.gives f bound fits is,
      written,
      c.in_ok-write_text.ensures.sound,
    )
