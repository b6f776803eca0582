use Rattle.aig_base.proofs.Words.{err_from_is_err_and}
use Rattle.aig_edits.specs.Info.{info_text}
use Rattle.aig_edits.proofs.Depths.{info_of}
use Rattle.aig_edits.proofs.info.write_info.Goals as goal

pub returns-in_err-write_counts-clause-prints : goal.returns-in_err-write_counts-clause-prints
returns-in_err-write_counts-clause-prints g c =
    let p = err_from_is_err_and c.from_residual-in_err-write_counts.result
    c.from_residual-in_err-write_counts.ensures.1 in
    let counts = c.in_ok-counts.counts in
    rw (p.1, p.2) (λ f is. (
      info_text counts,
      info_of f c.args.circuit.now counts is c.in_ok-counts.ensures,
      c.in_err-write_counts.ensures.err,
    ))

pub returns-clause-prints : goal.returns-clause-prints
returns-clause-prints g c = λ f is.
    let counts = c.in_ok-counts.counts in (
      info_text counts,
      info_of f c.args.circuit.now counts is c.in_ok-counts.ensures,
      c.in_ok-write_counts.ensures.ok,
      c.in_ok-write_counts.ensures.sound,
    )
