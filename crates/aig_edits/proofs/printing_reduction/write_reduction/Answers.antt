use Rattle.aig_base.proofs.Words.{subst, err_from_is_err_and}
use Rattle.aig.proofs.Texts.{AreTexts-names}
use Rattle.aig_circuit.proofs.Words.{lists_circuit}
use Rattle.aig_format.proofs.Words.{IsWritable}
use Rattle.aig_edit_laws.specs.Reduction.{IsReduced}
use Rattle.aig_edits.proofs.printing_reduction.write_reduction.Goals as goal

pub returns-in_err-write_text-clause-prints : goal.returns-in_err-write_text-clause-prints
returns-in_err-write_text-clause-prints g c =
    let p = err_from_is_err_and c.from_residual-in_err-write_text.result
    c.from_residual-in_err-write_text.ensures.1 in
    let m = lists_circuit c.in_ok-made.made in
    let stops = rw c.new.ensures at c.in_err-write_text.ensures.err in
    rw (p.1, p.2) (λ f bound fits is. (
      m,
      c.reductions_show.ensures f bound m fits (subst IsWritable is c.requires)
          c.in_ok-made.ensures.circuit (AreTexts-names c.in_ok-made.made.names.entries)
          (subst (λ d. IsReduced d m) is c.in_ok-made.ensures.reduced),
      stops,
    ))

pub returns-clause-prints : goal.returns-clause-prints
returns-clause-prints g c = λ f bound fits is.
    let m = lists_circuit c.in_ok-made.made in
    let written = rw c.new.ensures at c.in_ok-write_text.ensures.ok in (
      m,
      c.reductions_show.ensures f bound m fits (subst IsWritable is c.requires)
          c.in_ok-made.ensures.circuit (AreTexts-names c.in_ok-made.made.names.entries)
          (subst (λ d. IsReduced d m) is c.in_ok-made.ensures.reduced),
      written,
      c.in_ok-write_text.ensures.sound,
    )
