use Rattle.aig_base.proofs.Words.{subst, sym, ◌∙◌, false≢true, err_from_is_err_and}
use Rattle.aig.proofs.Texts.{AreTexts-names}
use Rattle.aig_circuit.proofs.Words.{lists_circuit}
use Rattle.aig_format.specs.Writable.{FitsFormat}
use Rattle.aig_format.specs.declared.FileKind.TheVariants.{Text}
use Rattle.aig_edits.proofs.EditedFiles.{unmade}
use Rattle.aig_edits.proofs.printing_edits.fitting.Goals as goal

pub returns-in_err-made : goal.returns-in_err-made
returns-in_err-made c =
    let p = err_from_is_err_and c.from_residual.result c.from_residual.ensures.1 in
    rw (p.1, p.2) (unmade c.args.edit.now c.args.limit (lists_circuit c.args.circuit)
    c.in_err-made.field-0.0 c.in_err-made.ensures)

pub new-requires : goal.new-requires
new-requires c = c.in_ok-made.ensures.4

pub returns-then-not-fits_format : goal.returns-then-not-fits_format
returns-then-not-fits_format c = (
  c.in_ok-made.made,
  c.in_ok-made.ensures,
  λ small. false≢true (sym c.if-not-fits_format.true
      ∙ c.fits_format.ensures.1 (subst FitsFormat (sym c.new.ensures) small)),
)

pub returns : goal.returns
returns c =
    let m = lists_circuit c.in_ok-made.made in
    let edited = c.in_ok-made.ensures in
    let plain = edited.3 in
    let fits = c.fits_format.ensures.0 c.if-not-fits_format.false in
    let small = subst FitsFormat c.new.ensures fits in (
      edited,
      small,
      c.written_is_read.ensures Text m edited.4 (record {
        closed = plain.closed;
        start = plain.start;
        names = plain.names;
        small = small;
      }) (AreTexts-names c.in_ok-made.made.names.entries) tt,
    )
