use Rattle.aig_base.proofs.Words.{sym, subst, ◌∙◌, false≢true}
use Rattle.aig_circuit.specs.View.{lists_circuit}
use Rattle.aig_format.specs.Writable.{FitsFormat}
use Rattle.aig_edits.proofs.joining.join_of.Goals as goal

pub returns-else-fits_format : goal.returns-else-fits_format
returns-else-fits_format c =
    let paired = rw (c.new.ensures, c.new-2.ensures) at c.in_ok-lists.ensures in
    let large : ¬ FitsFormat (lists_circuit c.in_ok-lists.lists) = λ small. false≢true (sym
    c.if-fits_format.false
    ∙ c.fits_format.ensures.1 (subst FitsFormat (sym c.new-3.ensures) small)) in
    (paired.0, (lists_circuit c.in_ok-lists.lists, paired.1, large))
