use Rattle.aig_base.proofs.Words.{Some, ap, sym, ◌∙◌}
use Rattle.aig_callers.proofs.Answered.{obligations_printed}
use Rattle.aig_callers.proofs.taking.obligations_text.Goals as goal

pub returns : goal.returns
returns c =
    obligations_printed _ _ _ _ c.args.optimize 16777216 _ _ _ _ _ _ c.args.file.now
    c.args.certificate.now c.into_inner.result.items c.source_of-file.ensures
    c.source_of-certificate.ensures tt c.in_ok-print_obligations.ensures.2
    (c.new-out.ensures.held ∙ ap (λ l. Some l) c.new.ensures.items) (sym c.into_inner.ensures)
