use Rattle.aig_base.proofs.Words.{Some, ap, sym, ◌∙◌}
use Rattle.aig_callers.proofs.Answered.{commanded}
use Rattle.aig_callers.proofs.taking.query_text.Goals as goal

pub returns : goal.returns
returns c =
    commanded _ _ _ _ _ 16777216 _ _ _ _ c.args.file.now c.into_inner.result.items tt
    c.in_ok-run.ensures c.source_of.ensures (c.new-out.ensures.held
    ∙ ap (λ l. Some l) c.new.ensures.items) (sym c.into_inner.ensures)
