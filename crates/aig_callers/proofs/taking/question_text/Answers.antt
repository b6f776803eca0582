use Rattle.aig_base.proofs.Words.{Some, ap, sym, ◌∙◌}
use Rattle.aig_callers.proofs.Answered.{printed}
use Rattle.aig_callers.proofs.taking.question_text.Goals as goal

pub returns : goal.returns
returns c =
    printed _ _ _ _ c.args.question 16777216 _ _ _ _ c.args.file.now c.into_inner.result.items tt
    c.in_ok-print_question.ensures.1 c.source_of.ensures (c.new-out.ensures.held
    ∙ ap (λ l. Some l) c.new.ensures.items) (sym c.into_inner.ensures)
