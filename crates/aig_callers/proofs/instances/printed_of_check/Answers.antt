use Rattle.aig_base.proofs.Words.{Some, true, ap, sym, ◌∙◌}
use Rattle.aig_callers.proofs.KnownLines.{printed_done}
use Rattle.aig_callers.proofs.instances.printed_of_check.Goals as goal

pub returns-in-Done : goal.returns-in-Done
returns-in-Done c = λ asked paths further call named.
    let acts = c.in-Done.ensures.words.acts 16777216 asked paths further call in
    printed_done c.args.files.now.file.now c.args.files.now.other.now _ _ _ _ c.new-out.result
    c.act.new.w c.into_inner.result.items
    (c.new-out.ensures.held ∙ ap (λ l. Some l) c.new.ensures.items) (sym c.into_inner.ensures) asked
    paths further named acts.0 acts.1 acts.2
