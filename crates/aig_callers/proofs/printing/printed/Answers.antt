use Rattle.aig_base.proofs.Words.{[], ◌∷◌, Some, ap, refl, sym, ◌∙◌, codes}
use Rattle.aig_tool_commands.specs.declared.command.Command.TheVariants as commands
use Rattle.aig_callers.proofs.Text.{call, text_printed}
use Rattle.aig_callers.proofs.printing.printed.Goals as goal

pub returns-in-Done : goal.returns-in-Done
returns-in-Done c =
    let acts = c.in-Done.ensures.words.acts commands.Text (codes "FILE" ∷ []) (call _ c.in_ok-words.ensures) in
    text_printed c.args.bytes.now _ _ _ _ _ (codes "FILE") c.new-out.result c.act.new.w c.into_inner.result.items acts.0 (c.new-out.ensures.held ∙ ap (λ l. Some l) c.new.ensures.items) (sym c.into_inner.ensures) acts.1
    (acts.2.prints (codes "FILE") [] refl (λ is. cc))
