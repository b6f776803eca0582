use Rattle.aig_base.proofs.Words.{[], ◌∷◌, Some, ap, sym, ◌∙◌, codes}
use Rattle.aig_edits.specs.declared.editing.Edit.TheVariants as edits
use Rattle.aig_edit_commands.specs.declared.command.Command.TheVariants as commands
use Rattle.aig_edit_commands.specs.declared.command.FileCommand.TheVariants as files
use Rattle.aig_callers.proofs.Known.{compress_call, compressed_done}
use Rattle.aig_callers.proofs.instances.printed_of_compress.Goals as goal

pub returns-in-Done : goal.returns-in-Done
returns-in-Done c =
    let acts = c.in-Done.ensures.words.acts 16777216 (commands.File (files.Edit edits.Compress))
    (codes "FILE" ∷ []) (compress_call _ c.in_ok-words_of_compress.ensures) in
    compressed_done c.args.file.now [] _ _ _ _ _ c.new-out.result c.act.new.w
    c.into_inner.result.items (c.new-out.ensures.held ∙ ap (λ l. Some l) c.new.ensures.items)
    (sym c.into_inner.ensures) acts.0 acts.1 acts.2
