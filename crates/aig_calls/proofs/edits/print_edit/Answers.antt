use Rattle.aig_calls.proofs.Words.{LIMIT, MakesEdit, text_in}
use Rattle.aig_calls.proofs.Given.{on, printed}
use Rattle.aig_calls.proofs.edits.print_edit.Goals as goal

pub returns : goal.returns
returns c =
    let run = c.print_edit-done in
    let sink = c.new-sink in
    let text = printed (MakesEdit LIMIT c.args.edit.now c.args.file.now) sink.result run.new.w
    run.result sink.ensures.writer c.new.ensures.items (on c.new-source.result run.new.r
    c.new-source.ensures.reader run.ensures.reads) in
    (text_in run.result run.new.w.inner.items, text, c.put.ensures)
