use Rattle.aig_calls.proofs.Words.{LIMIT, MakesQuestion, text_in}
use Rattle.aig_calls.proofs.Given.{at_step, on, printed}
use Rattle.aig_calls.proofs.edits.aig_question.Goals as goal

pub returns-in-Ok : goal.returns-in-Ok
returns-in-Ok c =
    let step = c.in-Ok.ensures.ok in
    let run = c.print_question-done in
    let sink = c.new-sink in
    let text = printed (MakesQuestion LIMIT c.in-Ok.k c.args.file.now) sink.result run.new.w
    run.result sink.ensures.writer c.new.ensures.items (on c.new-source.result run.new.r
    c.new-source.ensures.reader run.ensures.reads) in
    rw (← step.0) (at_step step (text_in run.result run.new.w.inner.items, text, c.put.ensures))
