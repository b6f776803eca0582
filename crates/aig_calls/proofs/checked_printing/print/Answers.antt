use Rattle.aig_answers.specs.Plans.{asked_with}
use Rattle.aig_calls.proofs.Words.{LIMIT, RunsClauses, text_in}
use Rattle.aig_calls.proofs.Given.{on, printed}
use Rattle.aig_calls.proofs.checked_printing.print.Goals as goal

pub returns : goal.returns
returns c =
    let run = c.print_question-done in
    let sink = c.new-sink in
    let text = printed (RunsClauses LIMIT (asked_with c.args.optimize c.args.ask) c.args.file.now)
    sink.result run.new.w run.result sink.ensures.writer c.new.ensures.items (on
    c.new-source.result run.ensures.0 c.new-source.ensures.reader run.ensures.1) in
    (text_in run.result run.new.w.inner.items, text, c.put.ensures)
