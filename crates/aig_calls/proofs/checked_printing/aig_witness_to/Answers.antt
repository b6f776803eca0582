use Rattle.aig_check_commands.specs.declared.command.FileCommand.TheVariants as commands
use Rattle.aig_calls.proofs.Words.{LIMIT, RunsOn, text_in}
use Rattle.aig_calls.proofs.Given.{at_step, on, printed}
use Rattle.aig_calls.proofs.checked_printing.aig_witness_to.Goals as goal

pub returns-in-Ok : goal.returns-in-Ok
returns-in-Ok c =
    let step = c.in-Ok.ensures.ok in
    let run = c.print_witness_to-done in
    let sink = c.new-sink in
    let text = printed (RunsOn LIMIT (commands.WitnessTo c.in-Ok.k c.args.optimize) c.args.file.now
    c.args.solution.now) sink.result run.new.w run.result sink.ensures.writer
    c.new.ensures.items (on c.new-source.result run.new.r c.new-source.ensures.reader (on
    c.new-answer.result run.new.solution c.new-answer.ensures.reader run.ensures)) in
    rw (← step.0) (at_step step (text_in run.result run.new.w.inner.items, text, c.put.ensures))
