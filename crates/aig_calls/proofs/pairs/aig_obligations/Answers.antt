use Rattle.aig_calls.proofs.Words.{LIMIT, RunsCertificate, text_in}
use Rattle.aig_calls.proofs.Given.{on, printed}
use Rattle.aig_calls.proofs.pairs.aig_obligations.Goals as goal

pub returns : goal.returns
returns c =
    let run = c.print_obligations-done in
    let sink = c.new-sink in
    let text = printed (RunsCertificate LIMIT c.args.optimize c.args.file.now c.args.certificate.now)
    sink.result run.new.w run.result sink.ensures.writer
    c.new.ensures.items (on c.new-first.result run.ensures.0 c.new-first.ensures.reader (on
    c.new-second.result run.ensures.1 c.new-second.ensures.reader run.ensures.2)) in
    (text_in run.result run.new.w.inner.items, text, c.put.ensures)
