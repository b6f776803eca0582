use Rattle.aig_calls.proofs.Words.{LIMIT, MakesJoint, text_in}
use Rattle.aig_calls.proofs.Given.{on, printed}
use Rattle.aig_calls.proofs.pairs.print_pair.Goals as goal

pub returns : goal.returns
returns c =
    let run = c.print_joint-done in
    let sink = c.new-sink in
    let text = printed (MakesJoint LIMIT c.args.pairing c.args.file.now c.args.other.now)
    sink.result run.new.w run.result sink.ensures.writer c.new.ensures.items (on c.new-first.result
    run.new.first c.new-first.ensures.reader (on c.new-second.result run.new.second
    c.new-second.ensures.reader run.ensures.reads)) in
    (text_in run.result run.new.w.inner.items, text, c.put.ensures)
