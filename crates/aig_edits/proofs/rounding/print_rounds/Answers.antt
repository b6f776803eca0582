use Rattle.aig_base.proofs.Words.{subst, sym, ◌∙◌}
use Rattle.aig_circuit.proofs.Words.{IsCircuit}
use Rattle.aig_format.proofs.Words.{IsWritable}
use Rattle.aig_edits.specs.Rounds.{PrintsRounds}
use Rattle.aig_edits.proofs.ReadFiles.{own_of, taken_file}
use Rattle.aig_edits.proofs.rounding.print_rounds.Goals as goal

pub new-requires : goal.new-requires
new-requires g c =
    let read = c.in_ok-lists.ensures.circuit in
    subst IsCircuit (sym read.means)
    (c.files_are_circuits.ensures.circuit read.file c.args.limit read.holds.1)

pub write_rounds-requires : goal.write_rounds-requires
write_rounds-requires g c =
    let read = c.in_ok-lists.ensures.circuit in
    subst IsWritable (sym (c.new.ensures ∙ read.means))
    (c.files_are_circuits.ensures.writable read.file c.args.limit read.bytes c.requires.few
    read.holds)

pub returns-clause-reads : goal.returns-clause-reads
returns-clause-reads g c =
    let told = c.in_ok-lists.ensures in
    let written = c.write_rounds.ensures in
    taken_file g.R.Source.left g.R.Source.failed c.args.limit c.args.r.now c.read.new.r
    (PrintsRounds g.W.Sink.held g.W.Sink.failed c.args.fairness c.args.count c.args.w.now c.write_rounds.new.w)
    c.in_ok-lists.lists c.write_rounds.result told.verdict told.circuit written.never_read
    (own_of c.write_rounds.result written.never_read)
    (λ f fits is. written.prints f c.args.limit fits (c.new.ensures ∙ is))
