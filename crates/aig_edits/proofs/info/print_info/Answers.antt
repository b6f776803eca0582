use Rattle.aig_base.proofs.Words.{sym, subst, ◌∙◌}
use Rattle.aig_circuit.specs.Circuit.{IsCircuit}
use Rattle.aig_format.proofs.Circuits.{IsCircuit-of_file}
use Rattle.aig_edits.specs.Info.{PrintsInfo}
use Rattle.aig_edits.proofs.ReadFiles.{own_of, taken_file}
use Rattle.aig_edits.proofs.info.print_info.Goals as goal

pub new-requires : goal.new-requires
new-requires g c =
    let read = c.in_ok-lists.ensures.circuit in
    subst IsCircuit (sym read.means) (IsCircuit-of_file read.file c.args.limit read.holds.1)

pub returns-clause-reads : goal.returns-clause-reads
returns-clause-reads g c =
    let told = c.in_ok-lists.ensures in
    let written = c.write_info.ensures in
    taken_file g.R.Source.left g.R.Source.failed c.args.limit c.args.r.now c.read.new.r
    (PrintsInfo g.W.Sink.held g.W.Sink.failed c.args.w.now c.write_info.new.w)
    c.in_ok-lists.lists c.write_info.result told.verdict told.circuit written.never_read
    (own_of c.write_info.result written.never_read)
    (λ f fits is. written.prints f (c.new.ensures ∙ is))
