use Rattle.aig_base.proofs.Words.{subst, sym, ◌∙◌, All}
use Rattle.aig_circuit.proofs.Words.{Circuit, IsCircuit, HasConstantInit}
use Rattle.aig_format.proofs.Circuits.{IsCircuit-of_file}
use Rattle.aig_format_laws.proofs.Writable.{plain_starts}
use Rattle.aig_edits.specs.Questions.{PrintsQuestion}
use Rattle.aig_edits.proofs.ReadFiles.{own_of, taken_file}
use Rattle.aig_edits.proofs.printing_question.print_question.Goals as goal

pub new-requires : goal.new-requires
new-requires g c =
    let read = c.in_ok-lists.ensures.circuit in
    subst IsCircuit (sym read.means) (IsCircuit-of_file read.file c.args.limit read.holds.1)

pub write_question-requires-clause-starts : goal.write_question-requires-clause-starts
write_question-requires-clause-starts g c =
    let read = c.in_ok-lists.ensures.circuit in
    subst (λ (d : Circuit). All HasConstantInit d.latchs) (sym (c.new.ensures ∙ read.means))
    (plain_starts read.file)

pub returns-clause-reads : goal.returns-clause-reads
returns-clause-reads g c =
    let told = c.in_ok-lists.ensures in
    let written = c.write_question.ensures in
    taken_file g.R.Source.left g.R.Source.failed c.args.limit c.args.r.now c.read.new.r
    (PrintsQuestion g.W.Sink.held g.W.Sink.failed c.args.k c.args.limit c.args.w.now c.write_question.new.w)
    c.in_ok-lists.lists c.write_question.result told.verdict told.circuit written.never_read
    (own_of c.write_question.result written.never_read)
    (λ f fits is. written.prints f c.args.limit fits (c.new.ensures ∙ is))
