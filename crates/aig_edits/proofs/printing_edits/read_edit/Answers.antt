use Rattle.aig_base.proofs.Words.{subst, sym}
use Rattle.aig_circuit.proofs.Words.{IsCircuit}
use Rattle.aig_format.proofs.Words.{IsWritable}
use Rattle.aig_edits.specs.Edits.{GivesEdit}
use Rattle.aig_edits.proofs.ReadFiles.{own_of, taken_file}
use Rattle.aig_edits.proofs.printing_edits.read_edit.Goals as goal

pub edited_file_of-requires-clause-circuit : goal.edited_file_of-requires-clause-circuit
edited_file_of-requires-clause-circuit g c =
    let read = c.in_ok-lists.ensures.circuit in
    subst IsCircuit (sym read.means)
    (c.files_are_circuits.ensures.circuit read.file c.args.limit read.holds.1)

pub edited_file_of-requires-clause-plain : goal.edited_file_of-requires-clause-plain
edited_file_of-requires-clause-plain g c =
    let read = c.in_ok-lists.ensures.circuit in
    subst IsWritable (sym read.means)
    (c.files_are_circuits.ensures.writable read.file c.args.limit read.bytes c.requires.few
    read.holds)

pub returns-clause-reads : goal.returns-clause-reads
returns-clause-reads g c =
    let told = c.in_ok-lists.ensures in
    let made = c.edited_file_of.ensures in
    taken_file g.R.Source.left g.R.Source.failed c.args.limit c.args.r.now c.read.new.r
    (GivesEdit c.args.edit.now c.args.limit) c.in_ok-lists.lists c.edited_file_of.result
    told.verdict told.circuit made.never_read (own_of c.edited_file_of.result made.never_read)
    (λ f fits is. made.gives f c.args.limit fits is)
