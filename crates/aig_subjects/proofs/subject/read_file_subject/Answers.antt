use Rattle.aig_edits.specs.declared.editing.Edit.TheVariants as edits
use Rattle.aig_subjects.specs.declared.subject.FileSubject.TheVariants.{Live, Outputs, Own, Possible, Property, Rounds}
use Rattle.aig_subjects.proofs.FilesRead.{Known, edit_read, file_ready, live_read, rounds_read}
use Rattle.aig_subjects.proofs.subject.read_file_subject.Goals as goal

pub returns-in-Own-clause-ready : goal.returns-in-Own-clause-ready
returns-in-Own-clause-ready g c =
    let known : Known = record {
      closed = c.files_are_circuits.ensures.closed;
      of_files = c.subjects_are_of_files.ensures;
    } in
    file_ready g.R.Source.left g.R.Source.failed c.args.limit c.args.file.now _ c.read_own.result
    known Own c.requires.few c.read_own.ensures.reads c.read_own.ensures.circuit

pub returns-in-Live-clause-reads : goal.returns-in-Live-clause-reads
returns-in-Live-clause-reads g c =
    rw c.in-Live.is (live_read g.R.Source.left g.R.Source.failed c.args.limit c.args.file.now _
    c.read_live.result c.in-Live.fairness c.read_live.ensures.reads)

pub returns-in-Live-clause-ready : goal.returns-in-Live-clause-ready
returns-in-Live-clause-ready g c =
    let known : Known = record {
      closed = c.files_are_circuits.ensures.closed;
      of_files = c.subjects_are_of_files.ensures;
    } in
    file_ready g.R.Source.left g.R.Source.failed c.args.limit c.args.file.now _ c.read_live.result
    known (Live c.in-Live.fairness) c.requires.few
    (live_read g.R.Source.left g.R.Source.failed c.args.limit c.args.file.now _ c.read_live.result
    c.in-Live.fairness c.read_live.ensures.reads) c.read_live.ensures.circuit

pub returns-in-Rounds-clause-reads : goal.returns-in-Rounds-clause-reads
returns-in-Rounds-clause-reads g c =
    rw c.in-Rounds.is (rounds_read g.R.Source.left g.R.Source.failed c.args.limit c.args.file.now _
    c.read_rounds.result c.in-Rounds.fairness c.in-Rounds.rounds c.read_rounds.ensures.reads)

pub returns-in-Rounds-clause-ready : goal.returns-in-Rounds-clause-ready
returns-in-Rounds-clause-ready g c =
    let known : Known = record {
      closed = c.files_are_circuits.ensures.closed;
      of_files = c.subjects_are_of_files.ensures;
    } in
    file_ready g.R.Source.left g.R.Source.failed c.args.limit c.args.file.now _ c.read_rounds.result
    known (Rounds c.in-Rounds.fairness c.in-Rounds.rounds) c.requires.few
    (rounds_read g.R.Source.left g.R.Source.failed c.args.limit c.args.file.now _
    c.read_rounds.result c.in-Rounds.fairness c.in-Rounds.rounds c.read_rounds.ensures.reads)
    c.read_rounds.ensures.circuit

pub returns-in-Property-clause-reads : goal.returns-in-Property-clause-reads
returns-in-Property-clause-reads g c =
    rw c.in-Property.is (edit_read g.R.Source.left g.R.Source.failed c.args.limit c.args.file.now _
    c.read_edit.result (Property c.in-Property.number) (edits.Property c.in-Property.number)
    (λ bound d. tt) (λ f m is. is) (λ f e is. is)
    c.read_edit.ensures.reads)

pub returns-in-Property-clause-ready : goal.returns-in-Property-clause-ready
returns-in-Property-clause-ready g c =
    let known : Known = record {
      closed = c.files_are_circuits.ensures.closed;
      of_files = c.subjects_are_of_files.ensures;
    } in
    file_ready g.R.Source.left g.R.Source.failed c.args.limit c.args.file.now _
    c.read_edit.result known (Property c.in-Property.number) c.requires.few
    (edit_read g.R.Source.left g.R.Source.failed c.args.limit c.args.file.now _
    c.read_edit.result (Property c.in-Property.number) (edits.Property c.in-Property.number)
    (λ bound d. tt) (λ f m is. is) (λ f e is. is)
    c.read_edit.ensures.reads) c.read_edit.ensures.circuit

pub returns-in-Possible-clause-reads : goal.returns-in-Possible-clause-reads
returns-in-Possible-clause-reads g c =
    rw c.in-Possible.is (edit_read g.R.Source.left g.R.Source.failed c.args.limit c.args.file.now _
    c.read_edit-in-Possible.result Possible edits.Possible (λ bound d. tt) (λ f m is. is)
    (λ f e is. is)
    c.read_edit-in-Possible.ensures.reads)

pub returns-in-Possible-clause-ready : goal.returns-in-Possible-clause-ready
returns-in-Possible-clause-ready g c =
    let known : Known = record {
      closed = c.files_are_circuits.ensures.closed;
      of_files = c.subjects_are_of_files.ensures;
    } in
    file_ready g.R.Source.left g.R.Source.failed c.args.limit c.args.file.now _
    c.read_edit-in-Possible.result known Possible c.requires.few
    (edit_read g.R.Source.left g.R.Source.failed c.args.limit c.args.file.now _
    c.read_edit-in-Possible.result Possible edits.Possible (λ bound d. tt) (λ f m is. is)
    (λ f e is. is)
    c.read_edit-in-Possible.ensures.reads) c.read_edit-in-Possible.ensures.circuit

pub returns-in-Outputs-clause-reads : goal.returns-in-Outputs-clause-reads
returns-in-Outputs-clause-reads g c =
    rw c.in-Outputs.is (edit_read g.R.Source.left g.R.Source.failed c.args.limit c.args.file.now _
    c.read_edit-in-Outputs.result Outputs edits.Bads (λ bound d. tt) (λ f m is. is) (λ f e is. is)
    c.read_edit-in-Outputs.ensures.reads)

pub returns-in-Outputs-clause-ready : goal.returns-in-Outputs-clause-ready
returns-in-Outputs-clause-ready g c =
    let known : Known = record {
      closed = c.files_are_circuits.ensures.closed;
      of_files = c.subjects_are_of_files.ensures;
    } in
    file_ready g.R.Source.left g.R.Source.failed c.args.limit c.args.file.now _
    c.read_edit-in-Outputs.result known Outputs c.requires.few
    (edit_read g.R.Source.left g.R.Source.failed c.args.limit c.args.file.now _
    c.read_edit-in-Outputs.result Outputs edits.Bads (λ bound d. tt) (λ f m is. is) (λ f e is. is)
    c.read_edit-in-Outputs.ensures.reads) c.read_edit-in-Outputs.ensures.circuit
