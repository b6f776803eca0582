use Rattle.aig_base.proofs.Words.{refl, subst, sym}
use Rattle.aig_circuit.proofs.Words.{IsCircuit}
use Rattle.aig_format.proofs.Words.{IsWritable}
use Rattle.aig_edits.proofs.ReadFiles.{own_of, refused_file, taken_file}
use Rattle.aig_edit_commands.specs.Acting.{PrintsOfFile}
use Rattle.aig_edit_commands.proofs.Opening.{open_whole}
use Rattle.aig_edit_commands.proofs.acting.print_open.Goals as goal

pub write_flushed-requires-clause-circuit : goal.write_flushed-requires-clause-circuit
write_flushed-requires-clause-circuit g c =
    let read = c.in-Ok.ensures.circuit in
    subst IsCircuit (sym read.means)
    (c.files_are_circuits.ensures.circuit read.file c.args.limit read.holds.1)

pub write_flushed-requires-clause-plain : goal.write_flushed-requires-clause-plain
write_flushed-requires-clause-plain g c =
    let read = c.in-Ok.ensures.circuit in
    subst IsWritable (sym read.means)
    (c.files_are_circuits.ensures.writable read.file c.args.limit read.bytes c.requires.1
    read.holds)

pub returns-in-Ok : goal.returns-in-Ok
returns-in-Ok g c =
    let left = g.R.Source.left in
    let failed = g.R.Source.failed in
    let held = g.W.Sink.held in
    let write_failed = g.W.Sink.failed in
    let limit = c.args.limit in
    let command = c.args.command.now in
    let told = c.in-Ok.ensures in
    let done = c.write_flushed.result in
    let written = c.write_flushed.ensures in
    let w = c.args.w.now in
    let made = c.write_flushed.new.w in
    let reads = taken_file left failed limit c.args.r told.rest
    (PrintsOfFile held write_failed limit command w made) c.in-Ok.lists done told.verdict
    told.circuit
    written.never_read (own_of done written.never_read) (λ f fits is. written.prints f limit fits is)
    in
    rw c.in_whole.ensures (
      told.rest,
      open_whole left failed held write_failed g.W.Flush.flushed
          limit command c.args.r told.rest w made done reads written.never_read written.kept written.done,
    )

pub returns-in-Err : goal.returns-in-Err
returns-in-Err g c =
    let told = c.in-Err.ensures in
    let w = c.args.w.now in (
      told.rest,
      record {
        reads = refused_file g.R.Source.left g.R.Source.failed c.args.limit c.args.r told.rest
            (PrintsOfFile g.W.Sink.held g.W.Sink.failed c.args.limit c.args.command.now w w)
            c.in-Err.refused.error told.verdict told.own;
        kept = λ un. refl;
        done = tt;
        place = told.place;
      },
    )
