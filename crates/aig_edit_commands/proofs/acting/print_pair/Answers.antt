use Rattle.aig_base.proofs.Words.{refl}
use Rattle.aig_edits.specs.Joints.{IsOwn, PrintsJoint, first_verdict, second_verdict}
use Rattle.aig_edits.proofs.JointFiles.{circuits_read, own_joint}
use Rattle.aig_edits.proofs.Reading.{reads_on}
use Rattle.aig_edit_commands.proofs.Opening.{pair_whole}
use Rattle.aig_edit_commands.proofs.acting.print_pair.Goals as goal

pub write_pair-requires-clause-own : goal.write_pair-requires-clause-own
write_pair-requires-clause-own g c =
    let read = c.in-Ok.ensures.2.reads.answer refl refl in
    let also = read.means in
    (circuits_read c.args.limit read.file also.file read.bytes also.bytes c.in-Ok.own c.in-Ok.other
    read.holds also.holds also.means).0

pub write_pair-requires-clause-other : goal.write_pair-requires-clause-other
write_pair-requires-clause-other g c =
    let read = c.in-Ok.ensures.2.reads.answer refl refl in
    let also = read.means in
    (circuits_read c.args.limit read.file also.file read.bytes also.bytes c.in-Ok.own c.in-Ok.other
    read.holds also.holds also.means).1

pub returns-in-Ok : goal.returns-in-Ok
returns-in-Ok g c =
    let left = g.R.Source.left in
    let failed = g.R.Source.failed in
    let left_of = g.S.Source.left in
    let failed_of = g.S.Source.failed in
    let held = g.W.Sink.held in
    let write_failed = g.W.Sink.failed in
    let limit = c.args.limit in
    let pairing = c.args.pairing in
    let told = c.in-Ok.ensures in
    let done = c.write_pair.result in
    let written = c.write_pair.ensures in
    let w = c.args.w.now in
    let made = c.write_pair.new.w in
    let reads = reads_on left failed left_of failed_of limit c.args.first c.args.second told.0 told.1
    (PrintsJoint held write_failed pairing w made) first_verdict second_verdict IsOwn done
    told.2.reads written.never_read written.never_other
    (own_joint done written.never_read written.never_other)
    (λ f h bytes others is also lists. written.prints f h limit bytes others c.requires.1 is also
    lists.0 lists.1) in
    rw c.in_whole.ensures (
      told.0,
      told.1,
      pair_whole left failed left_of failed_of held
          write_failed g.W.Flush.flushed limit pairing c.args.first told.0 c.args.second told.1 w made done
          reads written.never_read written.never_other written.kept written.done,
    )
