use Rattle.aig_base.proofs.Words.{Err, refl, err_from_is_err_and}
use Rattle.aig_edits.specs.Joints.{IsOwn, PrintsJoint, first_verdict, second_verdict}
use Rattle.aig_edits.proofs.JointFiles.{circuits_read, own_joint}
use Rattle.aig_edits.proofs.Reading.{reads_on}
use Rattle.aig_edits.proofs.printing_joints.print_joint.Goals as goal

pub write_joint-requires-clause-first : goal.write_joint-requires-clause-first
write_joint-requires-clause-first g c =
    let read = c.in_ok-own.ensures.answer refl refl in
    let also = read.means in
    (circuits_read c.args.limit read.file also.file read.bytes also.bytes c.in_ok-own.own
    c.in_ok-own.other read.holds also.holds also.means).0

pub write_joint-requires-clause-second : goal.write_joint-requires-clause-second
write_joint-requires-clause-second g c =
    let read = c.in_ok-own.ensures.answer refl refl in
    let also = read.means in
    (circuits_read c.args.limit read.file also.file read.bytes also.bytes c.in_ok-own.own
    c.in_ok-own.other read.holds also.holds also.means).1

pub returns-in_err-own-clause-reads : goal.returns-in_err-own-clause-reads
returns-in_err-own-clause-reads g c =
    let p = err_from_is_err_and c.from_residual.result c.from_residual.ensures.1 in
    let e = c.in_err-own.field-0.0 in
    let told = c.in_err-own.ensures in
    let w = c.args.w.now in
    rw (p.1, p.2) (reads_on g.R.Source.left g.R.Source.failed g.S.Source.left g.S.Source.failed
    c.args.limit c.args.first.now c.args.second.now _ _
    (PrintsJoint g.W.Sink.held g.W.Sink.failed c.args.pairing w w)
    first_verdict second_verdict IsOwn (Err e) told refl refl told.own
    (λ f h bytes others is also none. absurd none))

pub returns-clause-reads : goal.returns-clause-reads
returns-clause-reads g c =
    let made = c.write_joint.result in
    let written = c.write_joint.ensures in
    reads_on g.R.Source.left g.R.Source.failed g.S.Source.left g.S.Source.failed c.args.limit
    c.args.first.now c.args.second.now _ _
    (PrintsJoint g.W.Sink.held g.W.Sink.failed c.args.pairing c.args.w.now c.write_joint.new.w)
    first_verdict second_verdict IsOwn made c.in_ok-own.ensures written.never_read
    written.never_other (own_joint made written.never_read written.never_other)
    (λ f h bytes others is also lists. written.prints f h c.args.limit bytes others c.requires.few
    is also lists.0 lists.1)
