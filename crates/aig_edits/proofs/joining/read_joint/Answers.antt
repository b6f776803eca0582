use Rattle.std.proofs.Common.{refl}
use Rattle.aig_circuit.specs.View.{lists_circuit}
use Rattle.aig_edits.specs.Joints.{IsOwn, IsJoined, first_verdict, second_verdict}
use Rattle.aig_edits.proofs.JointFiles.{circuits_read, first_taken, join_circuit, join_own, lists_join, second_taken}
use Rattle.aig_edits.proofs.Reading.{reads_on}
use Rattle.aig_edits.proofs.joining.read_joint.Goals as goal

pub join_of-requires-clause-first : goal.join_of-requires-clause-first
join_of-requires-clause-first g c =
    let read = c.in_ok-own.ensures.answer refl refl in
    let also = read.means in
    (circuits_read c.args.limit read.file also.file read.bytes also.bytes c.in_ok-own.own
    c.in_ok-own.other read.holds also.holds also.means).0

pub join_of-requires-clause-second : goal.join_of-requires-clause-second
join_of-requires-clause-second g c =
    let read = c.in_ok-own.ensures.answer refl refl in
    let also = read.means in
    (circuits_read c.args.limit read.file also.file read.bytes also.bytes c.in_ok-own.own
    c.in_ok-own.other read.holds also.holds also.means).1

pub returns-clause-reads : goal.returns-clause-reads
returns-clause-reads g c =
    let own = c.in_ok-own.own in
    let other = c.in_ok-own.other in
    let pairing = c.args.pairing in
    let told = c.join_of.ensures in
    let made = c.join_of.result in
    let a = lists_circuit own in
    let b = lists_circuit other in
    reads_on g.R.Source.left g.R.Source.failed g.S.Source.left g.S.Source.failed c.args.limit
    c.args.first.now c.args.second.now _ _ (IsJoined pairing) first_verdict second_verdict IsOwn
    made
    c.in_ok-own.ensures (first_taken pairing a b made told) (second_taken pairing a b made told)
    (join_own pairing a b made told)
    (λ f h bytes others is also lists. lists_join c.args.limit c.requires.few f h bytes others is
    also pairing own other made told lists)

pub returns-clause-circuit : goal.returns-clause-circuit
returns-clause-circuit g c =
    join_circuit c.args.pairing (lists_circuit c.in_ok-own.own) (lists_circuit c.in_ok-own.other)
    c.join_of.result c.join_of.ensures
