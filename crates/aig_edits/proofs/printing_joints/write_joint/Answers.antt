use Rattle.aig_base.proofs.Words.{err_from_is_err_and}
use Rattle.aig_circuit.specs.View.{lists_circuit}
use Rattle.aig_edits.proofs.JointFiles.{first_taken, lists_join, second_taken}
use Rattle.aig_edits.proofs.Printed.{refused_print}
use Rattle.std.specs.Prelude.{Err, Ok}
use Rattle.aig_edits.proofs.printing_joints.write_joint.Goals as goal

pub returns-in_err-lists-clause-prints : goal.returns-in_err-lists-clause-prints
returns-in_err-lists-clause-prints g c =
    let p = err_from_is_err_and c.from_residual.result c.from_residual.ensures.1 in
    let e = c.in_err-lists.field-0.0 in
    let w = c.args.w.now in
    rw (p.1, p.2) (λ f h bound bytes others low is also own other.
    refused_print g.W.Sink.held g.W.Sink.failed c.args.pairing w w f h e
    (lists_join bound low f h bytes others is also c.args.pairing c.args.first.now
    c.args.second.now (Err e) c.in_err-lists.ensures (own, other)))

pub returns-in_err-lists-clause-never_read : goal.returns-in_err-lists-clause-never_read
returns-in_err-lists-clause-never_read g c =
    let p = err_from_is_err_and c.from_residual.result c.from_residual.ensures.1 in
    let e = c.in_err-lists.field-0.0 in
    rw (p.1, p.2) (first_taken c.args.pairing (lists_circuit c.args.first.now)
    (lists_circuit c.args.second.now) (Err e) c.in_err-lists.ensures)

pub returns-in_err-lists-clause-never_other : goal.returns-in_err-lists-clause-never_other
returns-in_err-lists-clause-never_other g c =
    let p = err_from_is_err_and c.from_residual.result c.from_residual.ensures.1 in
    let e = c.in_err-lists.field-0.0 in
    rw (p.1, p.2) (second_taken c.args.pairing (lists_circuit c.args.first.now)
    (lists_circuit c.args.second.now) (Err e) c.in_err-lists.ensures)

pub returns-in_err-write_text-clause-prints : goal.returns-in_err-write_text-clause-prints
returns-in_err-write_text-clause-prints g c =
    let r = c.from_residual-in_err-write_text in
    let p = err_from_is_err_and r.result r.ensures.1 in
    let lists = c.in_ok-lists.lists in
    let stops = rw c.new.ensures at c.in_err-write_text.ensures.err in
    rw (p.1, p.2) (λ f h bound bytes others low is also own other. (
      lists_circuit lists,
      lists_join bound low f h bytes others is also c.args.pairing c.args.first.now
          c.args.second.now (Ok lists) c.in_ok-lists.ensures (own, other),
      stops,
    ))

pub returns-clause-prints : goal.returns-clause-prints
returns-clause-prints g c = λ f h bound bytes others low is also own other.
    let lists = c.in_ok-lists.lists in
    let written = rw c.new.ensures at c.in_ok-write_text.ensures.ok in (
      lists_circuit lists,
      lists_join bound low f h bytes others is also c.args.pairing c.args.first.now
          c.args.second.now (Ok lists) c.in_ok-lists.ensures (own, other),
      written,
      c.in_ok-write_text.ensures.sound,
    )
