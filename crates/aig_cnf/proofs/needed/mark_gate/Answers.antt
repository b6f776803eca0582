use Rattle.std.proofs.Common.{length, subst, sym, arith}
use Rattle.aig_cnf.specs.Cnf.{clauses_of}
use Rattle.aig_cnf.specs.Marks.{AreClausesOf}
use Rattle.aig_cnf.proofs.Adding.{AreClausesOf-form, clauses_below}
use Rattle.aig_cnf.proofs.Marking.{AddsNeededMarks-form}
use Rattle.aig_cnf.proofs.Needing.{edges_below}
use Rattle.aig_cnf.proofs.needed.mark_gate.Goals as goal

pub mark_form-requires : goal.mark_form-requires
mark_form-requires c = λ k d h.
    omega (arith, c.requires.marks, c.requires.there, edges_below c.args.nodes.now c.requires.sound.ordered c.args.optimize c.args.id c.in-Some.form c.in-Some.ensures k d h)

pub returns-clause-marks : goal.returns-clause-marks
returns-clause-marks c =
    AddsNeededMarks-form c.args.nodes.now c.args.optimize c.args.marks.now c.mark_form.new.marks
    c.args.id c.in-Some.form c.if-marks-id.true c.in-Some.ensures c.mark_form.ensures

pub returns-clause-clauses : goal.returns-clause-clauses
returns-clause-clauses c =
    let nodes = c.args.nodes.now in
    let id = c.args.id in
    let form = c.in-Some.form in
    let clauses = clauses_of id form in
    let named = edges_below nodes c.requires.sound.ordered c.args.optimize id form c.in-Some.ensures in (
      clauses,
      c.count_clauses.ensures.count id,
      clauses_below (length nodes) id form c.requires.there named,
      subst (λ needed. AreClausesOf nodes c.args.optimize needed id clauses)
          (sym c.if-marks-id.true) (AreClausesOf-form nodes c.args.optimize id form c.in-Some.ensures),
    )
