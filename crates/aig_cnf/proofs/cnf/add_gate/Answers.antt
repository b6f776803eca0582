use Rattle.std.proofs.Common.{[], subst, sym, ◌∙◌, arith, rules}
use Rattle.aig_cnf.specs.Cnf.{clauses_of}
use Rattle.aig_cnf.specs.Marks.{AreClausesOf}
use Rattle.aig_cnf.proofs.Marking.{AddsNeededMarks-form}
use Rattle.aig_cnf.proofs.Needing.{edges_below}
use Rattle.aig_cnf.proofs.Adding.{added_to, clauses_below, nothing_added, AreClausesOf-form}
use Rattle.aig_cnf.proofs.cnf.add_gate.Goals as goal

pub encode_form-requires-clause-below : goal.encode_form-requires-clause-below
encode_form-requires-clause-below c =
    edges_below c.args.nodes.now c.requires.sound.ordered c.args.optimize c.args.id c.in-Some.form
    c.in-Some.ensures

pub add_rel-requires-clause-rel : goal.add_rel-requires-clause-rel
add_rel-requires-clause-rel c =
    let nodes = c.args.nodes.now in
    let id = c.args.id in
    let form = c.in-Some.form in
    let named = edges_below nodes c.requires.sound.ordered c.args.optimize id form c.in-Some.ensures in
    rw c.in_ok-rel.ensures
    (clauses_below _ id form (omega (arith, c.requires.lists, c.requires.there)) named)

pub returns-in_ok-add_rel-clause-marks : goal.returns-in_ok-add_rel-clause-marks
returns-in_ok-add_rel-clause-marks c =
    AddsNeededMarks-form c.args.nodes.now c.args.optimize c.args.marks.now c.mark_form.new.marks
    c.args.id c.in-Some.form c.if-marks-id.true c.in-Some.ensures c.mark_form.ensures

pub returns-in_ok-add_rel-clause-clauses : goal.returns-in_ok-add_rel-clause-clauses
returns-in_ok-add_rel-clause-clauses c =
    let nodes = c.args.nodes.now in
    let id = c.args.id in
    let form = c.in-Some.form in
    let clauses = clauses_of id form in
    let here = AreClausesOf-form nodes c.args.optimize id form c.in-Some.ensures in (
      clauses,
      c.in_ok-add_rel.ensures.ok
          ∙ added_to c.args.lists.now id c.new.result clauses c.in_ok-rel.rel c.new.ensures
          c.in_ok-rel.ensures,
      subst (λ needed. AreClausesOf nodes c.args.optimize needed id clauses)
          (sym c.if-marks-id.true) here,
    )

pub returns-else-marks-id-clause-clauses : goal.returns-else-marks-id-clause-clauses
returns-else-marks-id-clause-clauses c =
    ([], nothing_added c.args.lists.now c.args.id, search rules)

pub mark_form-requires : goal.mark_form-requires
mark_form-requires c = λ k d h.
    omega (arith, c.requires.marks, c.requires.there, edges_below c.args.nodes.now c.requires.sound.ordered c.args.optimize c.args.id c.in-Some.form c.in-Some.ensures k d h)
