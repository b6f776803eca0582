use Rattle.aig_base.proofs.Words.{[], Err, err_from_is_err_and}
use Rattle.aig_refutation.specs.Proofs.{Line, Plain}
use Rattle.aig_refutation.specs.Reading.{reads_clause, reads_dropped}
use Rattle.aig_refutation.specs.Skipping.{end_line}
use Rattle.aig_refutation.specs.Steps.{Drops, Learns}
use Rattle.aig_refutation.specs.Tokens.{next_number, place, said_number}
use Rattle.aig_refutation.proofs.LineForms.{drop_tail, drop_tail_err, drop_tail_ok, dropped_clause, dropped_clause_wrong, dropped_from, dropped_number, dropped_wrong}
use Rattle.aig_refutation.proofs.ReadersInTurn.{gives_after, gives_same, on_on, on_read, part_wrong}
use Rattle.aig_refutation.proofs.step.Step.read_deletion.Goals as goal

abbrev no_step : Line
no_step = Plain (Learns [])

pub returns-in_err-first-clause-step : goal.returns-in_err-first-clause-step
returns-in_err-first-clause-step g c no_clause =
    let at = place g.R.Source.left g.R.Source.failed g.R.Source.pulls in
    let before = at c.args.words.now c.args.r.now in
    let p1 = at c.number.new.self c.number.new.r in
    let q = reads_dropped c.args.variables in
    let view = λ (done : Unit {0}). no_step in
    let e = c.in_err-first.field-0.0 in
    let p = err_from_is_err_and c.from_residual.result c.from_residual.ensures.1 in
    rw (p.1, p.2) (part_wrong next_number q before p1 p1 said_number view e
    c.in_err-first.ensures.number (λ last ws. dropped_wrong c.args.variables last ws e))

pub returns-in_err-read_clause-clause-step : goal.returns-in_err-read_clause-clause-step
returns-in_err-read_clause-clause-step g c no_clause =
    let at = place g.R.Source.left g.R.Source.failed g.R.Source.pulls in
    let before = at c.args.words.now c.args.r.now in
    let p1 = at c.number.new.self c.number.new.r in
    let q = reads_dropped c.args.variables in
    let view = λ (done : Unit {0}). no_step in
    let p2 = at c.read_clause.new.words c.read_clause.new.r in
    let n = said_number c.in_ok-first.first in
    let lits = c.args.self.now.clause.items in
    let rc = reads_clause c.args.variables n lits in
    let s1 = dropped_from c.args.variables n in
    let goes = on_read q s1 before p1 p1 next_number n c.in_ok-first.ensures.number (λ last ws
    more. dropped_number c.args.variables last ws n more) in
    let e = c.in_err-read_clause.field-0.0 in
    let first = λ (done : Unit {0}). c.read_clause.new.clause.items in
    let p = err_from_is_err_and c.from_residual-in_err-read_clause.result
    c.from_residual-in_err-read_clause.ensures.1 in
    rw (p.1, p.2)
    (gives_after q s1 before p1 p2 view (Err e) goes
    (part_wrong rc s1 p1 p2 p2 first view e c.in_err-read_clause.ensures.clause (λ last ws.
    dropped_clause_wrong c.args.variables last ws n lits e)))

pub returns-clause-step : goal.returns-clause-step
returns-clause-step g c no_clause =
    let at = place g.R.Source.left g.R.Source.failed g.R.Source.pulls in
    let before = at c.args.words.now c.args.r.now in
    let p1 = at c.number.new.self c.number.new.r in
    let q = reads_dropped c.args.variables in
    let p2 = at c.read_clause.new.words c.read_clause.new.r in
    let n = said_number c.in_ok-first.first in
    let rc = reads_clause c.args.variables n [] in
    let s1 = dropped_from c.args.variables n in
    let goes = on_read q s1 before p1 p1 next_number n c.in_ok-first.ensures.number (λ last ws
    more. dropped_number c.args.variables last ws n more) in
    let p3 = at c.finish.new.self c.finish.new.r in
    let items = c.read_clause.new.clause.items in
    let view = λ (done : Unit {0}). Plain (Drops items) in
    let given = rw no_clause at c.in_ok-read_clause.ensures.clause in
    let goes2 = on_on q s1 before p1 p2 (drop_tail items) goes (on_read s1 (drop_tail items) p1
    p2 p2 rc items given (λ last ws more. dropped_clause c.args.variables last ws n items more)) in
    gives_after q (drop_tail items) before p2 p3 view c.finish.result goes2
    (gives_same end_line (drop_tail items) p2 p3 (λ (end : Unit {0}). end) view c.finish.result
    c.finish.ensures.ended (λ last ws more done. drop_tail_ok items last ws more done)
    (λ last ws e. drop_tail_err items last ws e))
