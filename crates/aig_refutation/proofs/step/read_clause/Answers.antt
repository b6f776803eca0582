use Rattle.aig_base.proofs.Words.{◌≡◌, List, Err, true, false, sym, ap, ◌∙◌, arith, ne_eqb, err_from_is_err_and}
use Rattle.aig_base.specs.declared.logic.literal.Lit.{Lit}
use Rattle.aig_refutation.specs.Proofs.{is_zero}
use Rattle.aig_refutation.specs.Reading.{reads_clause}
use Rattle.aig_refutation.specs.Tokens.{next_number, place, said_number}
use Rattle.aig_refutation.proofs.LineParts.{clause_broken, clause_done, clause_more, clause_refused}
use Rattle.aig_refutation.proofs.ReadersInTurn.{gives_after, gives_ok, gives_wrong, on_on, on_read, on_start, part_wrong}
use Rattle.aig_refutation.proofs.Plainly.{inside_more}
use Rattle.aig_refutation.proofs.step.read_clause.Goals as goal

pub loop-number-init : goal.loop-number-init
loop-number-init g c = record {
  fewer = omega arith;
  goes = on_start (reads_clause c.args.variables (said_number c.args.first)
      c.args.clause.now.items) (place g.R.Source.left g.R.Source.failed g.R.Source.pulls
      c.args.words.now c.args.r.now);
  inside = λ before. before;
}

pub returns-in_err-literal-clause-clause : goal.returns-in_err-literal-clause-clause
returns-in_err-literal-clause-clause g c =
    let at = place g.R.Source.left g.R.Source.failed g.R.Source.pulls in
    let before = at c.args.words.now c.args.r.now in
    let now = at c.loop-number.words c.loop-number.r in
    let q = reads_clause c.args.variables (said_number c.args.first) c.args.clause.now.items in
    let s = reads_clause c.args.variables (said_number c.loop-number.number)
    c.loop-number.clause.items in
    let e = c.in_err-literal.field-0.0 in
    let p = err_from_is_err_and c.from_residual.result c.from_residual.ensures.1 in
    let more : is_zero (said_number c.loop-number.number) ≡ false = ne_eqb
    c.loop-number.number.value 0 c.loop-number-test.true in
    rw (p.1, p.2)
    (gives_wrong q s before now now (λ (done : Unit {0}). c.loop-number.clause.items) e
    c.loop-number.invariant.goes (λ last ws. clause_refused c.args.variables last (said_number
    c.loop-number.number) c.loop-number.clause.items ws more e
    c.in_err-literal.ensures.literal))

pub returns-in_err-number-clause-clause : goal.returns-in_err-number-clause-clause
returns-in_err-number-clause-clause g c =
    let at = place g.R.Source.left g.R.Source.failed g.R.Source.pulls in
    let before = at c.args.words.now c.args.r.now in
    let now = at c.loop-number.words c.loop-number.r in
    let after = at c.number.new.self c.number.new.r in
    let q = reads_clause c.args.variables (said_number c.args.first) c.args.clause.now.items in
    let n = said_number c.loop-number.number in
    let lits = c.loop-number.clause.items in
    let s = reads_clause c.args.variables n lits in
    let e = c.in_err-number.field-0.0 in
    let view = λ (done : Unit {0}). lits in
    let p = err_from_is_err_and c.from_residual-in_err-number.result
    c.from_residual-in_err-number.ensures.1 in
    let more : is_zero n ≡ false = ne_eqb c.loop-number.number.value 0 c.loop-number-test.true in
    rw (p.1, p.2)
    (gives_after q s before now after view (Err e) c.loop-number.invariant.goes
    (part_wrong next_number s now after after said_number view e c.in_err-number.ensures.number (λ
    last ws. clause_broken c.args.variables last n lits ws more c.in_ok-literal.field-0
    c.in_ok-literal.ensures.literal e)))

pub loop-number-preserved : goal.loop-number-preserved
loop-number-preserved g c =
    let at = place g.R.Source.left g.R.Source.failed g.R.Source.pulls in
    let before = at c.args.words.now c.args.r.now in
    let now = at c.loop-number.words c.loop-number.r in
    let after = at c.number.new.self c.number.new.r in
    let q = reads_clause c.args.variables (said_number c.args.first) c.args.clause.now.items in
    let n = said_number c.loop-number.number in
    let m = said_number c.in_ok-number.number in
    let lits = c.loop-number.clause.items in
    let s = reads_clause c.args.variables n lits in
    let t = reads_clause c.args.variables m c.push.new.list.items in
    let more : is_zero n ≡ false = ne_eqb c.loop-number.number.value 0 c.loop-number-test.true in
    record {
      fewer = let less = c.in_ok-number.ensures.fewer in omega (
        arith,
        less,
        c.loop-number.invariant.fewer,
      );
      goes =
          on_on q s before now after t c.loop-number.invariant.goes
          (on_read s t now after after next_number m c.in_ok-number.ensures.number
          (λ last ws rest is. clause_more c.args.variables last n lits ws more
          c.in_ok-literal.field-0 c.in_ok-literal.ensures.literal m rest is
          ∙ ap (λ (items : List Lit). reads_clause c.args.variables m items last rest) (sym
          c.in_ok-push.ensures.items)));
      inside = λ before.
          inside_more c.args.variables lits c.in_ok-literal.field-0 c.push.new.list.items
          (c.loop-number.invariant.inside before) c.in_ok-literal.ensures.inside
          c.in_ok-push.ensures.items;
    }

pub returns-clause-clause : goal.returns-clause-clause
returns-clause-clause g c =
    let at = place g.R.Source.left g.R.Source.failed g.R.Source.pulls in
    let before = at c.args.words.now c.args.r.now in
    let now = at c.loop-number.words c.loop-number.r in
    let q = reads_clause c.args.variables (said_number c.args.first) c.args.clause.now.items in
    let s = reads_clause c.args.variables (said_number c.loop-number.number)
    c.loop-number.clause.items in
    gives_ok q s before now now (λ (done : Unit {0}). c.loop-number.clause.items) tt
    c.loop-number.invariant.goes
    (λ last ws. clause_done c.args.variables last (said_number c.loop-number.number)
    c.loop-number.clause.items ws (ap (λ v. is_zero (true, v)) c.loop-number-test.false))
