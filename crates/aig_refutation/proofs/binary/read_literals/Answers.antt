use Rattle.aig_base.proofs.Words.{arith, err_from_is_err_and}
use Rattle.aig_lexer.specs.Takes.{feed}
use Rattle.aig_refutation.specs.Binary.{literal_by}
use Rattle.aig_refutation.proofs.BinarySteps.{items_end, items_more, items_unread, items_wrong}
use Rattle.aig_refutation.proofs.Plainly.{inside_more}
use Rattle.aig_refutation.proofs.binary.read_literals.Goals as goal

pub returns-in_err-code-clause-clause : goal.returns-in_err-code-clause-clause
returns-in_err-code-clause-clause g c =
    let at = feed g.R.Source.left g.R.Source.failed g.R.Source.pulls in
    let before = at c.args.buffer.now c.args.r.now in
    let mid = at c.loop-code.buffer c.loop-code.r in
    let after = at c.read_code.new.buffer c.read_code.new.r in
    let e = c.in_err-code.field-0.0 in
    let p = err_from_is_err_and c.from_residual.result c.from_residual.ensures.1 in
    rw (p.1, p.2) (items_unread (literal_by c.args.variables) c.args.clause.now.items
    c.loop-code.clause.items before mid c.loop-code.invariant.goes after c.loop-code.clause.items e
    c.in_err-code.ensures.code)

pub returns-then-code-eq0-clause-clause : goal.returns-then-code-eq0-clause-clause
returns-then-code-eq0-clause-clause g c =
    let at = feed g.R.Source.left g.R.Source.failed g.R.Source.pulls in
    let before = at c.args.buffer.now c.args.r.now in
    let mid = at c.loop-code.buffer c.loop-code.r in
    let after = at c.read_code.new.buffer c.read_code.new.r in
    items_end (literal_by c.args.variables) c.args.clause.now.items c.loop-code.clause.items before
    mid c.loop-code.invariant.goes after c.in_ok-code.code c.in_ok-code.ensures.code
    c.if-code-eq0.true

pub returns-in_err-literal-clause-clause : goal.returns-in_err-literal-clause-clause
returns-in_err-literal-clause-clause g c =
    let at = feed g.R.Source.left g.R.Source.failed g.R.Source.pulls in
    let before = at c.args.buffer.now c.args.r.now in
    let mid = at c.loop-code.buffer c.loop-code.r in
    let after = at c.read_code.new.buffer c.read_code.new.r in
    let e = c.in_err-literal.field-0.0 in
    let p = err_from_is_err_and c.from_residual-in_err-literal.result
    c.from_residual-in_err-literal.ensures.1 in
    rw (p.1, p.2) (items_wrong (literal_by c.args.variables) c.args.clause.now.items
    c.loop-code.clause.items before mid c.loop-code.invariant.goes after c.in_ok-code.code
    c.in_ok-code.ensures.code c.if-code-eq0.false c.loop-code.clause.items e
    c.in_err-literal.ensures.literal)

pub loop-code-preserved : goal.loop-code-preserved
loop-code-preserved g c =
    let at = feed g.R.Source.left g.R.Source.failed g.R.Source.pulls in
    let before = at c.args.buffer.now c.args.r.now in
    let mid = at c.loop-code.buffer c.loop-code.r in
    let after = at c.read_code.new.buffer c.read_code.new.r in
    let variables = c.args.variables in
    let lit = c.in_ok-literal.field-0 in
    let clause = c.push.new.list.items in
    record {
      goes = items_more (literal_by variables) c.args.clause.now.items c.loop-code.clause.items
          before mid c.loop-code.invariant.goes after c.in_ok-code.code c.in_ok-code.ensures.code
          c.if-code-eq0.false lit clause c.in_ok-literal.ensures.literal c.in_ok-push.ensures.items;
      fewer = omega (arith, c.in_ok-code.ensures.fewer, c.loop-code.invariant.fewer);
      inside = λ all. inside_more variables c.loop-code.clause.items lit clause
          (c.loop-code.invariant.inside all) c.in_ok-literal.ensures.inside
          c.in_ok-push.ensures.items;
    }
