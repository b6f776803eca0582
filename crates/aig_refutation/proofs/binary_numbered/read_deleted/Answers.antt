use Rattle.aig_base.proofs.Words.{arith, err_from_is_err_and}
use Rattle.aig_lexer.specs.Takes.{feed}
use Rattle.aig_refutation.specs.BinaryNumbered.{deleted_by}
use Rattle.aig_refutation.proofs.BinarySteps.{items_end, items_more, items_unread, items_wrong}
use Rattle.aig_refutation.proofs.binary_numbered.read_deleted.Goals as goal

pub returns-in_err-code-clause-numbers : goal.returns-in_err-code-clause-numbers
returns-in_err-code-clause-numbers g c =
    let at = feed g.R.Source.left g.R.Source.failed g.R.Source.pulls in
    let before = at c.args.buffer.now c.args.r.now in
    let mid = at c.loop-code.buffer c.loop-code.r in
    let after = at c.read_code.new.buffer c.read_code.new.r in
    let e = c.in_err-code.field-0.0 in
    let p = err_from_is_err_and c.from_residual.result c.from_residual.ensures.1 in
    rw (p.1, p.2) (items_unread deleted_by c.args.numbers.now.items
    c.loop-code.numbers.items before mid c.loop-code.invariant.goes after c.loop-code.numbers.items e
    c.in_err-code.ensures.code)

pub returns-then-code-eq0-clause-numbers : goal.returns-then-code-eq0-clause-numbers
returns-then-code-eq0-clause-numbers g c =
    let at = feed g.R.Source.left g.R.Source.failed g.R.Source.pulls in
    let before = at c.args.buffer.now c.args.r.now in
    let mid = at c.loop-code.buffer c.loop-code.r in
    let after = at c.read_code.new.buffer c.read_code.new.r in
    items_end deleted_by c.args.numbers.now.items c.loop-code.numbers.items before
    mid c.loop-code.invariant.goes after c.in_ok-code.code c.in_ok-code.ensures.code
    c.if-code-eq0.true

pub returns-in_err-deleted-clause-numbers : goal.returns-in_err-deleted-clause-numbers
returns-in_err-deleted-clause-numbers g c =
    let at = feed g.R.Source.left g.R.Source.failed g.R.Source.pulls in
    let before = at c.args.buffer.now c.args.r.now in
    let mid = at c.loop-code.buffer c.loop-code.r in
    let after = at c.read_code.new.buffer c.read_code.new.r in
    let e = c.in_err-deleted.field-0.0 in
    let p = err_from_is_err_and c.from_residual-in_err-deleted.result
    c.from_residual-in_err-deleted.ensures.1 in
    rw (p.1, p.2) (items_wrong deleted_by c.args.numbers.now.items
    c.loop-code.numbers.items before mid c.loop-code.invariant.goes after c.in_ok-code.code
    c.in_ok-code.ensures.code c.if-code-eq0.false c.loop-code.numbers.items e
    c.in_err-deleted.ensures.number)

pub loop-code-preserved : goal.loop-code-preserved
loop-code-preserved g c =
    let at = feed g.R.Source.left g.R.Source.failed g.R.Source.pulls in
    let before = at c.args.buffer.now c.args.r.now in
    let mid = at c.loop-code.buffer c.loop-code.r in
    let after = at c.read_code.new.buffer c.read_code.new.r in
    let n = c.in_ok-deleted.field-0 in
    let numbers = c.push.new.list.items in
    record {
      goes = items_more deleted_by c.args.numbers.now.items c.loop-code.numbers.items
          before mid c.loop-code.invariant.goes after c.in_ok-code.code c.in_ok-code.ensures.code
          c.if-code-eq0.false n numbers c.in_ok-deleted.ensures.number c.in_ok-push.ensures.items;
      fewer = omega (arith, c.in_ok-code.ensures.fewer, c.loop-code.invariant.fewer);
    }
