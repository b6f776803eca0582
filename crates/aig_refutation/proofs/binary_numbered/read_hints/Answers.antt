use Rattle.aig_base.proofs.Words.{[], ◌∷◌, ◌++◌, sym, ap, refl, arith, err_from_is_err_and}
use Rattle.aig_lexer.specs.Takes.{feed}
use Rattle.aig_refutation.specs.BinaryNumbered.{hint_by}
use Rattle.aig_refutation.specs.ReadingBinary.{items_left}
use Rattle.aig_refutation.specs.Tokens.{said_number, said_numbers}
use Rattle.aig_refutation.proofs.BinarySteps.{items_end, items_more, items_unread, items_wrong, passes_start}
use Rattle.aig_refutation.proofs.binary_numbered.read_hints.Goals as goal

pub loop-code-init : goal.loop-code-init
loop-code-init g c = record {
  fewer = omega arith;
  goes = λ no_hints no_groups. record {
    numbers = [];
    hints = sym no_hints;
    groups = ap said_numbers (sym no_groups);
    on = passes_start (items_left hint_by []) (feed g.R.Source.left g.R.Source.failed
        g.R.Source.pulls c.args.buffer.now c.args.r.now);
  };
}

pub returns-in_err-code-clause-hints : goal.returns-in_err-code-clause-hints
returns-in_err-code-clause-hints g c no_hints no_groups =
    let at = feed g.R.Source.left g.R.Source.failed g.R.Source.pulls in
    let before = at c.args.buffer.now c.args.r.now in
    let mid = at c.loop-code.buffer c.loop-code.r in
    let after = at c.read_code.new.buffer c.read_code.new.r in
    let so_far = c.loop-code.invariant.goes no_hints no_groups in
    let e = c.in_err-code.field-0.0 in
    let p = err_from_is_err_and c.from_residual.result c.from_residual.ensures.1 in
    rw (p.1, p.2) (items_unread hint_by [] so_far.numbers before mid so_far.on after [] e
    c.in_err-code.ensures.code)

pub returns-then-code-eq0-clause-hints : goal.returns-then-code-eq0-clause-hints
returns-then-code-eq0-clause-hints g c no_hints no_groups =
    let at = feed g.R.Source.left g.R.Source.failed g.R.Source.pulls in
    let before = at c.args.buffer.now c.args.r.now in
    let mid = at c.loop-code.buffer c.loop-code.r in
    let after = at c.read_code.new.buffer c.read_code.new.r in
    let so_far = c.loop-code.invariant.goes no_hints no_groups in (
      so_far.numbers,
      so_far.hints,
      so_far.groups,
      items_end hint_by [] so_far.numbers before mid so_far.on after c.in_ok-code.code
          c.in_ok-code.ensures.code c.if-code-eq0.true,
    )

pub returns-in_err-hint-clause-hints : goal.returns-in_err-hint-clause-hints
returns-in_err-hint-clause-hints g c no_hints no_groups =
    let at = feed g.R.Source.left g.R.Source.failed g.R.Source.pulls in
    let before = at c.args.buffer.now c.args.r.now in
    let mid = at c.loop-code.buffer c.loop-code.r in
    let after = at c.read_code.new.buffer c.read_code.new.r in
    let so_far = c.loop-code.invariant.goes no_hints no_groups in
    let e = c.in_err-hint.field-0.0 in
    let p = err_from_is_err_and c.from_residual-in_err-hint.result
    c.from_residual-in_err-hint.ensures.1 in
    rw (p.1, p.2) (items_wrong hint_by [] so_far.numbers before mid so_far.on after
    c.in_ok-code.code c.in_ok-code.ensures.code c.if-code-eq0.false [] e
    c.in_err-hint.ensures.hint)

pub loop-code-preserved : goal.loop-code-preserved
loop-code-preserved g c =
    let at = feed g.R.Source.left g.R.Source.failed g.R.Source.pulls in
    let before = at c.args.buffer.now c.args.r.now in
    let mid = at c.loop-code.buffer c.loop-code.r in
    let after = at c.read_code.new.buffer c.read_code.new.r in
    record {
      fewer = omega (arith, c.in_ok-code.ensures.fewer, c.loop-code.invariant.fewer);
      goes = λ no_hints no_groups.
          let so_far = c.loop-code.invariant.goes no_hints no_groups in
          let n = said_number c.in_ok-hint.field-0 in
          let pushed = c.in_ok-push_number.ensures so_far.numbers so_far.hints so_far.groups in
          record {
            numbers = so_far.numbers ++ n ∷ [];
            hints = pushed.0;
            groups = pushed.1;
            on = items_more hint_by [] so_far.numbers before mid so_far.on after c.in_ok-code.code
                c.in_ok-code.ensures.code c.if-code-eq0.false n (so_far.numbers ++ n ∷ [])
                c.in_ok-hint.ensures.hint refl;
          };
    }
