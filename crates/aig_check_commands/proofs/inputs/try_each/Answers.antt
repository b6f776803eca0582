use Rattle.aig_check_commands.proofs.Words.{◌++◌, ◌∷◌, [], Err, Ok, List, String, Global, ap, arith, err_from_is_err_and, map, string_bytes, subst, take_all, AreOpened}
use Rattle.aig_check_commands.proofs.Opened.{lacks_at, opened_more}
use Rattle.aig_check_commands.proofs.inputs.try_each.Goals as goal

pub loop-path-init : goal.loop-path-init
loop-path-init g c = ([], tt)

pub returns-in_err-open-clause-refused : goal.returns-in_err-open-clause-refused
returns-in_err-open-clause-refused g c =
    let p = err_from_is_err_and c.from_residual.result c.from_residual.ensures.1 in
    let opened = c.loop-path.invariant in
    let opens = g.F.Opens.opens c.args.files.now in
    rw (p.1, p.2) (lacks_at opens c.args.paths.now c.loop-path.path-index c.path-item.result opened.0
    c.in_err-open.field-0.0 c.loop-path-test.true c.path-item.is opened.1
    (subst (λ p. opens p (Err c.in_err-open.field-0.0)) c.as_str.ensures.value c.in_err-open.ensures))

pub loop-path-preserved : goal.loop-path-preserved
loop-path-preserved g c =
    let opened = c.loop-path.invariant in
    let opens = g.F.Opens.opens c.args.files.now in
    let f = c.in_ok-open.field-0 in (
      opened.0 ++ f ∷ [],
      opened_more opens c.args.paths.now c.loop-path.path-index c.path-item.result opened.0 f
          c.loop-path-test.true c.path-item.is opened.1
          (subst (λ p. opens p (Ok f)) c.as_str.ensures.value c.in_ok-open.ensures),
    )

pub returns-clause-opens : goal.returns-clause-opens
returns-clause-opens g c =
    let opened = c.loop-path.invariant in
    let all = ap (λ (xs : List (String Global)). map string_bytes xs)
    (take_all c.loop-path.path-index c.args.paths.now (omega (arith, c.loop-path-test.false))) in (
      opened.0,
      subst (λ ps. AreOpened (g.F.Opens.opens c.args.files.now) ps opened.0) all opened.1,
    )
