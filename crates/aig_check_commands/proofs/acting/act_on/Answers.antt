use Rattle.aig_base.proofs.Words.{◌++◌, Err, ap, err_from_is_err_and, inl, inr, map, refl, string_bytes, sym}
use Rattle.aig_check_commands.proofs.Opened.{opens_as, opens_on}
use Rattle.aig_check_commands.proofs.acting.act_on.Goals as goal

pub returns-in_err-opened : goal.returns-in_err-opened
returns-in_err-opened g c =
    let p = err_from_is_err_and c.from_residual.result c.from_residual.ensures.1 in
    rw (p.1, p.2) (opens_on (g.F.Opens.opens c.args.files.now)
    (map string_bytes c.args.call.now.paths.now ++ map string_bytes c.args.call.now.further.now)
    _ _ _ _ (λ fs short. inr (ap (λ x. Err x) short, refl))
    (λ x is. (ap (λ y. Err y) (sym is), refl)) c.in_err-opened.ensures.refused)

pub returns : goal.returns
returns g c =
    let opened = c.in_ok-opened.opened in
    opens_as (g.F.Opens.opens c.args.files.now)
    (map string_bytes c.args.call.now.paths.now ++ map string_bytes c.args.call.now.further.now)
    opened.items _ _ c.in_ok-opened.ensures.opens (inl c.run.ensures)
