use Rattle.aig_check_commands.proofs.Words.{◌++◌, ◌∙◌, ap, arith, err_from_is_err_and, length, length-append, length-map, map, string_bytes, subst, sym, AreOpened}
use Rattle.aig_check_commands.proofs.Opened.{all_opened, lacks_before, lacks_behind, opened_length, unlisted}
use Rattle.aig_check_commands.proofs.inputs.open_all.Goals as goal

pub open_beside-requires-2 : goal.open_beside-requires-2
open_beside-requires-2 g c =
    let told = c.in_ok-open_beside.ensures.opens in
    let none = ap length c.in-Ok.ensures.items in
    let count = ap length told.2 ∙ length-append c.in-Ok.opened.items told.0 in
    let many = opened_length (g.F.Opens.opens c.args.files.now) _ told.0 told.1
    ∙ length-map c.args.call.now.paths.now string_bytes in
    omega (arith, none, count, many, told.3, c.in-Ok.ensures.exact)

pub returns-in_err-open_beside-clause-refused : goal.returns-in_err-open_beside-clause-refused
returns-in_err-open_beside-clause-refused g c =
    let p = err_from_is_err_and c.from_residual-in_err-open_beside.result
    c.from_residual-in_err-open_beside.ensures.1 in
    rw (p.1, p.2) (lacks_before (g.F.Opens.opens c.args.files.now)
    (map string_bytes c.args.call.now.paths.now) (map string_bytes c.args.call.now.further.now) _
    c.in_err-open_beside.ensures.refused)

pub returns-in_err-open_beside-2-clause-refused : goal.returns-in_err-open_beside-2-clause-refused
returns-in_err-open_beside-2-clause-refused g c =
    let told = c.in_ok-open_beside.ensures.opens in
    let p = err_from_is_err_and c.from_residual-in_err-open_beside-2.result
    c.from_residual-in_err-open_beside-2.ensures.1 in
    rw (p.1, p.2) (lacks_behind (g.F.Opens.opens c.args.files.now)
    (map string_bytes c.args.call.now.paths.now) (map string_bytes c.args.call.now.further.now)
    told.0 _ told.1 c.in_err-open_beside-2.ensures.refused)

pub returns-in_err-try_each-clause-refused : goal.returns-in_err-try_each-clause-refused
returns-in_err-try_each-clause-refused g c =
    let p = err_from_is_err_and c.from_residual.result c.from_residual.ensures.1 in
    rw (p.1, p.2) (lacks_before (g.F.Opens.opens c.args.files.now)
    (map string_bytes c.args.call.now.paths.now) (map string_bytes c.args.call.now.further.now) _
    c.in_err-try_each.ensures.refused)

pub returns-in_err-try_each-2-clause-refused : goal.returns-in_err-try_each-2-clause-refused
returns-in_err-try_each-2-clause-refused g c =
    let told = c.in_ok-try_each.ensures.opens in
    let p = err_from_is_err_and c.from_residual-in_err-try_each-2.result
    c.from_residual-in_err-try_each-2.ensures.1 in
    rw (p.1, p.2) (lacks_behind (g.F.Opens.opens c.args.files.now)
    (map string_bytes c.args.call.now.paths.now) (map string_bytes c.args.call.now.further.now)
    told.0 _ told.1 c.in_err-try_each-2.ensures.refused)

pub returns-in_default-clause-refused : goal.returns-in_default-clause-refused
returns-in_default-clause-refused g c =
    let told = c.in_ok-try_each.ensures.opens in
    let also = c.in_ok-try_each-2.ensures.opens in
    unlisted (g.F.Opens.opens c.args.files.now) (map string_bytes c.args.call.now.paths.now)
    (map string_bytes c.args.call.now.further.now) told.0 also.0 told.1 also.1

pub returns-clause-opens : goal.returns-clause-opens
returns-clause-opens g c =
    let opens = g.F.Opens.opens c.args.files.now in
    let paths = map string_bytes c.args.call.now.paths.now in
    let further = map string_bytes c.args.call.now.further.now in
    let told = c.in_ok-open_beside.ensures.opens in
    let also = c.in_ok-open_beside-2.ensures.opens in
    let items = also.2 ∙ ap (λ l. l ++ also.0) (told.2 ∙ ap (λ l. l ++ told.0) c.in-Ok.ensures.items)
    in
    subst (AreOpened opens (paths ++ further)) (sym items)
    (all_opened opens paths further told.0 also.0 told.1 also.1)

pub returns-clause-fits : goal.returns-clause-fits
returns-clause-fits g c =
    let opens = g.F.Opens.opens c.args.files.now in
    let told = c.in_ok-open_beside.ensures.opens in
    let also = c.in_ok-open_beside-2.ensures.opens in
    omega (
      arith,
      ap length c.in-Ok.ensures.items,
      ap length told.2 ∙ length-append c.in-Ok.opened.items told.0,
      ap length also.2 ∙ length-append c.open_beside.new.opened.items also.0,
      opened_length opens _ told.0 told.1 ∙ length-map c.args.call.now.paths.now string_bytes,
      opened_length opens _ also.0 also.1 ∙ length-map c.args.call.now.further.now string_bytes,
      c.requires.paths,
      c.requires.further,
    )
