use Rattle.aig_check_commands.proofs.Words.{◌+◌, ◌++◌, None, arith, inl, inr, length, length-map, map, slice_get-get_or, string_bytes, subst, sym, IsRefusedIn, AreOpened}
use Rattle.aig_check_commands.proofs.check_lemmas.Refusing.{opened_again}
use Rattle.aig_check_commands.proofs.refusals.places.place_by_run.Goals as goal

pub place_in-requires-clause-origin : goal.place_in-requires-clause-origin
place_in-requires-clause-origin g c =
    let call = c.args.call.now in
    let files = c.in-Ok.opened.items in
    slice_get-get_or (map g.F.File.Source.left files) (length call.paths.now + c.args.number) None
    (omega (
      arith,
      c.in-Ok.ensures.fits,
      length-map files g.F.File.Source.left,
      c.requires.paths,
      c.requires.further,
      c.if-number-call.false,
    ))

pub returns : goal.returns
returns g c =
    let call = c.args.call.now in
    let names = map string_bytes call.paths.now ++ map string_bytes call.further.now in
    let files = c.in-Ok.opened.items in
    let opened = opened_again (g.F.Opens.opens c.new.result.files.now) names files
    c.in-Ok.ensures.opens in
    elim c.place_in.ensures [
      | inl whole ↦ inl whole
      | inr refused ↦ inr record {
        files = files;
        opened = subst (λ x. AreOpened (g.F.Opens.opens x) names files) c.new.ensures opened;
        refused = subst (λ n. IsRefusedIn call.limit call.asked (map g.F.File.Source.left files)
            (n + c.args.number) c.args.error c.args.measure c.place_in.result)
            (sym (length-map call.paths.now string_bytes)) refused;
      }
    ]
