use Rattle.aig_check_commands.proofs.Words.{inl, inr, map, subst, IsRefusedIn}
use Rattle.aig_check_commands.proofs.check_lemmas.Refusing.{refused_again}
use Rattle.aig_check_commands.proofs.refusals.places.place_in.Goals as goal

pub returns-in-Err : goal.returns-in-Err
returns-in-Err g c =
    let same = c.is_same.ensures c.if-is_same.true in
    let are = rw (← c.as_mut_slice-files.ensures.value) at c.in-Ok.ensures in
    elim c.place_among.ensures [
      | inl whole ↦ inl whole
      | inr at ↦ inr (subst (λ e. IsRefusedIn c.args.call.now.limit c.args.call.now.asked
          (map g.R.Source.left c.args.files.items) c.args.which e c.args.measure
          c.place_among.result) same (refused_again _ _ c.args.call.now.limit c.args.which
          c.args.call.now.asked c.as_mut_slice-files.result.now c.check_asked.new.files
          (map g.R.Source.left c.args.files.items) g.B.Origin.bytes c.in-Err.again c.args.measure _
          _ _ are c.requires.origin at c.in-Err.ensures))
    ]
