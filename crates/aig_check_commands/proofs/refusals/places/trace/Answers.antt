use Rattle.aig_check_commands.proofs.Words.{◌<◌, ◌∙◌, ap, arith, length, length-map, map, refl, same_Some, slice_get-get_or, sym, option_map, slice_get-map, slice_get_within}
use Rattle.aig_check_commands.specs.declared.refusals.places.Traced.TheVariants.{Plain}
use Rattle.aig_check_commands.proofs.check_lemmas.Refusing.{put_back}
use Rattle.aig_check_commands.proofs.refusals.places.trace.Goals as goal

pub remove-requires : goal.remove-requires
remove-requires g c =
    let items = c.args.inputs.items in
    let within = slice_get_within (map g.R.Source.left items) c.args.which _ c.requires in
    omega (arith, within, length-map items g.R.Source.left)

pub counted-requires : goal.counted-requires
counted-requires g c =
    let items = c.args.inputs.items in
    let within = slice_get_within (map g.R.Source.left items) c.args.which _ c.requires in
    let low : c.args.which < length items = omega (arith, within, length-map items g.R.Source.left) in
    let at = slice_get-get_or items c.args.which c.remove.result low in
    let seen = slice_get-map g.R.Source.left items c.args.which
    ∙ ap (option_map g.R.Source.left) at in
    ap g.R.Source.left c.remove.ensures.value ∙ same_Some _ _ (sym seen ∙ c.requires)

pub returns : goal.returns
returns g c =
    let items = c.args.inputs.items in
    let within = slice_get_within (map g.R.Source.left items) c.args.which _ c.requires in
    let low : c.args.which < length items = omega (arith, within, length-map items g.R.Source.left) in
    let put = rw c.in_ok-insert.was at c.insert.ensures.items in
    let made = c.in_ok-traced.ensures ∙ ap (λ xs. map (λ x. Plain x) xs) c.remove.ensures.items in
    rw (put, made) (put_back (λ x. Plain x) _ g.R.Source.left (λ x. refl) items c.args.which
    c.remove.result c.in_ok-counted.counted low c.remove.ensures.value c.in_ok-counted.ensures)
