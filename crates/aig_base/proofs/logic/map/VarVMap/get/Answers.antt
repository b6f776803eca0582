use Rattle.std.proofs.Common.{nat_eq, sym, ap, ◌∙◌}
use Rattle.aig_base.proofs.Words.{get, lookup}
use Rattle.aig_base.proofs.Mapping.{get_lookup}
use Rattle.aig_base.proofs.logic.map.VarVMap.get.Goals as goal

pub returns : goal.returns
returns c =
    let entries = c.self.inside.entries.entries in
    c.copied.ensures ∙ c.get.ensures.value
    ∙ ap (λ key. lookup (nat_eq key) entries) c.number.ensures
    ∙ sym (get_lookup entries c.args.k)
    ∙ ap (λ m. get m c.args.k) c.self.view_is
