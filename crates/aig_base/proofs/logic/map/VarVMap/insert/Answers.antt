use Rattle.std.proofs.Common.{nat_eq, sym, ap, ◌∙◌}
use Rattle.aig_base.proofs.Words.{get, insert, lookup}
use Rattle.aig_base.proofs.Mapping.{get_lookup, entries_insert}
use Rattle.aig_base.proofs.logic.map.VarVMap.insert.Goals as goal

pub returns-clause-before : goal.returns-clause-before
returns-clause-before c =
    let entries = c.self.inside.entries.entries in
    c.in_ok-insert.ensures.old
    ∙ ap (λ key. lookup (nat_eq key) entries) c.number.ensures
    ∙ sym (get_lookup entries c.args.k)
    ∙ ap (λ m. get m c.args.k) c.self.view_is

pub returns-clause-ok : goal.returns-clause-ok
returns-clause-ok c =
    entries_insert c.self.inside.entries.entries c.insert.new.self.entries c.args.k c.args.v (rw c.number.ensures at c.in_ok-insert.ensures.updates.0)
    ∙ ap (λ m. insert m c.args.k c.args.v) c.self.view_is
