use Rattle.std.proofs.Common.{sym, ap, ◌∙◌}
use Rattle.std.specs.FinMap.{len}
use Rattle.aig_base.proofs.Mapping.{len-from_entries}
use Rattle.aig_base.proofs.logic.map.VarVMap.len.Goals as goal

pub returns : goal.returns
returns c = c.len.ensures.len ∙ sym (len-from_entries _ c.len.ensures.unique) ∙ ap len c.self.view_is
