use Rattle.std.proofs.Common.{◌+◌, ◌∙◌, ◌<◌, ◌^◌, sym, arith}
use Rattle.aig_ordering.specs.Lists.{edge_from}
use Rattle.aig_ordering.proofs.InOrder.{level_above}
use Rattle.aig_ordering.proofs.levels.task_of.Goals as goal

pub overflow_add-result : goal.overflow_add-result
overflow_add-result c =
    let gate = c.in-Some.field-0 in
    let above = level_above (edge_from gate.rhs0) (edge_from gate.rhs1) c.args.levels.now c.in-Some-Some.a c.in-Some-Some.b (sym c.entry_value.ensures ∙ c.in-Some-Some.is-0) (sym c.entry_value-2.ensures ∙ c.in-Some-Some.is-1) in
    let fits : c.max.result + 1 < 2 ^ 32 = c.requires.small (c.max.result + 1) (rw (sym c.operands.ensures ∙ c.in-Some.is, c.max.ensures) above) in
    omega arith
