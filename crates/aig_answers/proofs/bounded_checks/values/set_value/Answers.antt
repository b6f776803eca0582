use Rattle.std.proofs.Common.{refl}
use Rattle.std.specs.Vec.{with_item}
use Rattle.aig_answers.proofs.Saying.{row_set}
use Rattle.aig_answers.proofs.bounded_checks.values.set_value.Goals as goal

pub returns-else-name : goal.returns-else-name
returns-else-name c =
    let w = c.args.witness.now in
    let name = c.args.name.now in
    let row = c.index_mut-else-name.result.now in
    row_set w name.step name.number name.is_latch row (with_item row name.number c.args.value) _ _
    c.args.value c.if-name.false c.requires c.index_mut-else-name.ensures.value refl refl
