use Rattle.aig_join.proofs.ConstrainedWritten.{written-miter_by}
use Rattle.aig_join.proofs.laws.written_miters_compare_machines_by.Goals as goal

pub returns : goal.returns
returns c = λ comparison f g limit bound bytes others m low also_low accepts also counts miters is
    small. written-miter_by f g limit bound bytes others m low also_low accepts also counts comparison
    miters is small
