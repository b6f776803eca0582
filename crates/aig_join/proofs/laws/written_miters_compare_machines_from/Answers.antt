use Rattle.aig_join.proofs.AlikeWritten.{written-miter_from}
use Rattle.aig_join.proofs.laws.written_miters_compare_machines_from.Goals as goal

pub returns : goal.returns
returns c = λ starts f g limit bound bytes others m low also_low accepts also counts miters is
    small. written-miter_from f g limit bound bytes others m low also_low accepts also counts starts
    miters is small
