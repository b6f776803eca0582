use Rattle.std.proofs.lemmas.Result.{err_from_is_err_and}
use Rattle.aig_reader.proofs.reader.read_sections.Goals as goal

pub returns-in_err-numbered : goal.returns-in_err-numbered
returns-in_err-numbered g c =
    let p = err_from_is_err_and c.from_residual.result c.from_residual.ensures.1 in
    rw (p.1, p.2) c.in_err-numbered.ensures

pub returns : goal.returns
returns g c = c.in_ok-numbered.ensures
