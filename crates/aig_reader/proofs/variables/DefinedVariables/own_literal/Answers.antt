use Rattle.std.proofs.Common.{◌*◌, ◌+◌, length}
use Rattle.aig_lexer.proofs.Taking.{takes_nothing}
use Rattle.aig_reader.proofs.variables.DefinedVariables.own_literal.Goals as goal

pub returns-in-Text-clause-exact : goal.returns-in-Text-clause-exact
returns-in-Text-clause-exact g c = λ kind greatest before h. let d = rw c.in-Text.is at h in rw d.0 c.ended.ensures

pub returns-in-Binary-clause-exact : goal.returns-in-Binary-clause-exact
returns-in-Binary-clause-exact g c = λ kind greatest before h.
    let d = rw c.in-Binary.is at h in
    rw (d.0, ← d.1.all) (takes_nothing _ (2 * (length before + 1)))
