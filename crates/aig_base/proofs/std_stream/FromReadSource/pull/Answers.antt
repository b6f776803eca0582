use Rattle.std.proofs.Common.{arith}
use Rattle.aig_base.proofs.std_stream.FromReadSource.pull.Goals as goal

pub returns-in-Ok-clause-fewer : goal.returns-in-Ok-clause-fewer
returns-in-Ok-clause-fewer g c = λ some. omega (arith, c.if-self-eq0.false)

pub returns-in-Ok-clause-end : goal.returns-in-Ok-clause-end
returns-in-Ok-clause-end g c = c.in-Ok.ensures.bytes.1

pub returns-in-Ok-clause-spent : goal.returns-in-Ok-clause-spent
returns-in-Ok-clause-spent g c = λ none. absurd (c.if-self-eq0.false none)

pub returns-in-Ok-clause-counted : goal.returns-in-Ok-clause-counted
returns-in-Ok-clause-counted g c = omega (arith, c.if-self-eq0.false)
