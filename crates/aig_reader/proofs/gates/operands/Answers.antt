use Rattle.aig_reader.proofs.gates.operands.Goals as goal

pub returns-in-Text : goal.returns-in-Text
returns-in-Text g c = λ kind greatest before h. let d = rw c.in-Text.is at h in rw d.0 c.pair.ensures

pub returns-in-Binary : goal.returns-in-Binary
returns-in-Binary g c = λ kind greatest before h. let d = rw c.in-Binary.is at h in rw d.0 c.differences.ensures
