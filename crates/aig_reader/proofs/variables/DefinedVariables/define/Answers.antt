use Rattle.std.proofs.Common.{refl}
use Rattle.aig_reader.proofs.Defined.{counted_more, defines_marked}
use Rattle.aig_reader.proofs.variables.DefinedVariables.define.Goals as goal

pub returns-in-Text : goal.returns-in-Text
returns-in-Text c = λ kind greatest before h. defines_marked c.in-Text.marks c.mark.new.self c.args.literal c.mark.result c.mark.ensures.exact kind greatest before (rw c.in-Text.is at h)

pub returns-in-Binary : goal.returns-in-Binary
returns-in-Binary c = λ kind greatest before h.
    let d = rw c.in-Binary.is at h in
    rw d.0 (refl, (refl, (refl, counted_more _ c.args.literal before d.1 (rw c.in-Binary.is at c.requires))))
