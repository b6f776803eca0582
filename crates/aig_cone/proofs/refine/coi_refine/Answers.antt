use Rattle.std.proofs.lemmas.Result.{IfOk-weaker}
use Rattle.aig_cone.proofs.refine.coi_refine.Goals as goal

pub kept_part-requires : goal.kept_part-requires
kept_part-requires c = rw c.deref.ensures.value (record { circuit = c.in_ok-kept.ensures.0; few = c.requires.few; kept = c.in_ok-kept.ensures.1 })

pub returns : goal.returns
returns c = IfOk-weaker c.kept_part.result _ _ (λ made are. (c.deref.result.now, rw c.deref.ensures.value c.in_ok-kept.ensures.1, are.0, are.1)) c.kept_part.ensures
