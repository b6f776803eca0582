use Rattle.std.proofs.Common.{◌++◌, ◌∙◌, List, ap}
use Rattle.aig_cone.specs.Refine.{refining_roots}
use Rattle.aig_cone.proofs.refine.roots.Goals as goal

pub returns : goal.returns
returns c = (c.in_ok-push_roots.ensures.0, c.in_ok-push_roots.ensures.1 ∙ ap (λ (start : List _). start ++ refining_roots c.args.circuit.now) c.new-roots.ensures.items)
