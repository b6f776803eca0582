use Rattle.aig_base.proofs.Words.{◌++◌, ◌∷◌, [], ◌∙◌, ap, map, take_all}
use Rattle.aig_circuit.specs.Edge.{inverse}
use Rattle.aig_circuit.proofs.Lists.{mapped_more}
use Rattle.aig_change.proofs.joining.inverses.Goals as goal

pub loop-e-init : goal.loop-e-init
loop-e-init c = c.in_ok-new.ensures.items

pub loop-e-preserved : goal.loop-e-preserved
loop-e-preserved c = mapped_more inverse c.args.edges.now c.loop-e.e-index _ [] c.loop-e.new.items c.push.new.self.items c.loop-e-test.true c.loop-e.invariant (c.in_ok-push.ensures.items ∙ ap (λ made. c.loop-e.new.items ++ made ∷ []) c.not.ensures)

pub returns : goal.returns
returns c = c.loop-e.invariant ∙ ap (map inverse) (take_all c.loop-e.e-index c.args.edges.now c.loop-e-test.false)
