use Rattle.aig_base.proofs.Words.{◌∙◌, ap, arith, length, subst, take, take_all, IfOk-from_err}
use Rattle.aig_circuit.proofs.Building.{AddsGates-itself, AddsGates-then, Grows-longer}
use Rattle.aig_change.specs.Inits.{Constrains}
use Rattle.aig_change.proofs.Constraining.{Constrains-none, Constrains-turn, first_kept}
use Rattle.aig_change.proofs.Grown.{IsLatch-grown}
use Rattle.aig_change.proofs.inits.constrain_all.Goals as goal

pub loop-latch-init : goal.loop-latch-init
loop-latch-init c = (AddsGates-itself c.args.nodes.now.items c.requires.sound, Constrains-none c.args.nodes.now.items c.args.first c.args.constraints.now.items)

pub constrain-requires : goal.constrain-requires
constrain-requires c =
    let grows = c.loop-latch.invariant.0.grows in
    record {
      sound = grows.sound;
      first_edge = omega (arith, c.requires.first_edge, Grows-longer _ _ grows);
      latch = IsLatch-grown c.args.nodes.now.items c.loop-latch.nodes.items _ grows (c.requires.latchs c.loop-latch.latch-index _ c.loop-latch-test.true);
    }

pub loop-latch-preserved : goal.loop-latch-preserved
loop-latch-preserved c = (
  AddsGates-then _ _ _ c.loop-latch.invariant.0 c.in_ok-constrain.ensures.gates,
  Constrains-turn c.args.nodes.now.items c.loop-latch.nodes.items c.constrain.new.nodes.items c.args.first c.args.latchs.now c.loop-latch.latch-index _ c.args.constraints.now.items c.loop-latch.constraints.items c.constrain.new.constraints.items
      c.requires.sound c.requires.first_edge c.requires.latchs c.loop-latch-test.true c.loop-latch.invariant.0 c.loop-latch.invariant.1 c.in_ok-constrain.ensures.gates c.in_ok-constrain.ensures.constrains,
)

pub returns-in_err-constrain-clause-gates : goal.returns-in_err-constrain-clause-gates
returns-in_err-constrain-clause-gates c = AddsGates-then _ _ _ c.loop-latch.invariant.0 c.constrain.ensures.gates

pub returns-in_err-constrain-clause-constrains : goal.returns-in_err-constrain-clause-constrains
returns-in_err-constrain-clause-constrains c = IfOk-from_err c.from_residual.result _ c.from_residual.ensures.0

pub returns-in_err-constrain-clause-kept : goal.returns-in_err-constrain-clause-kept
returns-in_err-constrain-clause-kept c =
    let same = c.loop-latch.invariant.1 in
    ap (take (length c.args.constraints.now.items)) c.in_err-constrain.ensures.err ∙ first_kept c.args.constraints.now.items c.loop-latch.constraints.items same.constrained same.appended

pub returns-clause-gates : goal.returns-clause-gates
returns-clause-gates c = c.loop-latch.invariant.0

pub returns-clause-constrains : goal.returns-clause-constrains
returns-clause-constrains c =
    subst (λ latchs. Constrains c.args.nodes.now.items c.loop-latch.nodes.items c.args.first latchs c.args.constraints.now.items c.loop-latch.constraints.items) (take_all c.loop-latch.latch-index c.args.latchs.now c.loop-latch-test.false)
    c.loop-latch.invariant.1

pub returns-clause-kept : goal.returns-clause-kept
returns-clause-kept c = let all = c.loop-latch.invariant.1 in first_kept c.args.constraints.now.items c.loop-latch.constraints.items all.constrained all.appended
