use Rattle.aig_witness_circuits.proofs.Words.{◌≡◌, ◌+◌, ◌<◌, Option, ℕ, ap₂, List, arith, get_or, length, set, subst, sym, take_all, AigEdge, AigLatch, no_latch, HoldsResets}
use Rattle.aig_base.proofs.Words.{take}
use Rattle.aig_witness_circuits.proofs.Resets.{holds_more, holds_none}
use Rattle.aig_witness_circuits.proofs.circles.write_resets.Goals as goal

pub loop-latch-init : goal.loop-latch-init
loop-latch-init c = holds_none c.args.resets.now c.requires.none

pub loop-latch-preserved : goal.loop-latch-preserved
loop-latch-preserved c =
    let latchs = c.args.latchs.now in
    let i = c.loop-latch.latch-index in
    let resets = c.loop-latch.resets in
    let latch = get_or latchs i no_latch in
    let within = c.loop-latch-test.true in
    let low : latch.input < length c.args.resets.now = c.requires.leaves i no_latch within in
    let same : length resets ≡ length c.args.resets.now = c.loop-latch.auto.resets in
    let inside : latch.input < length resets = omega arith in
    let written =
    ap₂ (λ (n : ℕ) (o : Option AigEdge). set resets n o) c.input.ensures c.init.ensures in
    subst (HoldsResets (take (i + 1) latchs)) (sym written)
    (holds_more latchs resets i no_latch within c.requires.apart inside c.loop-latch.invariant)

pub returns : goal.returns
returns c =
    subst (λ (ls : List AigLatch). HoldsResets ls c.loop-latch.resets)
    (take_all c.loop-latch.latch-index c.args.latchs.now c.loop-latch-test.false)
    c.loop-latch.invariant
