use Rattle.aig_base.proofs.Words.{◌∙◌, None, ap, cond, get, get_or, map, take_all}
use Rattle.std.specs.HashMap.{get_by_text}
use Rattle.std.specs.Option.{is_none, option_and_then}
use Rattle.aig_join.specs.declared.starts.Matching.TheVariants.{ByName}
use Rattle.aig_join.specs.Starts.{circuit_registers, partners}
use Rattle.aig_join.proofs.Partners.{named-found, no_latch, partners-more, register}
use Rattle.aig_join.proofs.alike.partners_by_name.Goals as goal

pub loop-latch-init : goal.loop-latch-init
loop-latch-init c = c.in_ok-made.ensures.items

pub loop-latch-preserved : goal.loop-latch-preserved
loop-latch-preserved c =
    let ours = circuit_registers c.args.a.now in
    let names = c.args.b.now.names in
    let items = c.latchs-latch-items.result.now in
    let latch = get_or items c.loop-latch.latch-index no_latch in
    let found = get_by_text c.in_ok-leaves.leaves in
    partners-more ours names items c.loop-latch.latch-index no_latch c.leaf_of_name.result
    c.loop-latch.made.items c.push.new.self.items c.loop-latch-test.true c.loop-latch.invariant
    (c.leaf_of_name.ensures
    ∙ ap (λ ns. cond (is_none latch.init) (option_and_then found (get ns latch.input)) None)
    c.names.ensures.value
    ∙ named-found ours found c.in_ok-leaves.ensures (is_none latch.init)
    (get names latch.input))
    c.in_ok-push.ensures.items

pub returns : goal.returns
returns c = c.loop-latch.invariant
    ∙ ap (λ latchs. partners ByName (circuit_registers c.args.a.now)
    (map (register c.args.b.now.names) latchs))
    (take_all c.loop-latch.latch-index c.latchs-latch-items.result.now c.loop-latch-test.false
    ∙ c.latchs-latch-items.ensures.value)
