use Rattle.aig_base.proofs.Words.{rules, arith, subst, sym, Contains, Contains-push}
use Rattle.aig_cone.proofs.Numbers.{marked_within}
use Rattle.aig_cone.proofs.Searching.{Following-start, Following-step, Following-end, nothing_on}
use Rattle.aig_cone.proofs.search.follow.Goals as goal

pub loop-id-init : goal.loop-id-init
loop-id-init c = Following-start c.args.circuit.now c.args.stack.now.items c.args.marks.now c.requires.stacked

pub visit_before-requires-clause-there : goal.visit_before-requires-clause-there
visit_before-requires-clause-there c =
    let id = c.in-Some.id in
    let on_top = subst (λ stack. Contains stack id) (sym c.in-Some.ensures.items) (Contains-push c.pop.new.self.items id) in
    omega (arith, marked_within c.loop-id.marks id (c.loop-id.invariant.stacked id on_top))

pub loop-id-preserved : goal.loop-id-preserved
loop-id-preserved c =
    Following-step c.args.circuit.now c.args.stack.now.items c.loop-id.marks c.visit_before.new.marks c.loop-id.stack.items c.pop.new.self.items c.visit_before.new.stack.items c.in-Some.id c.loop-id.invariant c.in-Some.ensures.items c.in_ok-visit_before.ensures

pub returns : goal.returns
returns c =
    Following-end c.args.circuit.now c.args.stack.now.items c.loop-id.marks c.loop-id.stack.items c.loop-id.invariant (nothing_on c.loop-id.stack.items (let k = c.loop-id.stack.ok in search rules))
