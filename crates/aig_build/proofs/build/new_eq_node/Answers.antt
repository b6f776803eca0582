use Rattle.std.proofs.Common.{◌≡◌, length, sym, subst, arith}
use Rattle.aig_circuit.specs.Build.{AddsGates}
use Rattle.aig_circuit.proofs.Building.{AddsGates-itself}
use Rattle.aig_build.proofs.Joined.{cut_back}
use Rattle.aig_build.proofs.build.new_eq_node.Goals as goal

pub returns-in-Ok-clause-rule : goal.returns-in-Ok-clause-rule
returns-in-Ok-clause-rule c = c.in-Ok.ensures.rule

pub returns-in-Ok-clause-gives : goal.returns-in-Ok-clause-gives
returns-in-Ok-clause-gives c = c.in-Ok.ensures.gives

pub returns-in-Ok-clause-gates : goal.returns-in-Ok-clause-gates
returns-in-Ok-clause-gates c = c.in-Ok.ensures.gates

-- what stands after a refusal
refused : (c : goal.After-truncate) → c.truncate.new.self.items ≡ c.args.nodes.now.items
refused c =
    let before : c.len-before.result ≡ length c.args.nodes.now.items = omega arith in
    cut_back c.args.nodes.now.items c.both_or_neither.new.nodes.items c.truncate.new.self.items c.len-before.result c.both_or_neither.ensures.gates.grows before c.truncate.ensures.items

pub returns-in-Err-clause-err : goal.returns-in-Err-clause-err
returns-in-Err-clause-err c = refused c

pub returns-in-Err-clause-gates : goal.returns-in-Err-clause-gates
returns-in-Err-clause-gates c = subst (AddsGates c.args.nodes.now.items) (sym (refused c)) (AddsGates-itself c.args.nodes.now.items c.requires.sound)
