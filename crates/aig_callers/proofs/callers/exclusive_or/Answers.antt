use Rattle.std.proofs.Common.{refl}
use Rattle.aig_callers.proofs.callers.exclusive_or.Goals as goal

pub returns-clause-gives : goal.returns-clause-gives
returns-clause-gives c =
    let inverted = c.inverses_have_other_values.ensures in
    let one = c.in_ok-first.ensures.gates.nodes.grows in
    let two = c.in_ok-second.ensures.gates.nodes.grows in
    record {
      there = c.in_ok-either.ensures.gives.there;
      value = λ x.
          rw (c.in_ok-either.ensures.gives.value x)
          (rw (two.values x c.in_ok-first.first c.in_ok-first.ensures.gives.there)
          (rw (c.in_ok-first.ensures.gives.value x)
          (rw (c.in_ok-second.ensures.gives.value x)
          (rw (one.values x c.args.other c.requires.other)
          (rw (c.not.ensures, inverted c.args.aig.now.nodes x c.args.other)
          (rw (c.not-2.ensures, inverted c.new_and_node.new.self.nodes x c.args.one)
          (rw (one.values x c.args.one c.requires.one) refl)))))));
    }

pub returns-clause-gates : goal.returns-clause-gates
returns-clause-gates c =
    let further = c.further_gates_are_gates.ensures in
    let two = further _ _ _ c.in_ok-first.ensures.gates c.in_ok-second.ensures.gates in
    further _ _ _ two c.in_ok-either.ensures.gates

pub returns-in_err-either-clause-gates : goal.returns-in_err-either-clause-gates
returns-in_err-either-clause-gates c =
    let further = c.further_gates_are_gates.ensures in
    let two = further _ _ _ c.in_ok-first.ensures.gates c.in_ok-second.ensures.gates in
    further _ _ _ two c.in_err-either.ensures.gates
