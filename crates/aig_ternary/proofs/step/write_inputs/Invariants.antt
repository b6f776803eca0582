use Rattle.std.proofs.Common.{◌≡◌, drop}
use Rattle.aig_ternary.specs.Step.{with_given}
use Rattle.aig_ternary.proofs.step.write_inputs.Given as goal

abbrev pub invariant-loop-i : goal.invariant-loop-i
invariant-loop-i l = with_given l.values (drop l.i l.inputs) (drop l.i l.given) ≡ with_given l.initial.values l.inputs l.given
