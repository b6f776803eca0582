use Rattle.std.proofs.Common.{◌≡◌}
use Rattle.aig_script.proofs.simulation.print_steps.Given as goal

-- what is simulated stays
abbrev pub invariant-loop-word : goal.invariant-loop-word
invariant-loop-word g l = l.simulation.circuit ≡ l.script.circuit
