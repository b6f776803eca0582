use Rattle.aig_base.proofs.Words.{ℕ, ◌<◌, get_or, map, string_bytes}
use Rattle.aig_command_line.specs.Arguments.{Arguments, GivesArguments}
use Rattle.aig_command_line.proofs.command.find.Given as goal

abbrev pub invariant-loop-action : goal.invariant-loop-action
invariant-loop-action g l =
    (k : ℕ) (d : _) → k < l.action-index → (a : Arguments)
    → ¬ GivesArguments (g.A.HasArguments.name (get_or l.all k d))
    (g.A.HasArguments.form (get_or l.all k d)) (map string_bytes l.words) a
