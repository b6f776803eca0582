use Rattle.aig_check_commands.proofs.Words.{rules, failed_first, then_call}
use Rattle.std.proofs.Common.{[], ◌∷◌}
use Rattle.aig_check_commands.specs.FileSubjects.{steps_text}
use Rattle.aig_check_commands.proofs.file_subjects.buffer_safety.Goals as goal

pub returns-in_err-buffer_never : goal.returns-in_err-buffer_never
returns-in_err-buffer_never g c =
    failed_first (steps_text c.args.goal ∷ []) c.in_err-buffer_never.ensures (search rules)

pub returns : goal.returns
returns g c = then_call c.in_ok-buffer_never.ensures.ok c.buffer_steps.ensures
