use Rattle.aig_check_commands.proofs.Words.{decimal, rules, codes, Buffers-trans, failed_among, failed_first, then_call}
use Rattle.std.proofs.Common.{[], ◌∷◌, ◌++◌, ◌+◌}
use Rattle.aig_answers.specs.Goals.{last_step}
use Rattle.aig_check_commands.proofs.lines.living.buffer_lassos.Goals as goal

pub returns-in_err-buffer_lasso_text : goal.returns-in_err-buffer_lasso_text
returns-in_err-buffer_lasso_text g c =
    failed_first
    ((decimal (last_step c.args.goal + 1) ++ 32 ∷ []) ∷ (codes "steps" ++ 10 ∷ []) ∷ []) c.in_err-buffer_lasso_text.ensures (search rules)

pub returns-in_err-write_number : goal.returns-in_err-write_number
returns-in_err-write_number g c =
    failed_among ((codes "steps" ++ 10 ∷ []) ∷ []) c.in_ok-buffer_lasso_text.ensures.ok
    (rw c.last_step.ensures at c.in_err-write_number.ensures) (search rules)

pub returns : goal.returns
returns g c =
    let steps = rw c.last_step.ensures at c.in_ok-write_number.ensures.ok in
    then_call (Buffers-trans c.in_ok-buffer_lasso_text.ensures.ok steps) c.write_bytes.ensures
