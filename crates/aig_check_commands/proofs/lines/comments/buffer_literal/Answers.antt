use Rattle.aig_check_commands.proofs.Words.{decimal, rules, codes, variable_of, sign_of, Buffers-trans, failed_among, failed_first, then_call}
use Rattle.std.proofs.Common.{[], ◌∷◌, ◌++◌, ◌+◌}
use Rattle.aig_check_commands.specs.Comments.{literal_line}
use Rattle.aig_check_commands.proofs.lines.comments.buffer_literal.Goals as goal

pub returns-in_err-buffer_named : goal.returns-in_err-buffer_named
unfolding literal_line
returns-in_err-buffer_named g c =
    failed_first (codes "is " ∷ sign_of c.args.lit ∷ (decimal (variable_of c.args.lit + 1) ++ 10 ∷ []) ∷ []) c.in_err-buffer_named.ensures (search rules)

pub returns-in_err-write_bytes : goal.returns-in_err-write_bytes
unfolding literal_line
returns-in_err-write_bytes g c =
    failed_among (sign_of c.args.lit ∷ (decimal (variable_of c.args.lit + 1) ++ 10 ∷ []) ∷ [])
    c.in_ok-buffer_named.ensures.ok c.in_err-write_bytes.ensures (search rules)

pub returns-in_err-write_bytes-2 : goal.returns-in_err-write_bytes-2
unfolding literal_line
returns-in_err-write_bytes-2 g c =
    failed_among ((decimal (variable_of c.args.lit + 1) ++ 10 ∷ []) ∷ []) (Buffers-trans c.in_ok-buffer_named.ensures.ok c.in_ok-write_bytes.ensures.ok) (rw c.sign.ensures at c.in_err-write_bytes-2.ensures) (search rules)

pub returns : goal.returns
unfolding literal_line
returns g c =
    then_call (Buffers-trans (Buffers-trans c.in_ok-buffer_named.ensures.ok c.in_ok-write_bytes.ensures.ok) (rw c.sign.ensures at c.in_ok-write_bytes-2.ensures.ok)) (rw (c.from.ensures, c.var.ensures) at c.write_number.ensures)
