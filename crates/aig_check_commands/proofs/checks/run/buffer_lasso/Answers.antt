use Rattle.aig_check_commands.proofs.Words.{decimal, rules, codes, Buffers-trans, failed_among, failed_first, then_call}
use Rattle.std.proofs.Common.{[], ◌∷◌, ◌++◌}
use Rattle.aig_check_commands.proofs.checks.run.buffer_lasso.Goals as goal

pub returns-in_err-write_bytes : goal.returns-in_err-write_bytes
returns-in_err-write_bytes g c =
    let s = c.args.shown in
    failed_first ((decimal s.justice ++ 32 ∷ []) ∷ codes "in a loop from step " ∷ (decimal s.start ++ 32 ∷ []) ∷ codes "to " ∷ (decimal s.last ++ 10 ∷ []) ∷ []) c.in_err-write_bytes.ensures (search rules)

pub returns-in_err-write_number : goal.returns-in_err-write_number
returns-in_err-write_number g c =
    let s = c.args.shown in
    failed_among (codes "in a loop from step " ∷ (decimal s.start ++ 32 ∷ []) ∷ codes "to " ∷ (decimal s.last ++ 10 ∷ []) ∷ []) c.in_ok-write_bytes.ensures.ok c.in_err-write_number.ensures (search rules)

pub returns-in_err-write_bytes-2 : goal.returns-in_err-write_bytes-2
returns-in_err-write_bytes-2 g c =
    let s = c.args.shown in
    failed_among ((decimal s.start ++ 32 ∷ []) ∷ codes "to " ∷ (decimal s.last ++ 10 ∷ []) ∷ []) (Buffers-trans c.in_ok-write_bytes.ensures.ok c.in_ok-write_number.ensures.ok) c.in_err-write_bytes-2.ensures (search rules)

pub returns-in_err-write_number-2 : goal.returns-in_err-write_number-2
returns-in_err-write_number-2 g c =
    let s = c.args.shown in
    let first = Buffers-trans (Buffers-trans c.in_ok-write_bytes.ensures.ok c.in_ok-write_number.ensures.ok) c.in_ok-write_bytes-2.ensures.ok in
    failed_among (codes "to " ∷ (decimal s.last ++ 10 ∷ []) ∷ []) first
    c.in_err-write_number-2.ensures (search rules)

pub returns-in_err-write_bytes-3 : goal.returns-in_err-write_bytes-3
returns-in_err-write_bytes-3 g c =
    let s = c.args.shown in
    let first = Buffers-trans (Buffers-trans c.in_ok-write_bytes.ensures.ok c.in_ok-write_number.ensures.ok) c.in_ok-write_bytes-2.ensures.ok in
    failed_among ((decimal s.last ++ 10 ∷ []) ∷ []) (Buffers-trans first c.in_ok-write_number-2.ensures.ok) c.in_err-write_bytes-3.ensures (search rules)

pub returns : goal.returns
returns g c =
    let first = Buffers-trans (Buffers-trans c.in_ok-write_bytes.ensures.ok c.in_ok-write_number.ensures.ok) c.in_ok-write_bytes-2.ensures.ok in
    then_call (Buffers-trans (Buffers-trans first c.in_ok-write_number-2.ensures.ok) c.in_ok-write_bytes-3.ensures.ok) c.write_number-3.ensures
