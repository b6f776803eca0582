use Rattle.aig_base.proofs.Words.{[], ◌∷◌, rules, flat_map, codes}
use Rattle.aig_output.proofs.Putting.{Buffers-trans, failed_among, failed_first, then_call}
use Rattle.aig_witness.specs.Witness.{row_text, said_by}
use Rattle.aig_witness.proofs.Pieces.{text_pieces, witness_pieces}
use Rattle.aig_witness.proofs.writing.write_lines.Goals as goal

pub returns-in_err-write_bytes : goal.returns-in_err-write_bytes
returns-in_err-write_bytes g c =
    let w = said_by c.args.witness.now in
    rw (witness_pieces w) (failed_first (text_pieces w) c.in_err-write_bytes.ensures (search rules))

pub returns-in_err-write_number : goal.returns-in_err-write_number
returns-in_err-write_number g c =
    let w = said_by c.args.witness.now in
    rw (witness_pieces w)
    (failed_among (row_text w.state ∷ flat_map row_text w.steps ∷ codes ".\n" ∷ []) c.in_ok-write_bytes.ensures.ok c.in_err-write_number.ensures (search rules))

pub returns-in_err-write_row : goal.returns-in_err-write_row
returns-in_err-write_row g c =
    let w = said_by c.args.witness.now in
    rw (witness_pieces w)
    (failed_among (flat_map row_text w.steps ∷ codes ".\n" ∷ []) (Buffers-trans c.in_ok-write_bytes.ensures.ok c.in_ok-write_number.ensures.ok) (rw c.deref.ensures.value at c.in_err-write_row.ensures) (search rules))

pub returns-in_err-write_steps : goal.returns-in_err-write_steps
returns-in_err-write_steps g c =
    let w = said_by c.args.witness.now in
    rw (witness_pieces w)
    (failed_among (codes ".\n" ∷ []) (Buffers-trans (Buffers-trans c.in_ok-write_bytes.ensures.ok c.in_ok-write_number.ensures.ok) (rw c.deref.ensures.value at c.in_ok-write_row.ensures.ok)) (rw c.deref-2.ensures.value at c.in_err-write_steps.ensures) (search rules))

pub returns : goal.returns
returns g c =
    let w = said_by c.args.witness.now in
    rw (witness_pieces w)
    (then_call (Buffers-trans (Buffers-trans (Buffers-trans c.in_ok-write_bytes.ensures.ok c.in_ok-write_number.ensures.ok) (rw c.deref.ensures.value at c.in_ok-write_row.ensures.ok)) (rw c.deref-2.ensures.value at c.in_ok-write_steps.ensures.ok)) c.write_bytes-2.ensures)
