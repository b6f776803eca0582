use Rattle.aig_base.proofs.Words.{[], ◌∷◌, rules, flat_map}
use Rattle.aig_output.proofs.Putting.{Buffers-trans, failed_among, failed_first, then_call}
use Rattle.aig_dimacs.specs.Text.{clause_line, header_line}
use Rattle.aig_dimacs.proofs.Pieces.{text_pieces}
use Rattle.aig_dimacs.proofs.circuit.write_all.Goals as goal

pub returns-in_err-write_header : goal.returns-in_err-write_header
returns-in_err-write_header g c = λ lists are.
    let extra = c.args.extra.now in
    let header = header_line c.args.counts.0 c.args.counts.1 in
    rw (text_pieces header lists extra)
    (failed_first (flat_map (flat_map clause_line) lists ∷ flat_map clause_line extra ∷ []) c.in_err-write_header.ensures (search rules))

pub returns-in_err-write_gates : goal.returns-in_err-write_gates
returns-in_err-write_gates g c = λ lists are.
    let extra = c.args.extra.now in
    let header = header_line c.args.counts.0 c.args.counts.1 in
    rw (text_pieces header lists extra)
    (failed_among (flat_map clause_line extra ∷ []) c.in_ok-write_header.ensures.ok (c.in_err-write_gates.ensures lists are) (search rules))

pub returns : goal.returns
returns g c = λ lists are.
    let extra = c.args.extra.now in
    let header = header_line c.args.counts.0 c.args.counts.1 in
    rw (text_pieces header lists extra)
    (then_call (Buffers-trans c.in_ok-write_header.ensures.ok (c.in_ok-write_gates.ensures lists are).ok) c.write_list.ensures)
