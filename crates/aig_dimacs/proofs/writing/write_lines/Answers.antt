use Rattle.aig_base.proofs.Words.{[], ◌∷◌, rules, flat_map}
use Rattle.aig_output.proofs.Putting.{Buffers-trans, failed_among, failed_first, then_call}
use Rattle.aig_dimacs.specs.Text.{clause_line, header_line}
use Rattle.aig_dimacs.proofs.Pieces.{text_pieces}
use Rattle.aig_dimacs.proofs.writing.write_lines.Goals as goal

pub returns-in_err-write_header : goal.returns-in_err-write_header
returns-in_err-write_header g c =
    let lists = c.args.clauses.now in
    let extra = c.args.extra.now in
    rw (text_pieces (header_line c.args.counts.0 c.args.counts.1) lists extra)
    (failed_first (flat_map (flat_map clause_line) lists ∷ flat_map clause_line extra ∷ []) c.in_err-write_header.ensures (search rules))

pub returns-in_err-write_lists : goal.returns-in_err-write_lists
returns-in_err-write_lists g c =
    let lists = c.args.clauses.now in
    let extra = c.args.extra.now in
    rw (text_pieces (header_line c.args.counts.0 c.args.counts.1) lists extra)
    (failed_among (flat_map clause_line extra ∷ []) c.in_ok-write_header.ensures.ok c.in_err-write_lists.ensures (search rules))

pub returns : goal.returns
returns g c =
    rw (text_pieces (header_line c.args.counts.0 c.args.counts.1) c.args.clauses.now c.args.extra.now)
    (then_call (Buffers-trans c.in_ok-write_header.ensures.ok c.in_ok-write_lists.ensures.ok) c.write_list.ensures)
