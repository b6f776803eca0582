use Rattle.aig_format.proofs.Words.{file_of, line_text}
use Rattle.std.proofs.Common.{◌+◌, take, ◌∷◌, [], rules}
use Rattle.aig_output.proofs.Writing.{calls_laws, failed_first, then_call}
use Rattle.aig_writer.proofs.Counts.{header_text}
use Rattle.aig_writer.proofs.header.write_header.Goals as goal

pub returns-in_err-write_bytes-clause-writes : goal.returns-in_err-write_bytes-clause-writes
returns-in_err-write_bytes-clause-writes g c =
    let word = c.magic_word.ensures in
    let numbers = c.header_numbers-numbers.result in
    let count = c.written_count-written.result in
    rw (header_text (file_of c.args.kind c.args.circuit.now) count numbers (c.header_numbers-numbers.ensures.value c.args.kind) c.written_count-written.ensures.value)
    (failed_first calls_laws (line_text (take (5 + count) numbers) ∷ []) (rw word at c.in_err-write_bytes.ensures) (search rules))

pub returns-clause-writes : goal.returns-clause-writes
returns-clause-writes g c =
    let word = c.magic_word.ensures in
    rw (header_text (file_of c.args.kind c.args.circuit.now) c.written_count-written.result c.header_numbers-numbers.result (c.header_numbers-numbers.ensures.value c.args.kind) c.written_count-written.ensures.value)
    (then_call calls_laws (rw word at c.in_ok-write_bytes.ensures.ok) c.write_numbers.ensures)
