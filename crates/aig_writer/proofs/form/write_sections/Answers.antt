use Rattle.std.proofs.Common.{drop, rules}
use Rattle.aig_format.proofs.Words.{file_of, header_line_of}
use Rattle.aig_output.proofs.Writing.{calls_laws, failed_among, failed_first, then_call, then_text}
use Rattle.aig_writer.specs.Numbering.{written_number, numbered_file}
use Rattle.aig_writer.proofs.Texts.{form-sections, gates_part, inputs_part, latches_part, properties_part, section_texts}
use Rattle.aig_writer.proofs.form.write_sections.Goals as goal

pub returns-in_err-write_header : goal.returns-in_err-write_header
returns-in_err-write_header g c =
    let f = numbered_file (written_number c.args.numbers.now) c.args.kind c.args.circuit.now in
    rw (form-sections c.args.kind c.args.circuit.now c.args.numbers.now c.write_header.ensures.circuit c.requires)
    (failed_first calls_laws (section_texts f) c.in_err-write_header.ensures.writes (search rules))

pub write_inputs-requires : goal.write_inputs-requires
write_inputs-requires g c = c.requires.small

pub returns-in_err-write_inputs : goal.returns-in_err-write_inputs
returns-in_err-write_inputs g c =
    let f = numbered_file (written_number c.args.numbers.now) c.args.kind c.args.circuit.now in
    rw (form-sections c.args.kind c.args.circuit.now c.args.numbers.now c.write_header.ensures.circuit c.requires)
    (failed_among calls_laws {s = header_line_of (file_of c.args.kind c.args.circuit.now)}
    {t = inputs_part f} (drop 1 (section_texts f)) c.in_ok-write_header.ensures.writes.ok
    c.in_err-write_inputs.ensures (search rules))

pub write_latches-requires : goal.write_latches-requires
write_latches-requires g c = c.requires.small

pub returns-in_err-write_latches : goal.returns-in_err-write_latches
returns-in_err-write_latches g c =
    let f = numbered_file (written_number c.args.numbers.now) c.args.kind c.args.circuit.now in
    let two = then_text {t = inputs_part f} c.in_ok-write_header.ensures.writes.ok
    c.in_ok-write_inputs.ensures.ok in
    rw (form-sections c.args.kind c.args.circuit.now c.args.numbers.now c.write_header.ensures.circuit c.requires)
    (failed_among calls_laws {t = latches_part f} (drop 2 (section_texts f)) two
    c.in_err-write_latches.ensures (search rules))

pub write_properties-requires : goal.write_properties-requires
write_properties-requires g c = c.requires.small

pub returns-in_err-write_properties : goal.returns-in_err-write_properties
returns-in_err-write_properties g c =
    let f = numbered_file (written_number c.args.numbers.now) c.args.kind c.args.circuit.now in
    let two = then_text {t = inputs_part f} c.in_ok-write_header.ensures.writes.ok
    c.in_ok-write_inputs.ensures.ok in
    let three = then_text {t = latches_part f} two c.in_ok-write_latches.ensures.ok in
    rw (form-sections c.args.kind c.args.circuit.now c.args.numbers.now c.write_header.ensures.circuit c.requires)
    (failed_among calls_laws {t = properties_part f} (drop 3 (section_texts f)) three
    c.in_err-write_properties.ensures (search rules))

pub write_gates-requires : goal.write_gates-requires
write_gates-requires g c = c.requires

pub returns-in_err-write_gates : goal.returns-in_err-write_gates
returns-in_err-write_gates g c =
    let f = numbered_file (written_number c.args.numbers.now) c.args.kind c.args.circuit.now in
    let two = then_text {t = inputs_part f} c.in_ok-write_header.ensures.writes.ok
    c.in_ok-write_inputs.ensures.ok in
    let three = then_text {t = latches_part f} two c.in_ok-write_latches.ensures.ok in
    let four = then_text {t = properties_part f} three c.in_ok-write_properties.ensures.ok in
    rw (form-sections c.args.kind c.args.circuit.now c.args.numbers.now c.write_header.ensures.circuit c.requires)
    (failed_among calls_laws {t = gates_part f} (drop 4 (section_texts f)) four
    c.in_err-write_gates.ensures (search rules))

pub returns : goal.returns
returns g c =
    let f = numbered_file (written_number c.args.numbers.now) c.args.kind c.args.circuit.now in
    let two = then_text {t = inputs_part f} c.in_ok-write_header.ensures.writes.ok
    c.in_ok-write_inputs.ensures.ok in
    let three = then_text {t = latches_part f} two c.in_ok-write_latches.ensures.ok in
    let four = then_text {t = properties_part f} three c.in_ok-write_properties.ensures.ok in
    rw (form-sections c.args.kind c.args.circuit.now c.args.numbers.now c.write_header.ensures.circuit c.requires)
    (then_call calls_laws (then_text {t = gates_part f} four c.in_ok-write_gates.ensures.ok)
    c.write_names.ensures)
