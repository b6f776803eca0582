use Rattle.aig_circuit.proofs.Words.{lists_circuit}
use Rattle.aig_edits.proofs.EditedFiles.{gives_edit, makes_circuit, makes_small, taken}
use Rattle.aig_edits.proofs.printing_edits.edited_file_of.Goals as goal

pub returns-clause-gives : goal.returns-clause-gives
returns-clause-gives c = λ f bound fits is.
    let edit = c.args.edit.now in
    gives_edit edit c.args.limit f (λ m. c.edited_files_show.ensures edit f bound m fits)
    (lists_circuit c.args.circuit) c.fitting.result is c.fitting.ensures

pub returns-clause-circuit : goal.returns-clause-circuit
returns-clause-circuit c =
    makes_circuit c.args.edit.now c.args.limit (lists_circuit c.args.circuit) c.fitting.result
    c.fitting.ensures

pub returns-clause-small : goal.returns-clause-small
returns-clause-small c =
    makes_small c.args.edit.now c.args.limit (lists_circuit c.args.circuit) c.fitting.result
    c.fitting.ensures

pub returns-clause-never_read : goal.returns-clause-never_read
returns-clause-never_read c =
    taken c.args.edit.now c.args.limit (lists_circuit c.args.circuit) c.fitting.result
    c.fitting.ensures
