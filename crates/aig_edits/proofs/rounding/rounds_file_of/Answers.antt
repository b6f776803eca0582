use Rattle.aig_base.proofs.Words.{subst}
use Rattle.aig_format.proofs.Words.{IsWritable}
use Rattle.aig_edits.proofs.RoundsFiles.{gives_rounds, makes_circuit, makes_taken}
use Rattle.aig_edits.proofs.rounding.rounds_file_of.Goals as goal

pub returns-clause-gives : goal.returns-clause-gives
returns-clause-gives c = λ f bound fits is.
    let fairness = c.args.fairness in
    let writable = subst IsWritable is c.requires in
    gives_rounds fairness c.args.count f c.args.circuit.now c.rounds_of.result is
    (λ m made. c.rounds_files_show.ensures fairness c.args.count bound f m fits writable made) c.rounds_of.ensures

pub returns-clause-circuit : goal.returns-clause-circuit
returns-clause-circuit c =
    let circuit = c.args.circuit.now in
    makes_circuit c.args.fairness c.args.count circuit c.rounds_of.result
    (λ m is. c.rounds_circuits_are_circuits.ensures.circuit is.0 c.args.count circuit m
    c.nodes-nodes.ensures.circuit is.3) c.rounds_of.ensures

pub returns-clause-never_read : goal.returns-clause-never_read
returns-clause-never_read c =
    makes_taken c.args.fairness c.args.count c.args.circuit.now c.rounds_of.result c.rounds_of.ensures
