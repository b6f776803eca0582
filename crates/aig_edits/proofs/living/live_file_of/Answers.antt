use Rattle.aig_base.proofs.Words.{subst}
use Rattle.aig_format.proofs.Words.{IsWritable}
use Rattle.aig_edits.proofs.LiveFiles.{gives_live, makes_circuit, makes_taken}
use Rattle.aig_edits.proofs.living.live_file_of.Goals as goal

pub returns-clause-gives : goal.returns-clause-gives
returns-clause-gives c = λ f bound fits is.
    let fairness = c.args.fairness in
    let writable = subst IsWritable is c.requires in
    gives_live fairness f c.args.circuit.now c.live_of.result is
    (λ m made. c.live_files_show.ensures fairness bound f m fits writable made) c.live_of.ensures

pub returns-clause-circuit : goal.returns-clause-circuit
returns-clause-circuit c =
    let circuit = c.args.circuit.now in
    makes_circuit c.args.fairness circuit c.live_of.result
    (λ m is. c.live_circuits_are_circuits.ensures.circuit is.0 circuit m
    c.nodes-nodes.ensures.circuit is.3) c.live_of.ensures

pub returns-clause-never_read : goal.returns-clause-never_read
returns-clause-never_read c =
    makes_taken c.args.fairness c.args.circuit.now c.live_of.result c.live_of.ensures
