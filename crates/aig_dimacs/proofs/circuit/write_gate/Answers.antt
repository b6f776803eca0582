use Rattle.aig_base.proofs.Words.{◌≡◌, ◌++◌, drop, ap, ◌∙◌, append-nil, arith, drop_all, take_rest, flat_map}
use Rattle.aig_cnf.proofs.Needing.{edges_below}
use Rattle.aig_cnf.specs.Cnf.{clauses_of}
use Rattle.aig_dimacs.specs.Text.{clause_line}
use Rattle.aig_dimacs.specs.declared.gate.TheConstants.{ROOM}
use Rattle.aig_dimacs.proofs.circuit.write_gate.Goals as goal

pub put_gate-start-requires-clause-below : goal.put_gate-start-requires-clause-below
put_gate-start-requires-clause-below g c =
    edges_below c.args.nodes.now c.requires.sound.ordered c.args.optimize c.args.id c.in-Some.form c.in-Some.ensures

pub returns : goal.returns
returns g c = λ clauses are.
    let text = flat_map clause_line (clauses_of c.args.id c.in-Some.form) in
    let whole : drop c.put_gate-start.result c.put_gate-start.new.text ≡ text =
    c.put_gate-start.ensures.puts.text ∙ ap (λ l. text ++ l) (drop_all ROOM c.args.text.now (omega (arith, c.requires.room))) ∙ append-nil text in
    rw (are.gate c.in-Some.form c.if-needed.true c.in-Some.ensures) (rw (take_rest c.put_gate-start.new.text c.put_gate-start.result ∙ whole) at c.write_bytes.ensures)
