use Rattle.std.proofs.Common.{rules}
use Rattle.aig_output.proofs.Writing.{all_done, calls_laws, failed_turn, then_turn}
use Rattle.aig_writer.specs.Numbering.{written_number}
use Rattle.aig_circuit.specs.Renumber.{renumbered_edge}
use Rattle.aig_writer.proofs.Items.{edge_line, numbered_edges}
use Rattle.aig_writer.proofs.sections.write_edges.Goals as goal

pub literal-requires : goal.literal-requires
literal-requires g c = c.requires c.loop-e.e-index _ c.loop-e-test.true

pub returns-in_err-write_line : goal.returns-in_err-write_line
returns-in_err-write_line g c =
    rw (numbered_edges (written_number c.args.numbers.now) c.args.edges.now)
    (failed_turn calls_laws {c = c.write_line.new.out} (λ e. edge_line (renumbered_edge (written_number c.args.numbers.now) e)) c.args.edges.now c.loop-e.e-index _ c.loop-e-test.true c.loop-e.invariant (rw c.literal.ensures at c.in_err-write_line.ensures) (search rules))

pub loop-e-preserved : goal.loop-e-preserved
loop-e-preserved g c =
    then_turn (λ e. edge_line (renumbered_edge (written_number c.args.numbers.now) e)) c.args.edges.now c.loop-e.e-index _ c.loop-e-test.true c.loop-e.invariant (rw c.literal.ensures at c.in_ok-write_line.ensures.ok)

pub returns : goal.returns
returns g c =
    rw (numbered_edges (written_number c.args.numbers.now) c.args.edges.now) (all_done (λ e. edge_line (renumbered_edge (written_number c.args.numbers.now) e)) c.args.edges.now c.loop-e.e-index c.loop-e-test.false c.loop-e.invariant)
