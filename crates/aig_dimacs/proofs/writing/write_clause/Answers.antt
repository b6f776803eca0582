use Rattle.std.proofs.Common.{[], ◌∷◌, rules}
use Rattle.aig_output.proofs.Putting.{Buffers-end, Buffers-turn, failed_within, then_call}
use Rattle.aig_dimacs.specs.Text.{clause_line, literal_text}
use Rattle.aig_dimacs.proofs.writing.write_clause.Goals as goal

pub returns-in_err-write_literal : goal.returns-in_err-write_literal
unfolding clause_line
returns-in_err-write_literal g c =
    failed_within ((48 ∷ 10 ∷ []) ∷ []) literal_text c.args.lits.now c.loop-lit.lit-index _ c.loop-lit-test.true c.loop-lit.invariant c.in_err-write_literal.ensures (search rules)

pub loop-lit-preserved : goal.loop-lit-preserved
loop-lit-preserved g c = Buffers-turn literal_text c.args.lits.now c.loop-lit.lit-index _ c.loop-lit-test.true c.loop-lit.invariant c.in_ok-write_literal.ensures.ok

pub returns : goal.returns
unfolding clause_line
returns g c = then_call (Buffers-end literal_text c.args.lits.now c.loop-lit.lit-index c.loop-lit-test.false c.loop-lit.invariant) c.write_bytes.ensures
