use Rattle.aig_answers.proofs.Words.{◌≡◌, length, replicate, FALSE}
use Rattle.std.specs.Prelude.{All}
use Rattle.aig_answers.proofs.bounded_checks.values.false_inputs.Given as goal

abbrev pub invariant-loop : goal.invariant-loop
invariant-loop l = (length l.rows.items ≡ l.counter) × All (λ row. row.items ≡ replicate l.count
    FALSE) l.rows.items
