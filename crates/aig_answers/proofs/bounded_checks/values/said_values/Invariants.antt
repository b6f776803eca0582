use Rattle.aig_answers.proofs.Words.{◌≡◌, ℕ, ◌<◌, slice_index, slice_index_or, known_of, said_by, Named, assigned, Begins, SaysOnly, value_said}
use Rattle.aig_answers.proofs.bounded_checks.values.said_values.Given as goal

abbrev pub invariant-loop-i : goal.invariant-loop-i
invariant-loop-i l = Begins l.circuit l.k (said_by l.witness)
    × ((j : ℕ) (d : Named) → j < l.i → value_said (said_by l.witness) (slice_index_or
    l.made.named.items j d)
    ≡ known_of (assigned l.values (slice_index l.made.question.circuit.inputs.items j)))
    × SaysOnly l.circuit l.made.named.items l.made.question.circuit.inputs.items l.values
    (said_by l.witness)
