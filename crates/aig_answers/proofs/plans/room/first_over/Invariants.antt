use Rattle.aig_answers.proofs.Words.{◌<◌, ℕ, ◌≡◌, false, get_or, nat_lt, size_of, Question}
use Rattle.aig_answers.proofs.plans.room.first_over.Given as goal

abbrev pub invariant-loop-index : goal.invariant-loop-index
invariant-loop-index l =
    (q : Question) (i : ℕ) → i < l.index
    → nat_lt l.limit (size_of l.plain (get_or l.plan i q).ask l.circuit) ≡ false
