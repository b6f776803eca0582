use Rattle.aig_witness_circuits.proofs.Words.{ℕ, take, ◌≡◌, given_at, next_leaves, option_or}
use Rattle.aig_witness_circuits.proofs.frames.give_next.Given as goal

abbrev pub invariant-loop-latch : goal.invariant-loop-latch
invariant-loop-latch l =
    (n : ℕ)
    → given_at l.given n
    ≡ option_or (next_leaves (take l.latch-index l.latchs) l.images n) (given_at l.initial.given n)
