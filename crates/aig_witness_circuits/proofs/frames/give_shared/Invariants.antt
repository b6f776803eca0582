use Rattle.aig_witness_circuits.proofs.Words.{ℕ, take, ◌≡◌, given_at, model_leaf, shared_leaves}
use Rattle.aig_witness_circuits.proofs.frames.give_shared.Given as goal

abbrev pub invariant-loop-pair : goal.invariant-loop-pair
invariant-loop-pair l =
    (n : ℕ)
    → given_at l.given n
    ≡ shared_leaves (model_leaf (take l.pair-index l.shared)) l.images (given_at l.initial.given) n
