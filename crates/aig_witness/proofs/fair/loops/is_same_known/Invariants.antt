use Rattle.aig_base.proofs.Words.{◌≡◌, ◌≢◌, ℕ, ◌<◌, slice_index_or}
use Rattle.aig_base.specs.declared.logic.three.Lbool.TheVariants.{NONE}
use Rattle.aig_witness.proofs.fair.loops.is_same_known.Given as goal

abbrev pub invariant-loop-i : goal.invariant-loop-i
invariant-loop-i l = (k : ℕ) → k < l.i → (slice_index_or l.state k NONE ≢ NONE)
    × (slice_index_or l.state k NONE ≡ slice_index_or l.other k NONE)
