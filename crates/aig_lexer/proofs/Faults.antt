-- What follows from an error.
use Rattle.std.proofs.Common.{Bool, false}
use Rattle.aig_lexer.specs.Faults.{Cause, Memory, Stream, Other, Never, Tells}

-- what follows from the fact
pub tells-weaker : (cause : Cause) (P Q : Type 0) (failed : Bool) → (P → Q) → Tells cause P failed
    → Tells cause Q failed
tells-weaker Memory P Q failed f h = tt
tells-weaker Stream P Q failed f h = h
tells-weaker Other P Q failed f h = f h
tells-weaker Never P Q failed f h = h

-- the same, of a failed read that hasn't come
pub tells-sound : (cause : Cause) (P Q : Type 0) (failed : Bool) → (P → Q) → Tells cause P false
    → Tells cause Q failed
tells-sound Memory P Q failed f h = tt
tells-sound Stream P Q failed f h = absurd cc
tells-sound Other P Q failed f h = f h
tells-sound Never P Q failed f h = absurd h
