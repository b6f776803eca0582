-- Refusals that can't come where the call is sure to be done.
use Rattle.aig_base.proofs.Words.{Result, Ok, Err, false≢true}
use Rattle.std.specs.Prelude.{IfErr, IsOk}

-- an error shows that there is none of what makes sure of a value
pub none_of : {T E A : Type 0} (F : A → Type 0) (r : Result T E) → ((x : A) → F x → IsOk r)
    → IfErr r (λ _. (x : A) → ¬ F x)
none_of F (Ok x) sure = tt
none_of F (Err e) sure = λ x is. absurd (false≢true (sure x is))
