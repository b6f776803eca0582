-- Facts on results.
use Rattle.aig_base.proofs.Words.{Result, Ok, Err, IfOk, IfErr}

-- both of two facts on the value
pub IfOk_both : {T E : Type 0} (r : Result T E) (P Q : T → Type 0) → IfOk r P → IfOk r Q → IfOk r (λ x. P x × Q x)
IfOk_both (Ok x) P Q p q = (p, q)
IfOk_both (Err e) P Q p q = tt

-- what holds after either outcome
pub after_either : {T E P : Type 0} (r : Result T E) → IfOk r (λ _. P) → IfErr r (λ _. P) → P
after_either (Ok x) ok err = ok
after_either (Err e) ok err = err
