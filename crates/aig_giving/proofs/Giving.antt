-- What becomes of items that were made.
use Rattle.aig_base.proofs.Words.{◌≡◌, ℕ, List, Result, Ok, Err, Vec, Global, sym, subst, inl, inr}
use Rattle.std.specs.Prelude.{IfOk, IfErr}
use Rattle.aig_giving.specs.Given.{GivesMade, GivesOr}

-- items of which this holds are given, or the status is that of the refusal
pub gives : {X : Type 0} (Are : List X → Type 0) (Refused : ℕ → Type 0)
    (made : Result (Vec X Global) ℕ) {status : ℕ} {old new : List X} {before needed : ℕ}
    → IfOk made (λ v. Are v.items) → IfErr made Refused
    → GivesMade made status old new before needed
    → GivesOr Are status old new before needed (Refused status)
gives Are Refused (Ok v) are other told = inl (record { items = v.items; are = are; given = told })
gives Are Refused (Err s) are reason told =
    inr (told.1, told.2, subst Refused (sym told.0) reason)
