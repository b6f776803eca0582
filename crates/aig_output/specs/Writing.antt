-- Serves private clauses alone.
-- A text that is written piece by piece.
use Rattle.std.specs.Prelude.{◌≡◌, ℕ, List, ◌++◌, Result, OnOk, OnErr}
use Rattle.std.specs.Fmt.{WritesInCalls}

-- the pieces of a beginning of the text were written, and then a piece failed
pub record StopsInCalls {S : Type 0} (wrote stopped : S → List ℕ → S → Type 0) (old : S)
    (text : List ℕ) (new : S) : Type 0 where
  pub front : List ℕ
  pub piece : List ℕ
  pub rest : List ℕ
  pub at : S
  pub split : text ≡ front ++ piece ++ rest
  pub written : WritesInCalls wrote old front at
  pub fails : stopped at piece new

-- what holds after Ok, and what after Err
pub record WroteOrStopped {S T E : Type 0} (wrote stopped : S → List ℕ → S → Type 0) (old : S)
    (result : Result T E) (text : List ℕ) (new : S) : Type 0 where
  pub ok : OnOk result (wrote old text new)
  pub err : OnErr result (stopped old text new)

-- after Ok the pieces of the text were written, and after Err those of a beginning, and one failed
abbrev pub WritesPieces : {S T E : Type 0} → (S → List ℕ → S → Type 0)
    → (S → List ℕ → S → Type 0) → S → Result T E → List ℕ → S → Type 0
WritesPieces wrote stopped = WroteOrStopped (WritesInCalls wrote) (StopsInCalls wrote stopped)
