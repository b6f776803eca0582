-- Part of what is promised.
-- What a sink holds, and what waits for it in a buffer, after a text or a beginning of one.
use Rattle.std.specs.Prelude.{◌≡◌, ℕ, List, ◌++◌, Option, Bool, false, IsTrue, Result, OnOk, OnErr}
use Rattle.std.specs.Io.KnownBytes.{Appends}

-- what it held, and then a beginning of the text
abbrev pub AppendsBeginning : Option (List ℕ) → Option (List ℕ) → List ℕ → Type 0
AppendsBeginning old new text =
    (front rest : List ℕ) × (text ≡ front ++ rest) × Appends old new front

-- a beginning of the text is held, and the sink has failed
pub record Stops (old new : Option (List ℕ)) (failed : Bool) (text : List ℕ) : Type 0 where
  pub beginning : AppendsBeginning old new text
  pub has_failed : IsTrue failed

-- of what waited and the text, a front is held, and the rest waits
pub record Buffers (waited : List ℕ) (old : Option (List ℕ)) (waits : List ℕ)
    (new : Option (List ℕ)) (text : List ℕ) : Type 0 where
  pub front : List ℕ
  pub split : waited ++ text ≡ front ++ waits
  pub moved : Appends old new front

-- After Ok the sink holds what it held and the text, and has not failed. After Err it holds what it
-- held and a beginning of the text, and has failed.
pub record WritesOrStops {W T E : Type 0} (held : W → Option (List ℕ)) (failed : W → Bool) (old : W)
    (result : Result T E) (text : List ℕ) (new : W) : Type 0 where
  pub ok : OnOk result (Appends (held old) (held new) text)
  pub sound : OnOk result (failed new ≡ false)
  pub err : OnErr result (Stops (held old) (held new) (failed new) text)

-- After Ok the sink and the buffer hold what they held and the text. After Err the sink holds what
-- it held, then of what waited and the text a beginning, and has failed.
pub record BuffersOrStops {W T E : Type 0} (held : W → Option (List ℕ)) (failed : W → Bool)
    (waited : List ℕ) (old : W) (result : Result T E) (text waits : List ℕ) (new : W) : Type 0 where
  pub ok : OnOk result (Buffers waited (held old) waits (held new) text)
  pub err : OnErr result (Stops (held old) (held new) (failed new) (waited ++ text))
