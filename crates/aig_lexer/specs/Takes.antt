-- Part of what is promised.
-- What a call takes from a source with a buffer before it, beside a reader on lists.
use Rattle.std.specs.Prelude.{◌≡◌, ℕ, ◌+◌, ◌*◌, ◌≤◌, List, [], ◌∷◌, ◌++◌, length, Bool, true, false, Option, Some, None, IfSome, Result, Ok, Err}
use Rattle.std.specs.Io.KnownBytes.{Consumes, IsAtEnd, prepend_known}
use Rattle.aig_lexer.specs.declared.buffer.TheConstants.{SIZE}
use Rattle.aig_lexer.specs.Faults.{Cause, Tells}

-- what is to come: the bytes where they are known, whether a read has failed, and how many bytes
-- there are at most
pub record Feed : Type 0 where
  pub coming : Option (List ℕ)
  pub failed : Bool
  pub most : ℕ

-- the bytes that are held before a source, and then those that are left in it
abbrev pub feed : {S : Type 0} → (S → Option (List ℕ)) → (S → Bool) → (S → ℕ) → List ℕ → S → Feed
feed left failed pulls held r = record {
  coming = prepend_known held (left r);
  failed = failed r;
  most = SIZE * pulls r + length held;
}

-- these bytes came
pub record Advances (before after : Feed) (bytes : List ℕ) : Type 0 where
  pub consumed : Consumes before.coming after.coming bytes
  pub fewer : after.most + length bytes ≤ before.most

-- these bytes came, the last ones
pub record Ends (before after : Feed) (bytes : List ℕ) : Type 0 where
  pub consumed : Consumes before.coming after.coming bytes
  pub at_end : IsAtEnd after.coming
  pub sound : after.failed ≡ false

-- this byte came, or none is left
abbrev pub Steps : Feed → Feed → Option ℕ → Type 0
Steps before after (Some byte) = Advances before after (byte ∷ [])
Steps before after None = Ends before after []

-- the same, or a read failed
abbrev pub StepsOrFails : {E : Type 0} → Feed → Feed → Result (Option ℕ) E → Type 0
StepsOrFails before after (Ok o) = Steps before after o
StepsOrFails before after (Err e) = after.failed ≡ true

-- the bytes that were taken are read as y, whatever follows them
pub record Takes {Y : Type 0} (read : List ℕ → Option (Y × List ℕ)) (before after : Feed) (y : Y)
    : Type 0 where
  pub taken : List ℕ
  pub reads : (rest : List ℕ) → read (taken ++ rest) ≡ Some (y, rest)
  pub advances : Advances before after taken

-- where the bytes are known, nothing is read from them
abbrev pub Misses : {Y : Type 0} → (List ℕ → Option (Y × List ℕ)) → Feed → Type 0
Misses read before = IfSome before.coming (λ bytes. read bytes ≡ None)

-- a value that is seen as what was read, or an error that tells that nothing is read
abbrev pub Gives : {X Y E : Type 0} → (E → Cause) → (X → Y) → Feed → Feed → Result X E
    → (List ℕ → Option (Y × List ℕ)) → Type 0
Gives cause view before after (Ok x) read = Takes read before after (view x)
Gives cause view before after (Err e) read = Tells (cause e) (Misses read before) after.failed

-- a value that was made of what was read
abbrev pub Made : {X Y : Type 0} → (X → Y → Type 0) → Feed → Feed → X
    → (List ℕ → Option (Y × List ℕ)) → Type 0
Made {Y = Y} IsOf before after x read = (y : Y) × IsOf x y × Takes read before after y

-- such a value, or an error that tells that nothing is read
abbrev pub Makes : {X Y E : Type 0} → (E → Cause) → (X → Y → Type 0) → Feed → Feed → Result X E
    → (List ℕ → Option (Y × List ℕ)) → Type 0
Makes cause IsOf before after (Ok x) read = Made IsOf before after x read
Makes cause IsOf before after (Err e) read = Tells (cause e) (Misses read before) after.failed
