-- Part of what is promised.
-- What the list builders ask and tell of the items of an iterator.
use Rattle.std.specs.Prelude.{◌≡◌, true, List, Option}
use Rattle.std.specs.Iterator.Runs.{EachRunFrom, WholeRun}

-- whatever items the iterator gives up to its end, this holds of them
abbrev pub ForItems : {U S A : Type 0} → (U → S → Type 0) → (S → Option A → S → Type 0) → U
    → (List A → Type 0) → Type 0
ForItems {S = S} becomes steps iterable P =
    (it : S) → becomes iterable it → EachRunFrom steps it (λ p. p.whole ≡ true → P p.items)

-- the iterator gave items up to its end, of which this holds
abbrev pub TakesItems : {U S A : Type 0} → (U → S → Type 0) → (S → Option A → S → Type 0) → U
    → (List A → Type 0) → Type 0
TakesItems {S = S} becomes steps iterable P =
    (it : S) × becomes iterable it × WholeRun steps it (λ p. P p.items)
