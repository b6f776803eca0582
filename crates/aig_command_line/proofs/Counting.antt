-- Counts with a further byte.
use Rattle.aig_base.proofs.Words.{◌≡◌, ◌≢◌, ◌==◌, ◌||◌, ℕ, zero, suc, ◌+◌, ◌-◌, ◌<◌, Bool, cond, false, append_assoc, eq-eqb, ne_eqb, List, [], ◌∷◌, ◌++◌, length, take, drop, get_or, refl, sym, ap, ◌∙◌, arith, subst, length-append, add-one, length-drop, Consumes, length-take}
use Rattle.std.specs.List.{list_any}
use Rattle.std.specs.Prelude.{Option, Some, None}
use Rattle.std.proofs.lemmas.List.{length-append}
use Rattle.std.proofs.lemmas.List.Folds.{list_any-append}
use Rattle.std.proofs.lemmas.List.Sums.{sum_by-append}
use Rattle.std.proofs.Math.Seq.{take-suc, drop-cons, take-append_seam}
use Rattle.aig_command_line.specs.Came.{Came, IsPlaceIn}
use Rattle.aig_command_line.specs.Counts.{IsTally, feeds_in, has_zero, line_of, place_of, telling}
use Rattle.aig_command_line.specs.declared.tally.Measure.{Measure}
use Rattle.aig_command_line.specs.declared.tally.Place.{Place}
use Rattle.aig_command_line.specs.declared.tally.Tally.{Tally}

-- all but the last
pub front : (came : List ℕ) (b : ℕ) → take (length (came ++ b ∷ []) - 1) (came ++ b ∷ []) ≡ came
front came b =
    let n : length (came ++ b ∷ []) - 1 ≡ length came =
    omega (arith, length-append came (b ∷ [])) in
    rw n (take-append_seam came (b ∷ []))

-- there is one
pub is_within : (bytes rest : List ℕ) (n b : ℕ) → drop n bytes ≡ b ∷ rest → n < length bytes
is_within bytes rest n b e = omega (arith, length-drop n bytes, ap length e)

-- it is first of those that are left
pub split_with : (bytes rest : List ℕ) (n b : ℕ) → drop n bytes ≡ b ∷ rest
    → (get_or bytes n 0 ≡ b) × (drop (n + 1) bytes ≡ rest)
split_with bytes rest n b e =
    let cut : drop n bytes ≡ get_or bytes n 0 ∷ drop (n + 1) bytes =
    rw add-one (drop-cons bytes n 0 (is_within bytes rest n b e)) in
    (cc, cc)

-- the bytes where it is taken
pub taken_with : (bytes rest : List ℕ) (n b : ℕ) → drop n bytes ≡ b ∷ rest
    → take (n + 1) bytes ≡ take n bytes ++ b ∷ []
taken_with bytes rest n b e =
    let h : n < length bytes = is_within bytes rest n b e in
    subst (λ (x : ℕ). take (n + 1) bytes ≡ take n bytes ++ x ∷ []) (split_with bytes rest n b e).0
    (rw add-one (take-suc bytes n 0 h))

-- what is left of known bytes after it came
pub after_with : (left : List ℕ) (after : Option (List ℕ)) (b : ℕ) → Consumes (Some left) after
    (b ∷ [])
    → (rest : List ℕ) × (after ≡ Some rest) × (left ≡ b ∷ rest)
after_with left (Some rest) b came = (rest, refl, came)
after_with left None b came = absurd came

-- the counts of known bytes after it came
pub counted_with : (t made : Tally) (start before after : Option (List ℕ)) (b : ℕ)
    → Came start before false t
    → ((came : List ℕ) → IsTally t came → IsTally made (came ++ b ∷ []))
    → Consumes before after (b ∷ []) → (bytes : List ℕ) → start ≡ Some bytes
    → IsTally made (take made.bytes bytes) × (after ≡ Some (drop made.bytes bytes))
counted_with t made start before after b so with came bytes is =
    let n = t.bytes in
    let counts = so.counts bytes is in
    let left = so.now bytes is refl in
    let split = after_with (drop n bytes) after b (rw left at came) in
    let more = with (take n bytes) counts in
    let larger : made.bytes ≡ n + 1 =
    more.bytes ∙ (length-append (take n bytes) (b ∷ []) ∙ ap (λ k. k + 1) (sym counts.bytes)) in
    let same : take made.bytes bytes ≡ take n bytes ++ b ∷ [] =
    ap (λ k. take k bytes) larger ∙ taken_with bytes split.0 n b split.2 in (
      subst (λ (came : List ℕ). IsTally made came) (sym same) more,
      rw larger (split.1 ∙ ap Some (sym (split_with bytes split.0 n b split.2).1)),
    )

-- the same, as what is known of the source
pub came_with : (t made : Tally) (start before after : Option (List ℕ)) (failed : Bool) (b : ℕ)
    → Came start before failed t → failed ≡ false
    → ((came : List ℕ) → IsTally t came → IsTally made (came ++ b ∷ []))
    → Consumes before after (b ∷ []) → Came start after failed made
came_with t made start before after failed b so sound with came =
    let had : Came start before false t = subst (λ (f : Bool). Came start before f t) sound so in
    record {
      counts = λ bytes is. (counted_with t made start before after b had with came bytes is).0;
      now = λ bytes is e. (counted_with t made start before after b had with came bytes is).1;
    }

-- so its place is one in known bytes
pub placed : (start left : Option (List ℕ)) (failed : Bool) (t : Tally) (measure : Measure)
    (place : Place)
    → Came start left failed t → ((came : List ℕ) → IsTally t came → place ≡ place_of measure came)
    → IsPlaceIn start measure place
placed (Some bytes) left failed t measure place so at =
    let counts = so.counts bytes refl in (
      t.bytes,
      omega (arith, counts.bytes, length-take t.bytes bytes),
      at (take t.bytes bytes)
          counts,
    )
placed None left failed t measure place so at = tt

-- ---- the first bytes, where a piece comes

-- the first of a list, and then of the piece
take_over : (n : ℕ) (xs ys : List ℕ) → take n (xs ++ ys) ≡ take n xs ++ take (n - length xs) ys
take_over zero xs ys = let e : zero - length xs ≡ zero = omega arith in rw e
take_over (suc n) [] ys = let e : suc n - length {A = ℕ} [] ≡ suc n = omega arith in rw e
take_over (suc n) (x ∷ xs) ys =
    let e : suc n - length (x ∷ xs) ≡ n - length xs = omega arith in
    rw e (ap (λ l. x ∷ l) (take_over n xs ys))

pub zero_append : (came piece : List ℕ) → has_zero (came ++ piece)
    ≡ (has_zero came || list_any (λ b. b == 0) (take (telling - length came) piece))
zero_append came piece =
    ap (list_any (λ b. b == 0)) (take_over telling came piece)
    ∙ list_any-append (λ b. b == 0) (take telling came) (take (telling - length came) piece)

-- ---- the counts with a piece

feeds_append : (xs ys : List ℕ) → feeds_in (xs ++ ys) ≡ feeds_in xs + feeds_in ys
feeds_append xs ys = sum_by-append (λ b. cond (b == 10) 1 0) xs ys

-- a piece of which this is the last byte, and the others come before it
module _ (t : Tally) (came piece others : List ℕ) (last : ℕ) (so : IsTally t came)
    (is : piece ≡ others ++ last ∷ []) where
  split_all : came ++ piece ≡ (came ++ others) ++ last ∷ []
  split_all = ap (λ l. came ++ l) is ∙ sym (append_assoc came others (last ∷ []))

  feeds_before : feeds_in (came ++ others) ≡ t.feeds + feeds_in others
  feeds_before = feeds_append came others ∙ ap (λ n. n + feeds_in others) (sym so.feeds)

  feeds_all : feeds_in (came ++ piece) ≡ t.feeds + feeds_in others + cond (last == 10) 1 0
  feeds_all =
      ap feeds_in split_all ∙ feeds_append (came ++ others) (last ∷ [])
      ∙ ap (λ n. n + feeds_in (last ∷ [])) feeds_before ∙ omega arith

  pub feed_last : last ≡ 10 → feeds_in (came ++ piece) ≡ t.feeds + feeds_in others + 1
  feed_last feed =
      feeds_all ∙ ap (λ b. t.feeds + feeds_in others + cond b 1 0) (eq-eqb last 10 feed)

  pub other_last : last ≢ 10 → feeds_in (came ++ piece) ≡ t.feeds + feeds_in others
  other_last other =
      feeds_all ∙ ap (λ b. t.feeds + feeds_in others + cond b 1 0) (ne_eqb last 10 other)
      ∙ omega arith

  pub line_last : line_of (came ++ piece) ≡ t.feeds + feeds_in others + 1
  line_last =
      ap line_of split_all ∙ ap (λ l. 1 + feeds_in l) (front (came ++ others) last)
      ∙ ap (λ n. 1 + n) feeds_before ∙ omega arith
