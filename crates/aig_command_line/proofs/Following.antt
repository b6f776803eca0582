-- Pieces that follow each other, and the counts of what came before the last one.
use Rattle.aig_base.proofs.Words.{◌≡◌, ℕ, ◌+◌, ◌^◌, ◌≤◌, Bool, true, false, List, ◌++◌, length, take, drop, refl, sym, ap, subst, ◌∙◌, inl, inr, arith, length-append, length-drop, length-take, length-take-le, take-take, take_all, drop-drop, false_from_ne_true, same_Some, Consumes}
use Rattle.std.specs.Prelude.{Option, Some, None, IsTrue}
use Rattle.std.proofs.Math.Seq.{take-append-add, take-append_seam, drop-append_seam}
use Rattle.std.proofs.lemmas.List.{take-append-drop}
use Rattle.aig_command_line.specs.Came.{ComesIn, Follows, IsPlaceOf, StopsIn}
use Rattle.aig_command_line.specs.Counts.{CountsWith, IsTally, place_of}
use Rattle.aig_command_line.specs.declared.tally.Measure.{Measure}
use Rattle.aig_command_line.specs.declared.tally.Place.{Place}
use Rattle.aig_command_line.specs.declared.tally.Place.TheVariants.{Whole}
use Rattle.aig_command_line.specs.declared.tally.Tally.{Tally}

-- the first of a list, and then the first of the others
take_both : (l : List ℕ) (m n : ℕ) → m ≤ length l → take (m + n) l ≡ take m l ++ take n (drop m l)
take_both l m n inside =
    let long : length (take m l) ≡ m = length-take-le m l inside in
    ap (λ k. take (k + n) l) (sym long)
    ∙ ap (λ x. take (length (take m l) + n) x) (sym (take-append-drop m l))
    ∙ take-append-add (take m l) (drop m l) n

-- what is left of known bytes after some came
rest_of : (left : List ℕ) (after : Option (List ℕ)) (next : List ℕ)
    → Consumes (Some left) after next
    → (rest : List ℕ) × (after ≡ Some rest) × (left ≡ next ++ rest)
rest_of left (Some rest) next came = (rest, refl, came)
rest_of left None next came = absurd came

module _ (bytes : List ℕ) (t : Tally) (piece : List ℕ) (left : Option (List ℕ)) (failed : Bool)
    (so : ComesIn bytes left failed t piece) where
  -- these are there
  within : t.bytes + length piece ≤ length bytes
  within =
      omega (
        arith,
        so.counts.bytes,
        length-take t.bytes bytes,
        length-drop t.bytes bytes,
        length-take (length piece) (drop t.bytes bytes),
        ap length so.last,
      )

  -- those before the last piece, and the first of it
  front_came : (end : ℕ) → end ≤ length piece
      → take (t.bytes + end) bytes ≡ take t.bytes bytes ++ take end piece
  front_came end inside =
      let there : t.bytes ≤ length bytes = omega (arith, within) in
      take_both bytes t.bytes end there
      ∙ ap (λ x. take t.bytes bytes ++ x)
      (sym (take-take end (length piece) (drop t.bytes bytes) inside) ∙ ap (take end) so.last)

  -- a further piece came
  comes_with : (made : Tally) (after : Option (List ℕ)) (next : List ℕ)
      → ((came : List ℕ) → IsTally t came → IsTally made (came ++ piece)) → failed ≡ false
      → Consumes left after next → ComesIn bytes after false made next
  comes_with made after next with sound came =
      let more = with (take t.bytes bytes) so.counts in
      let count : made.bytes ≡ t.bytes + length piece =
      omega (arith, more.bytes, so.counts.bytes, length-append (take t.bytes bytes) piece) in
      let all : take made.bytes bytes ≡ take t.bytes bytes ++ piece =
      ap (λ k. take k bytes) count ∙ front_came (length piece) (omega arith)
      ∙ ap (λ x. take t.bytes bytes ++ x) (take_whole piece) in
      let split = rest_of (drop (t.bytes + length piece) bytes) after next
      (subst (λ (o : Option (List ℕ)). Consumes o after next) (so.now sound) came) in
      let cut : drop made.bytes bytes ≡ next ++ split.0 =
      ap (λ k. drop k bytes) count ∙ split.2 in
      record {
        counts = subst (IsTally made) (sym all) more;
        last = ap (take (length next)) cut ∙ take-append_seam next split.0;
        now = λ _. split.1
            ∙ ap Some (sym (drop-append_seam next split.0) ∙ ap (drop (length next)) (sym cut)
            ∙ drop-drop (length next) made.bytes bytes);
      }
    where
      take_whole : (l : List ℕ) → take (length l) l ≡ l
      take_whole l = take_all (length l) l (omega arith)

-- ---- of a source

module _ (start left : Option (List ℕ)) (failed : Bool) (before : Option Tally) (piece : List ℕ) (so : Follows start left failed before piece) where
  -- a failed read changes no count
  pub follows_failed : (after : Option (List ℕ)) (fails : Bool) → fails ≡ true
      → Follows start after fails before piece
  follows_failed after fails is = record {
    counted = λ bytes known t at.
        let was = so.counted bytes known t at in
        record { counts = was.counts; last = was.last; now = λ sound. let wrong : true ≡ false = sym is ∙ sound in absurd cc };
    many = so.many;
  }

-- a further piece came of a source
pub follows_with : (start left after : Option (List ℕ)) (failed fails : Bool)
    (before made : Option Tally) (piece next : List ℕ)
    → Follows start left failed before piece → CountsWith before piece made → ¬ IsTrue failed
    → fails ≡ false → Consumes left after next → Follows start after fails made next
follows_with start left after failed fails None made piece next so counts sound also came = record {
  counted = λ bytes known t at. let wrong = sym counts ∙ at in absurd cc;
  many = λ bytes known none. so.many bytes known refl;
}
follows_with start left after failed fails (Some b) (Some t) piece next so counts sound also came =
    record {
      counted = λ bytes known u at.
          let is = comes_with bytes b piece left failed (so.counted bytes known b refl) t after next
          counts (false_from_ne_true failed sound) came in
          subst (λ (x : Tally). ComesIn bytes after fails x next) (same_Some t u at)
          (subst (λ (f : Bool). ComesIn bytes after f t next) (sym also) is);
      many = λ bytes known none. absurd cc;
    }
follows_with start left after failed fails (Some b) None piece next so counts sound also came =
    record {
      counted = λ bytes known u at. absurd cc;
      many = λ bytes known none.
          omega (
            arith,
            counts,
            within bytes b piece left failed (so.counted bytes known b refl),
          );
    }

-- ---- the place of a byte of the last piece

module _ (start left : Option (List ℕ)) (failed : Bool) (before : Option Tally) (piece front : List ℕ) (end : ℕ) (so : Follows start left failed before piece) (inside : end ≤ length piece) (few : length piece ≤ 2 ^ 14) (is : front ≡ take end piece) (measure : Measure) where
  pub placed_in : (made : Option Tally) (t : Tally) (place : Place) → CountsWith before front made
      → made ≡ Some t
      → ((came : List ℕ) → IsTally t came → place ≡ place_of measure came)
      → IsPlaceOf start left failed measure place
  placed_in made t place counts at told =
      elim start as (λ o. Follows o left failed before piece → IsPlaceOf o left failed measure place) [
        | None ↦ λ _. tt
        | Some bytes ↦ λ f. inl (of before (subst (CountsWith before front) at counts) bytes (λ b. f.counted bytes refl b))
      ] so
    where
      of : (o : Option Tally) → CountsWith o front (Some t) → (bytes : List ℕ)
          → ((b : Tally) → o ≡ Some b → ComesIn bytes left failed b piece)
          → StopsIn bytes left failed measure place
      of None counts bytes comes = let wrong = counts in absurd cc
      of (Some b) counts bytes comes =
          let c = comes b refl in
          let all : take (b.bytes + end) bytes ≡ take b.bytes bytes ++ front =
          front_came bytes b piece left failed c end inside ∙ ap (λ x. take b.bytes bytes ++ x) (sym is) in
          record {
            taken = b.bytes + end;
            came = b.bytes + length piece;
            within = within bytes b piece left failed c;
            first = omega arith;
            near = omega arith;
            rest = c.now;
            at = rw all (told _ (counts (take b.bytes bytes) c.counts));
          }

  pub placed_whole : (made : Option Tally) → CountsWith before front made → made ≡ None
      → IsPlaceOf start left failed measure Whole
  placed_whole made counts at =
      elim start as (λ o. Follows o left failed before piece → IsPlaceOf o left failed measure Whole) [
        | None ↦ λ _. tt
        | Some bytes ↦ λ f. inr (refl, of before (subst (CountsWith before front) at counts) bytes (f.counted bytes refl) (f.many bytes refl))
      ] so
    where
      of : (o : Option Tally) → CountsWith o front None → (bytes : List ℕ)
          → ((b : Tally) → o ≡ Some b → ComesIn bytes left failed b piece)
          → (o ≡ None → 2 ^ 64 ≤ length bytes) → 2 ^ 64 ≤ length bytes
      of None counts bytes comes many = many refl
      of (Some b) counts bytes comes many =
          let short : length front ≤ length piece =
          omega (arith, ap length is, length-take end piece) in
          omega (arith, counts, within bytes b piece left failed (comes b refl))
