-- The header and the sections of a text file are read from the front exactly.
use Rattle.aig_base.proofs.Words.{◌≡◌, ℕ, zero, suc, ◌+◌, ◌-◌, ◌≤◌, Bool, eqb, leb, List, [], ◌∷◌, ◌++◌, length, get_or, replicate, map, Option, Some, None, refl, sym, ap, subst, ◌∙◌, append_assoc, arith, inl, inr, ◌⊎◌, AllByRecursion, eqb-true, eq-eqb, leb-true, le-leb, same_Some}
use Rattle.std.specs.Prelude.{IsTrue, option_map}
use Rattle.aig_format.proofs.Words.{AllPass, ◌then◌, Each, Just, Ended, Lines, HeaderNumbers, magic, numbers_in, IsHeader}
use Rattle.std.proofs.lemmas.List.{length-append, length-replicate}
use Rattle.aig_format.specs.declared.FileKind.{FileKind}
use Rattle.aig_format.specs.declared.FileKind.TheVariants.{Text, Binary}
use Rattle.aig_format.specs.Parse.{◌>>=◌, parse_ended, parse_line, strip, or_else, parse_kind, header_from, parse_header_numbers, parse_header, parse_numbers, parse_tested, parse_sets, parse_if}
use Rattle.aig_format.proofs.Entries.{chosen}
use Rattle.aig_format.proofs.NumberReaders.{bind_some}
use Rattle.aig_format.proofs.Joined.{Any, Begins, Reads, Several, With, Reads-any, Reads-ended, Reads-both, Reads-same, Reads-tested, Reads-seen, Reads-times}
use Rattle.aig_format.proofs.Lines.{IsShortLine, Reads-line, not_10}

strip_sound : (front bytes rest : List ℕ) → strip front bytes ≡ Some rest → bytes ≡ front ++ rest
strip_sound [] bytes rest h = same_Some _ _ h
strip_sound (a ∷ front) [] rest h = absurd cc
strip_sound (a ∷ front) (b ∷ bytes) rest h =
    elim (chosen (eqb a b) (strip front bytes) None (Some rest) h) [
      | inl then_h ↦ let e = eqb-true a b then_h.0 in let t = strip_sound front bytes rest then_h.1 in cc
      | inr else_h ↦ let f = else_h.1 in absurd cc
    ]

strip_complete : (front rest : List ℕ) → strip front (front ++ rest) ≡ Some rest
strip_complete [] rest = refl
strip_complete (a ∷ front) rest = rw (eq-eqb a a refl) (strip_complete front rest)

-- after a text that stands there word by word
pub Reads-following : {A : Type 0} (text : List ℕ) (P : A → List ℕ → Type 0) (p : List ℕ → Option (A × List ℕ)) → Reads P p → Reads (λ x. Just text then P x) (λ bytes. strip text bytes >>= p)
Reads-following text P p hp = record {
  sound = λ bytes x h.
      let b = bind_some (strip text bytes) p x h in
      let s = hp.sound b.0 x b.2 in
      let whole : bytes ≡ (text ++ s.0) ++ x.1 = strip_sound text bytes b.0 b.1 ∙ ap (λ (xs : List ℕ). text ++ xs) s.1 ∙ sym (append_assoc text s.0 x.1) in
      (text ++ s.0, whole, (text, s.0, refl, refl, s.2));
  complete = λ x front rest h.
      let same : front ++ rest ≡ text ++ (h.1 ++ rest) = ap (λ (xs : List ℕ). xs ++ rest) (h.2 ∙ ap (λ (xs : List ℕ). xs ++ h.1) h.3) ∙ append_assoc text h.1 rest in
      rw (same, strip_complete text (h.1 ++ rest)) (hp.complete x h.1 rest h.4);
}

-- which of two answers it was
which : (kind : FileKind) (o : Option (List ℕ)) (p : Option (FileKind × List ℕ)) (x : FileKind × List ℕ) → or_else (option_map (λ rest. (kind, rest)) o) p ≡ Some x
    → ((o ≡ Some x.1) × (kind ≡ x.0)) ⊎ (p ≡ Some x)
which kind (Some rest) p x h = let s = same_Some _ _ h in inl (ap (λ (y : FileKind × List ℕ). Some y.1) s, ap (λ (y : FileKind × List ℕ). y.0) s)
which kind None p x h = inr h

second : (kind : FileKind) (o : Option (List ℕ)) (x : FileKind × List ℕ) → option_map (λ rest. (kind, rest)) o ≡ Some x → (o ≡ Some x.1) × (kind ≡ x.0)
second kind (Some rest) x h = let s = same_Some _ _ h in (ap (λ (y : FileKind × List ℕ). Some y.1) s, ap (λ (y : FileKind × List ℕ). y.0) s)
second kind None x h = absurd cc

kind_sound : (bytes : List ℕ) (x : FileKind × List ℕ) → parse_kind bytes ≡ Some x → Begins (λ kind. Just (magic kind)) bytes x
unfolding parse_kind
kind_sound bytes x h =
    elim (which Text (strip (magic Text) bytes) (option_map (λ rest. (Binary, rest)) (strip (magic Binary) bytes)) x h) [
      | inl t ↦ (magic Text, strip_sound (magic Text) bytes x.1 t.0, ap magic t.1)
      | inr b ↦ let s = second Binary (strip (magic Binary) bytes) x b in (magic Binary, strip_sound (magic Binary) bytes x.1 s.0, ap magic s.1)
    ]

kind_complete : (kind : FileKind) (front rest : List ℕ) → Just (magic kind) front → parse_kind (front ++ rest) ≡ Some (kind, rest)
unfolding parse_kind
kind_complete Text front rest h = rw h refl
kind_complete Binary front rest h = rw h refl

pub Reads-kind : Reads (λ kind. Just (magic kind)) parse_kind
Reads-kind = record { sound = kind_sound; complete = kind_complete }

abbrev AreHeaderNumbers : HeaderNumbers → List ℕ → Type 0
AreHeaderNumbers numbers bytes = (written : List ℕ) × (header_from written ≡ numbers) × (5 ≤ length written) × IsShortLine 9 written bytes

Reads-header_numbers : Reads AreHeaderNumbers parse_header_numbers
Reads-header_numbers =
    Reads-seen (λ ns bytes. (5 ≤ length ns) × IsShortLine 9 ns bytes) AreHeaderNumbers (parse_if (parse_line 9) (λ ns. leb 5 (length ns))) header_from
    (Reads-tested (IsShortLine 9) (λ ns. 5 ≤ length ns) (parse_line 9) (λ ns. leb 5 (length ns)) (Reads-line 9) (λ ns. leb-true 5 (length ns)) (λ ns. le-leb 5 (length ns)))
    (λ ns bytes h. (ns, refl, h.0, h.1)) (λ numbers bytes h. (h.0, (h.2, h.3), h.1))

-- the numbers of a line of five to nine, with zeros after them
numbers_in-header_from : (ns : List ℕ) → 5 ≤ length ns → length ns ≤ 9 → numbers_in (header_from ns) ≡ ns ++ replicate (9 - length ns) 0
numbers_in-header_from (m ∷ i ∷ l ∷ o ∷ a ∷ []) low high = refl
numbers_in-header_from (m ∷ i ∷ l ∷ o ∷ a ∷ b ∷ []) low high = refl
numbers_in-header_from (m ∷ i ∷ l ∷ o ∷ a ∷ b ∷ c ∷ []) low high = refl
numbers_in-header_from (m ∷ i ∷ l ∷ o ∷ a ∷ b ∷ c ∷ j ∷ []) low high = refl
numbers_in-header_from (m ∷ i ∷ l ∷ o ∷ a ∷ b ∷ c ∷ j ∷ f ∷ []) low high = refl
numbers_in-header_from _ low high = absurd (omega arith)

-- zeros after the numbers of a line tell nothing
get_or-zeros : (ns : List ℕ) (k i : ℕ) → get_or (ns ++ replicate k 0) i 0 ≡ get_or ns i 0
get_or-zeros [] zero i = refl
get_or-zeros [] (suc k) zero = refl
get_or-zeros [] (suc k) (suc i) = get_or-zeros [] k i
get_or-zeros (n ∷ ns) k zero = refl
get_or-zeros (n ∷ ns) k (suc i) = get_or-zeros ns k i

pub header_from-zeros : (ns : List ℕ) (k : ℕ) → header_from (ns ++ replicate k 0) ≡ header_from ns
header_from-zeros ns k = let z = get_or-zeros ns k in rw (z 0, z 1, z 2, z 3, z 4, z 5, z 6, z 7, z 8) refl

abbrev pub HeaderIs : FileKind × HeaderNumbers → List ℕ → Type 0
HeaderIs h = IsHeader h.0 h.1

header_to : (x : FileKind × HeaderNumbers) (bytes : List ℕ) → (Just (magic x.0) then AreHeaderNumbers x.1) bytes → HeaderIs x bytes
header_to x bytes h =
    let w = h.4 in
    (w.0, 9 - length w.0, ap numbers_in (sym w.1) ∙ numbers_in-header_from w.0 w.2 w.3.0, w.2, (h.0, h.1, h.2, h.3, w.3.1))

header_back : (x : FileKind × HeaderNumbers) (bytes : List ℕ) → HeaderIs x bytes → (Just (magic x.0) then AreHeaderNumbers x.1) bytes
header_back x bytes h =
    let t = h.4 in
    let len : 9 ≡ length h.0 + h.1 = ap length h.2 ∙ length-append h.0 (replicate h.1 0) ∙ ap (λ (k : ℕ). length h.0 + k) (length-replicate {A = ℕ} h.1 0) in
    (t.0, t.1, t.2, t.3, (h.0, sym (header_from-zeros h.0 h.1) ∙ ap header_from (sym h.2), h.3, (omega arith, t.4)))

pub Reads-header : Reads HeaderIs parse_header
Reads-header =
    Reads-same (λ xy. Just (magic xy.0) then AreHeaderNumbers xy.1) HeaderIs parse_header
    (Reads-both (λ kind. Just (magic kind)) (λ _. AreHeaderNumbers) parse_kind (λ _. parse_header_numbers) Reads-kind (λ _. Reads-header_numbers))
    header_to header_back

-- ---- lines of one number, and justice sets

-- as many numbers as n says, a line each
abbrev pub SoMany : ℕ → List ℕ → List ℕ → Type 0
SoMany = Several (Ended 10)

all_any : {A : Type 0} (xs : List A) → AllByRecursion Any xs
all_any [] = tt
all_any (x ∷ xs) = (tt, all_any xs)

pub Reads-line_end : Reads (Ended 10) (parse_ended 10)
Reads-line_end = Reads-ended 10 not_10

pub Reads-numbers : (n : ℕ) → Reads (SoMany n) (parse_numbers n)
Reads-numbers n =
    Reads-same (With (AllByRecursion Any) (SoMany n)) (SoMany n) (parse_numbers n) (Reads-times Any (Ended 10) (parse_ended 10) n (Reads-any (Ended 10) (parse_ended 10) Reads-line_end))
    (λ xs bytes h. h.1) (λ xs bytes h. (all_any xs, h))

module _ (test : ℕ → Bool) where
  pub Reads-tested_lines : (n : ℕ) → Reads (With (AllPass test) (SoMany n)) (parse_tested test n)
  Reads-tested_lines n =
      Reads-times (λ e. IsTrue (test e)) (Ended 10) (parse_if (parse_ended 10) test) n
      (Reads-tested (Ended 10) (λ e. IsTrue (test e)) (parse_ended 10) test Reads-line_end (λ e h. h) (λ e h. h))

  -- sets of these sizes that pass the test, line after line
  abbrev pub AreSets : List (List ℕ) → Type 0
  AreSets = AllByRecursion (AllPass test)

  abbrev pub SetsOf : List ℕ → List (List ℕ) → List ℕ → Type 0
  SetsOf sizes sets bytes = AreSets sets × (map length sets ≡ sizes) × Each Lines sets bytes

  sets_sound : (sizes bytes : List ℕ) (x : List (List ℕ) × List ℕ) → parse_sets test sizes bytes ≡ Some x → Begins (SetsOf sizes) bytes x
  unfolding parse_sets
  sets_sound [] bytes x h = subst (Begins (SetsOf []) bytes) (same_Some _ _ h) ([], refl, (tt, refl, refl))
  sets_sound (n ∷ sizes) bytes x h =
      let b = bind_some (parse_tested test n bytes) (λ set. parse_sets test sizes set.1 >>= λ sets. Some (set.0 ∷ sets.0, sets.1)) x h in
      let c = bind_some (parse_sets test sizes b.0.1) (λ sets. Some (b.0.0 ∷ sets.0, sets.1)) x b.2 in
      let s = (Reads-tested_lines n).sound bytes b.0 b.1 in
      let t = sets_sound sizes b.0.1 c.0 c.1 in
      let whole : bytes ≡ (s.0 ++ t.0) ++ c.0.1 = s.1 ∙ ap (λ (xs : List ℕ). s.0 ++ xs) t.1 ∙ sym (append_assoc s.0 t.0 c.0.1) in
      let lens : map length (b.0.0 ∷ c.0.0) ≡ n ∷ sizes = let p = s.2.1.0 in let q = t.2.1 in cc in
      subst (Begins (SetsOf (n ∷ sizes)) bytes) (same_Some _ _ c.2) (s.0 ++ t.0, whole, ((s.2.0, t.2.0), lens, (s.0, t.0, refl, s.2.1.1, t.2.2)))

  sets_complete : (sets : List (List ℕ)) (front rest : List ℕ) → AreSets sets → Each Lines sets front → parse_sets test (map length sets) (front ++ rest) ≡ Some (sets, rest)
  unfolding parse_sets
  sets_complete [] front rest all h = rw h refl
  sets_complete (xs ∷ sets) front rest all h =
      let same : front ++ rest ≡ h.0 ++ (h.1 ++ rest) = ap (λ (ys : List ℕ). ys ++ rest) h.2 ∙ append_assoc h.0 h.1 rest in
      rw (same, (Reads-tested_lines (length xs)).complete xs h.0 (h.1 ++ rest) (all.0, (refl, h.3)), sets_complete sets h.1 rest all.1 h.4) refl

  pub Reads-sets : (sizes : List ℕ) → Reads (SetsOf sizes) (parse_sets test sizes)
  Reads-sets sizes = record {
    sound = sets_sound sizes;
    complete = λ sets front rest h. ap (λ (k : List ℕ). parse_sets test k (front ++ rest)) (sym h.1) ∙ sets_complete sets front rest h.0 h.2;
  }
