-- Where the hints for each clause begin.
use Rattle.aig_base.proofs.Words.{◌≡◌, ◌≢◌, ℕ, ◌+◌, ◌-◌, ◌<◌, ◌==◌, Bool, true, false, cond, Option, Some, None, List, [], ◌∷◌, ◌++◌, drop, length, refl, sym, ap, subst, ◌∙◌, arith, append-nil, eq-eqb, eqb-false, eqb-true, get_or-set_same, get_or-set_other, length-set, lt-ltb, nat_lt, ne_eqb, same_Some, slice_index_or, slice_set}
use Rattle.aig_refutation.specs.declared.words.Number.{Number}
use Rattle.aig_refutation.specs.Proofs.{hints_at}
use Rattle.aig_refutation.specs.Rat.{hints_for}
use Rattle.aig_refutation.specs.Starts.{AreStarts, IsStart, several, start_in, with_start}
use Rattle.aig_refutation.specs.Tables.{Holds, Table, entry_at, name_in, place_by, place_in}
use Rattle.aig_refutation.specs.Checking.{Live}
use Rattle.aig_refutation.specs.Tokens.{said_numbers}

-- ---- hints of a number

-- behind the number of a clause stand hints for it, and perhaps again later
pub hints_behind : (n : ℕ) (groups : List (Bool × ℕ))
    → hints_for n true groups ≡ hints_at groups ++ hints_for n false groups
hints_behind n [] = refl
hints_behind n (hint ∷ groups) = by hint.0 (hints_behind n groups)
  where
    next : List ℕ
    next = hints_for n (n == hint.1) groups

    by : (b : Bool) → hints_for n true groups ≡ hints_at groups ++ hints_for n false groups
        → cond b (hint.1 ∷ hints_for n true groups) next
        ≡ cond b (hint.1 ∷ hints_at groups) [] ++ cond b (hints_for n false groups) next
    by true later = ap (λ (l : List ℕ). hint.1 ∷ l) later
    by false later = refl

module _ (groups rest : List Number) (x : Number) (n start : ℕ) where
  abbrev left : List ℕ
  left = hints_for n false (said_numbers rest)

  -- a hint says nothing of where others begin
  pub start_hint : x.positive ≡ true → IsStart groups rest n start → IsStart groups (x ∷ rest) n start
  start_hint e is =
      let same : hints_for n false (said_numbers (x ∷ rest)) ≡ left = ap (λ (b : Bool). cond b left
      (hints_for n (n == x.value) (said_numbers rest))) e in
      record { none = λ h. same ∙ is.none h; one = λ h k. same ∙ is.one h k }

  -- nor does another number
  pub start_other : x.positive ≡ false → n ≢ x.value → IsStart groups rest n start
      → IsStart groups (x ∷ rest) n start
  start_other e other is =
      let same : hints_for n false (said_numbers (x ∷ rest)) ≡ left = ap (λ (b : Bool). cond b left
      (hints_for n (n == x.value) (said_numbers rest))) e
      ∙ ap (λ (b : Bool). hints_for n b (said_numbers rest)) (ne_eqb n x.value other) in
      record { none = λ h. same ∙ is.none h; one = λ h k. same ∙ is.one h k }

  -- behind this one they begin, and perhaps later again
  pub start_own : (i : ℕ) → x.positive ≡ false → n ≡ x.value → drop (i + 1) groups ≡ rest
      → IsStart groups rest n start
      → IsStart groups (x ∷ rest) n (cond (start == 0) (i + 1) several)
  start_own i e own at is = by (start == 0) refl
    where
      here : hints_for n false (said_numbers (x ∷ rest)) ≡ hints_at (said_numbers rest) ++ left
      here =
          ap (λ (b : Bool). cond b left (hints_for n (n == x.value) (said_numbers rest))) e
          ∙ ap (λ (b : Bool). hints_for n b (said_numbers rest)) (eq-eqb n x.value own)
          ∙ hints_behind n (said_numbers rest)

      by : (b : Bool) → (start == 0) ≡ b → IsStart groups (x ∷ rest) n (cond b (i + 1) several)
      by true zero = record {
        none = λ h. absurd (omega (arith, h));
        one = λ h k.
            here ∙ ap (λ (l : List ℕ). hints_at (said_numbers rest) ++ l)
            (is.none (eqb-true start 0 zero))
            ∙ append-nil (hints_at (said_numbers rest))
            ∙ ap (λ (l : List Number). hints_at (said_numbers l)) (sym at);
      }
      by false some = record {
        none = λ h. absurd (omega (arith, h));
        one = λ h k. absurd (omega (arith, k));
      }

-- ---- clauses by their places

-- the number that a place's clause has names that place
pub named_at : (t : Table) (i n : ℕ) → name_in t i ≡ Some n → entry_at t.places n ≡ i + 1
named_at t i n name = by (entry_at t.places m == i + 1) refl name
  where
    m : ℕ
    m = slice_index_or t.numbers i 0

    by : (b : Bool) → (entry_at t.places m == i + 1) ≡ b → cond b (Some m) None ≡ Some n
        → entry_at t.places n ≡ i + 1
    by true e is =
        ap (entry_at t.places) (sym (same_Some _ _ is)) ∙ eqb-true (entry_at t.places m) (i + 1) e
    by false e is = absurd cc

placed_at : (count i entry : ℕ) → entry ≡ i + 1 → i < count → place_by count entry ≡ Some i
placed_at count i entry e inside =
    ap (λ (b : Bool). cond b None (cond (nat_lt (entry - 1) count) (Some (entry - 1)) None))
    (ne_eqb entry 0 (λ h. absurd (omega (arith, h, e))))
    ∙ ap (λ (k : ℕ). cond (nat_lt k count) (Some k) None) less
    ∙ ap (λ (b : Bool). cond b (Some i) None) (lt-ltb i count inside)
  where
    less : entry - 1 ≡ i
    less = omega (arith, e)

place_of : (count entry i : ℕ) → place_by count entry ≡ Some i → entry ≡ i + 1
place_of count entry i is = by (entry == 0) refl is
  where
    inside : (b : Bool) → entry ≢ 0 → cond b (Some (entry - 1)) None ≡ Some i → entry ≡ i + 1
    inside true some f =
        let e : entry - 1 ≡ i = same_Some _ _ f in omega (arith, e, some)
    inside false some f = absurd cc

    by : (b : Bool) → (entry == 0) ≡ b
        → cond b None (cond (nat_lt (entry - 1) count) (Some (entry - 1)) None) ≡ Some i
        → entry ≡ i + 1
    by true zero f = absurd cc
    by false some f = inside (nat_lt (entry - 1) count) (eqb-false entry 0 some) f

pub length-with_start : (o : Option ℕ) (start : ℕ) (starts : List ℕ)
    → length (with_start o start starts) ≡ length starts
length-with_start None start starts = refl
length-with_start (Some i) start starts = length-set starts i _

module _ (t : Table) (live : Live) (is : Holds t live) (groups rest : List Number) (x : Number)
    (starts : List ℕ) where
  -- a hint for a clause
  pub starts_hint : x.positive ≡ true → AreStarts t groups rest starts
      → AreStarts t groups (x ∷ rest) starts
  starts_hint e before i n inside name =
      start_hint groups rest x n (start_in starts i) e (before i n inside name)

  -- the number of a clause
  pub starts_number : (i : ℕ) → x.positive ≡ false → drop (i + 1) groups ≡ rest
      → length starts ≡ length t.clauses → AreStarts t groups rest starts
      → AreStarts t groups (x ∷ rest) (with_start (place_in t x.value) (i + 1) starts)
  starts_number i e at count before j n inside name =
      by (place_in t x.value) refl
    where
      entry : entry_at t.places n ≡ j + 1
      entry = named_at t j n name

      by : (o : Option ℕ) → place_in t x.value ≡ o
          → IsStart groups (x ∷ rest) n (start_in (with_start o (i + 1) starts) j)
      by None none =
          start_other groups rest x n (start_in starts j) e
          (λ own. let there : place_in t n ≡ Some j = placed_at (length t.clauses) j
          (entry_at t.places n) entry inside in
          let gone : place_in t n ≡ None = ap (place_in t) own ∙ none in absurd cc)
          (before j n inside name)
      by (Some k) there = at_place (n == x.value) refl
        where
          now : ℕ
          now = cond (start_in starts k == 0) (i + 1) several

          other : entry_at t.places x.value ≡ k + 1
          other = place_of (length t.clauses) (entry_at t.places x.value) k there

          at_place : (b : Bool) → (n == x.value) ≡ b
              → IsStart groups (x ∷ rest) n (start_in (slice_set starts k now) j)
          at_place true same =
              let own : n ≡ x.value = eqb-true n x.value same in
              let here : k ≡ j = omega (arith, sym other ∙ ap (entry_at t.places) (sym own) ∙ entry)
              in
              let within : k < length starts = omega (arith, here, inside, count) in
              let reads : start_in (slice_set starts k now) j ≡ now = ap (start_in (slice_set starts
              k now)) (sym here) ∙ get_or-set_same starts k now 0 within in
              subst (IsStart groups (x ∷ rest) n) (sym reads)
              (subst (λ (m : ℕ). IsStart groups (x ∷ rest) n (cond (start_in starts m == 0) (i + 1)
              several)) (sym here)
              (start_own groups rest x n (start_in starts j) i e own at (before j n inside name)))
          at_place false differ =
              let not_own : n ≢ x.value = eqb-false n x.value differ in
              let apart : j ≢ k = λ h. not_own (sym (is.table.numbering.named n j entry inside)
              ∙ is.table.numbering.named x.value j (other ∙ ap (λ (m : ℕ). m + 1) (sym h)) inside)
              in
              let reads : start_in (slice_set starts k now) j ≡ start_in starts j =
              get_or-set_other starts k j now 0 apart in
              subst (IsStart groups (x ∷ rest) n) (sym reads)
              (start_other groups rest x n (start_in starts j) e not_own (before j n inside name))
