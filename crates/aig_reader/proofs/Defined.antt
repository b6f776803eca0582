-- The variables that are defined so far.
use Rattle.aig_base.proofs.Words.{◌≡◌, ◌≢◌, ℕ, ◌+◌, ◌*◌, ◌/◌, ◌%◌, ◌^◌, ◌<◌, ◌≤◌, Bool, true, false, ◌||◌, List, [], ◌∷◌, ◌++◌, length, Result, Ok, Err, refl, subst, sym, ap, ◌∙◌, arith, AllByRecursion, list_any, or-false, nat_tests, list_any-append}
use Rattle.std.specs.Prelude.{◌==◌, nat_eq, not}
use Rattle.std.proofs.lemmas.Bool.{and_from, and_parts, and_right, eqb-false, leb-false, ne_eqb}
use Rattle.aig_format.proofs.Words.{File, defined}
use Rattle.aig_format.specs.Fits.{IsDefinable, is_definable}
use Rattle.aig_format.proofs.Entries.{rec_append, rec_both, rec_parts, rec_weaker}
use Rattle.aig_format.proofs.Numbers.{half_differs}
use Rattle.aig_format.specs.declared.FileKind.{FileKind}
use Rattle.aig_format.specs.declared.FileKind.TheVariants.{Text}
use Rattle.aig_format.specs.ParseTested.{defines, may_define}
use Rattle.aig_format.proofs.EntryFacts.{Decides-new}
use Rattle.aig_format.proofs.Rules.{definable_from, definable_told, even_literal}
use Rattle.aig_lexer.specs.Faults.{Tested, line_cause}
use Rattle.aig_ordering.specs.Bits.{bit_is_set}
use Rattle.aig_ordering.specs.Tables.{AreMarksOf}
use Rattle.aig_lexer.specs.declared.error.LineError.{LineError}
use Rattle.aig_reader.specs.declared.variables.Marks.{Marks}
use Rattle.aig_reader.specs.Variables.{AreCounted, AreDefined, AreMarks, HasNext, IsNewAmong, IsNext, is_marked}
use Rattle.aig_reader.specs.declared.variables.DefinedVariables.{DefinedVariables}
use Rattle.aig_reader.specs.declared.variables.DefinedVariables.TheVariants as kinds
use Rattle.aig_reader.proofs.Entries.{length_push}

-- ---- in text files

-- a literal that may be defined after others has another variable
new_among : (greatest : ℕ) (before : List ℕ) (e : ℕ) → AllByRecursion (IsDefinable greatest) before
    → defines greatest before e ≡ true → IsNewAmong before e
new_among greatest before e definable h =
    let d = and_parts (is_definable greatest e) (not (list_any (λ d. d == e) before)) h in
    rec_weaker (λ y. IsDefinable greatest y × ((y == e) ≡ false)) (λ y. y / 2 ≢ e / 2)
    (λ y p. eqb-false (y / 2) (e / 2) (half_differs y e (even_literal greatest y p.0) (even_literal greatest e d.0) p.1)) before
    (rec_both (IsDefinable greatest) (λ y. (y == e) ≡ false) before definable ((Decides-new nat_eq e before).0 d.1))

-- an even literal of a variable from 1 to the greatest
module _ (greatest : ℕ) (before : List ℕ) (e : ℕ) (marks : Marks) (h : AreMarks greatest marks before) (even : e % 2 ≡ 0) (low : 1 ≤ e / 2) (high : e / 2 ≤ marks.greatest) where
  abbrev is_there : Bool
  is_there = list_any (λ d. d == e) before

  its_mark : bit_is_set marks.marked.items (e / 2) ≡ is_there
  its_mark =
      let top = h.top in
      let twice : 2 * (e / 2) ≡ e = omega arith in
      h.marked (e / 2) (omega arith) ∙ ap (λ (n : ℕ). list_any (λ d. d == n) before) twice

  -- none that is marked is defined again
  pub marked_again : bit_is_set marks.marked.items (e / 2) ≡ true
      → defines greatest before e ≡ false
  marked_again set = and_right (is_definable greatest e) (not is_there) (ap not (sym its_mark ∙ set))

  -- one that isn't is, and has its mark then
  pub marked_more : (new : Marks) → new.greatest ≡ marks.greatest
      → bit_is_set marks.marked.items (e / 2) ≡ false
      → ((v : ℕ) → bit_is_set new.marked.items v ≡ (bit_is_set marks.marked.items v || v == e / 2))
      → (defines greatest before e ≡ true) × ((e / 2 ≡ e / 2) × AreMarks greatest new (before ++ e ∷ []))
  marked_more new same clear sets =
      let top = h.top in
      let may : is_definable greatest e ≡ true = definable_from greatest e even (omega arith) (omega arith) in (
        and_from (is_definable greatest e) (not is_there) may (ap not (sym its_mark ∙ clear)),
        (
          refl,
          record {
            top = same ∙ top;
            definable = (rec_append (IsDefinable greatest) before (e ∷ [])).1 (h.definable, (may, tt));
            marked = λ v within.
                let here : (v == e / 2) ≡ (e == 2 * v) = grind (arith, nat_tests, even) in
                sets v ∙ ap (λ b. b || v == e / 2) (h.marked v within) ∙ ap (λ b. list_any (λ d. d == 2 * v) before || b) (here ∙ sym (or-false (e == 2 * v))) ∙ sym (list_any-append (λ d. d == 2 * v) before (e ∷ []));
          },
        ),
      )

-- what marking a literal tells, of all that is defined
pub defines_marked : (marks new : Marks) (e : ℕ) (result : Result ℕ LineError)
    → ((greatest : ℕ) (before : List ℕ) → AreMarks greatest marks before → Tested line_cause (defines greatest before e) (λ id. (id ≡ e / 2) × AreMarks greatest new (before ++ e ∷ [])) result)
    → (kind : FileKind) (greatest : ℕ) (before : List ℕ)
    → AreDefined kind greatest (kinds.Text marks) before
    → Tested line_cause (may_define kind greatest before e) (λ id. (id ≡ e / 2) × AreDefined kind greatest (kinds.Text new) (before ++ e ∷ [])) result
defines_marked marks new e result exact kind greatest before h = rw h.0 (go result (exact greatest before h.1))
  where
    go : (result : Result ℕ LineError)
        → Tested line_cause (defines greatest before e) (λ id. (id ≡ e / 2) × AreMarks greatest new (before ++ e ∷ [])) result
        → Tested line_cause (may_define Text greatest before e) (λ id. (id ≡ e / 2) × AreDefined Text greatest (kinds.Text new) (before ++ e ∷ [])) result
    go (Ok id) t = (t.0, (t.1.0, (refl, t.1.1)))
    go (Err fault) t = t

-- ---- in binary files

pub counted_more : (count e : ℕ) (before : List ℕ) → AreCounted count before → e ≡ 2 * (count + 1)
    → AreCounted (count + 1) (before ++ e ∷ [])
counted_more count e before h is =
    record {
      all = length_push before e ∙ ap (λ n. n + 1) h.all;
      below = (rec_append (IsDefinable (count + 1)) before (e ∷ [])).1 (
        rec_weaker (IsDefinable count) (IsDefinable (count + 1)) (λ d p. let t = definable_told count d p in definable_from (count + 1) d t.0 t.1 (omega (arith, t.2))) before h.below,
        (definable_from (count + 1) e (omega (arith, is)) (omega (arith, is)) (omega (arith, is)), tt),
      );
    }

counted_new : (count e : ℕ) (before : List ℕ) → AreCounted count before → e ≡ 2 * (count + 1)
    → IsNewAmong before e
counted_new count e before h is = rec_weaker (IsDefinable count) (λ d. d / 2 ≢ e / 2) (λ d p same. let high = (definable_told count d p).2 in omega (arith, high, same, is)) before h.below

-- ---- in both

-- a literal that is defined after others is that of another variable
pub new_literal : (kind : FileKind) (greatest : ℕ) (variables : DefinedVariables) (before : List ℕ)
    (e : ℕ) → AreDefined kind greatest variables before → IsNext variables e
    → may_define kind greatest before e ≡ true → IsNewAmong before e
new_literal kind greatest (kinds.Text marks) before e h next may = new_among greatest before e h.1.definable (subst (λ (k : FileKind). may_define k greatest before e ≡ true) h.0 may)
new_literal kind greatest (kinds.Binary count) before e h next may = counted_new count e before h.1 next

-- where there was room for it, its variable is one from 1 to the greatest
pub last_literal : (kind : FileKind) (greatest : ℕ) (variables : DefinedVariables) (before : List ℕ)
    (e : ℕ) → AreDefined kind greatest variables (before ++ e ∷ []) → length before < greatest
    → (2 ≤ e) × (e / 2 ≤ greatest)
last_literal kind greatest (kinds.Text marks) before e h room =
    let t = definable_told greatest e (rec_parts (IsDefinable greatest) before (e ∷ []) h.1.definable).1.0 in
    (t.1, omega (arith, t.2))
last_literal kind greatest (kinds.Binary count) before e h room =
    let t = definable_told count e (rec_parts (IsDefinable count) before (e ∷ []) h.1.below).1.0 in
    let all = h.1.all in
    (t.1, omega (arith, t.2, all, length_push before e, room))

-- and the next one is a number of 32 bits
pub has_next : (kind : FileKind) (greatest : ℕ) (variables : DefinedVariables) (before : List ℕ)
    → AreDefined kind greatest variables before → length before < greatest → greatest < 2 ^ 31
    → HasNext variables
has_next kind greatest (kinds.Text marks) before h room few = tt
has_next kind greatest (kinds.Binary count) before h room few = let all = h.1.all in omega (arith, all, room, few)

-- ---- all marks

-- of even literals one is that of a variable where half of it is
marked_is : (greatest v : ℕ) (es : List ℕ) → AllByRecursion (IsDefinable greatest) es
    → list_any (λ e. e == 2 * v) es ≡ list_any (λ e. e / 2 == v) es
marked_is greatest v [] all = refl
marked_is greatest v (e ∷ es) all =
    let even = even_literal greatest e all.0 in
    let same : (e == 2 * v) ≡ (e / 2 == v) = grind (arith, nat_tests, even) in
    ap (λ b. b || list_any (λ e. e == 2 * v) es) same ∙ ap (λ b. (e / 2 == v) || b) (marked_is greatest v es all.1)

-- the marks tell which variables are defined
pub marks_of : (f : File) (marks : Marks) → AreMarks f.greatest marks (defined f)
    → AreMarksOf f marks.marked.items
marks_of f marks h = λ v low. h.marked v low ∙ marked_is f.greatest v (defined f) h.definable

-- a variable without a mark, below that of the last literal, is that of none of them
pub unmarked_none : (kind : FileKind) (greatest : ℕ) (variables : DefinedVariables) (v : ℕ)
    (before : List ℕ) (e : ℕ) → AreDefined kind greatest variables (before ++ e ∷ []) → v < e / 2
    → is_marked variables v ≡ false → list_any (λ e. e / 2 == v) (before ++ e ∷ []) ≡ false
unmarked_none kind greatest (kinds.Text marks) v before e h low none =
    let last = (definable_told greatest e (rec_parts (IsDefinable greatest) before (e ∷ []) h.1.definable).1.0).2 in
    sym (marked_is greatest v (before ++ e ∷ []) h.1.definable) ∙ sym (h.1.marked v (omega (arith, low, last))) ∙ none
unmarked_none kind greatest (kinds.Binary count) v before e h low none = none_beyond (before ++ e ∷ []) h.1.below
  where
    above : count < v
    above = let le = leb-false v count none in omega arith

    none_beyond : (es : List ℕ) → AllByRecursion (IsDefinable count) es
        → list_any (λ e. e / 2 == v) es ≡ false
    none_beyond [] all = refl
    none_beyond (e ∷ es) all = let high = (definable_told count e all.0).2 in rw (ne_eqb (e / 2) v (λ is. omega (arith, is, high, above)), none_beyond es all.1) refl
