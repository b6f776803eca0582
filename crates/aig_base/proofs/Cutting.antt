use Rattle.std.proofs.Common.{◌≡◌, ℕ, zero, suc, ◌+◌, ◌-◌, ◌<◌, ◌≤◌, Some, List, [], ◌∷◌, ◌++◌, length, map, get_or, take, drop, slice_get, slice_range, refl, sym, ap, subst, ◌∙◌, arith, length-append, length-drop}
use Rattle.std.proofs.Math.ListN.{set, length-set}
use Rattle.std.proofs.lemmas.List.{take-append-le, drop-append-le, drop_at, drop-drop, drop-take, take_all, take-take, take_more, take_more_set, get_or-take, length-take-le}
use Rattle.aig_base.proofs.Words.{slice_get_within, get_or_from_slice_get}
use Rattle.aig_base.specs.Cut.{cut_at, start_of, AreEnds, IsCut}

pub length-cut_at : {X : Type 0} (from : ℕ) (ends : List ℕ) (items : List X) → length (cut_at from ends items) ≡ length ends
length-cut_at from [] items = refl
length-cut_at from (end ∷ ends) items = ap suc (length-cut_at end ends items)

pub AreEnds-le : (from : ℕ) (ends : List ℕ) (last : ℕ) → AreEnds from ends last → from ≤ last
AreEnds-le from [] last is = omega arith
AreEnds-le from (end ∷ ends) last is = let le : end ≤ last = AreEnds-le end ends last is.1 in omega arith

pub end_within : (from : ℕ) (ends : List ℕ) (last i d : ℕ) → AreEnds from ends last → i < length ends → get_or ends i d ≤ last
end_within from [] last i d is h = absurd (omega arith)
end_within from (end ∷ ends) last zero d is h = AreEnds-le end ends last is.1
end_within from (end ∷ ends) last (suc i) d is h = end_within end ends last i d is.1 (omega arith)

pub start_before : (from : ℕ) (ends : List ℕ) (last i : ℕ) → AreEnds from ends last → i < length ends → start_of from ends i ≤ get_or ends i 0
start_before from [] last i is h = absurd (omega arith)
start_before from (end ∷ ends) last zero is h = is.0
start_before from (end ∷ ends) last (suc zero) is h = start_before end ends last zero is.1 (omega arith)
start_before from (end ∷ ends) last (suc (suc i)) is h = start_before end ends last (suc i) is.1 (omega arith)

pub get-cut_at : {X : Type 0} (from : ℕ) (ends : List ℕ) (items : List X) (i : ℕ) → i < length ends → slice_get (cut_at from ends items) i ≡ Some (slice_range items (start_of from ends i) (get_or ends i 0))
get-cut_at from [] items i h = absurd (omega arith)
get-cut_at from (end ∷ ends) items zero h = refl
get-cut_at from (end ∷ ends) items (suc zero) h = get-cut_at end ends items zero (omega arith)
get-cut_at from (end ∷ ends) items (suc (suc i)) h = get-cut_at end ends items (suc i) (omega arith)

slice_range-append : {X : Type 0} (xs ys : List X) (from end : ℕ) → end ≤ length xs → from ≤ end → slice_range (xs ++ ys) from end ≡ slice_range xs from end
slice_range-append xs ys from end h k =
    ap (take (end - from)) (drop-append-le from xs ys (omega arith)) ∙ take-append-le (end - from) (drop from xs) ys (omega (arith, length-drop from xs))

pub AreEnds-append : (from : ℕ) (es fs : List ℕ) (middle last : ℕ) → AreEnds from es middle → AreEnds middle fs last → AreEnds from (es ++ fs) last
AreEnds-append from [] fs middle last is next = rw is next
AreEnds-append from (e ∷ es) fs middle last is next = (is.0, AreEnds-append e es fs middle last is.1 next)

pub cut_at-append : {X : Type 0} (from : ℕ) (es fs : List ℕ) (xs ys : List X) → AreEnds from es (length xs) → cut_at from (es ++ fs) (xs ++ ys) ≡ cut_at from es xs ++ cut_at (length xs) fs (xs ++ ys)
cut_at-append from [] fs xs ys is = ap (λ n. cut_at n fs (xs ++ ys)) is
cut_at-append from (e ∷ es) fs xs ys is =
    let le : e ≤ length xs = AreEnds-le e es (length xs) is.1 in
    rw (slice_range-append xs ys from e le is.0) (ap (λ rest. slice_range xs from e ∷ rest) (cut_at-append e es fs xs ys is.1))

all_after : {X : Type 0} (xs ys : List X) (n : ℕ) → n ≡ length xs + length ys → slice_range (xs ++ ys) (length xs) n ≡ ys
all_after xs ys n e = rw (drop_at xs ys (length xs) refl) (take_all (n - length xs) ys (omega arith))

-- one more list at the end
pub cut_at-push : {X : Type 0} (es : List ℕ) (xs ys : List X) (n : ℕ) → n ≡ length (xs ++ ys) → AreEnds 0 es (length xs) → cut_at 0 (es ++ n ∷ []) (xs ++ ys) ≡ cut_at 0 es xs ++ ys ∷ []
cut_at-push es xs ys n e is =
    cut_at-append 0 es (n ∷ []) xs ys is
    ∙ ap (λ last. cut_at 0 es xs ++ last ∷ []) (all_after xs ys n (e ∙ length-append xs ys))

pub AreEnds-push : (es : List ℕ) (middle last : ℕ) → AreEnds 0 es middle → middle ≤ last → AreEnds 0 (es ++ last ∷ []) last
AreEnds-push es middle last is le = AreEnds-append 0 es (last ∷ []) middle last is (le, refl)

pub AreEnds-shifted : (by from : ℕ) (ends : List ℕ) (last : ℕ) → AreEnds from ends last → AreEnds (by + from) (map (λ end. by + end) ends) (by + last)
AreEnds-shifted by from [] last is = ap (λ n. by + n) is
AreEnds-shifted by from (end ∷ ends) last is = (omega arith, AreEnds-shifted by end ends last is.1)

slice_range-after : {X : Type 0} (xs ys : List X) (from end : ℕ) → slice_range (xs ++ ys) (length xs + from) (length xs + end) ≡ slice_range ys from end
slice_range-after xs ys from end =
    let same : length xs + end - (length xs + from) ≡ end - from = omega arith in
    rw (same, ← drop-drop from (length xs) (xs ++ ys), drop_at xs ys (length xs) refl)

cut_at-after : {X : Type 0} (from : ℕ) (ends : List ℕ) (xs ys : List X) → cut_at (length xs + from) (map (λ end. length xs + end) ends) (xs ++ ys) ≡ cut_at from ends ys
cut_at-after from [] xs ys = refl
cut_at-after from (end ∷ ends) xs ys = rw (slice_range-after xs ys from end) (ap (λ rest. slice_range ys from end ∷ rest) (cut_at-after end ends xs ys))

-- one list of lists after another
pub cut_at-joined : {X : Type 0} (es fs : List ℕ) (xs ys : List X) → AreEnds 0 es (length xs) → cut_at 0 (es ++ map (λ end. length xs + end) fs) (xs ++ ys) ≡ cut_at 0 es xs ++ cut_at 0 fs ys
cut_at-joined es fs xs ys is =
    let start : length xs + 0 ≡ length xs = omega arith in
    cut_at-append 0 es (map (λ end. length xs + end) fs) xs ys is
    ∙ ap (λ n. cut_at 0 es xs ++ cut_at n (map (λ end. length xs + end) fs) (xs ++ ys)) (sym start)
    ∙ ap (λ rest. cut_at 0 es xs ++ rest) (cut_at-after 0 fs xs ys)

pub AreEnds-joined : (es fs : List ℕ) (middle last : ℕ) → AreEnds 0 es middle → AreEnds 0 fs last → AreEnds 0 (es ++ map (λ end. middle + end) fs) (middle + last)
AreEnds-joined es fs middle last is next =
    let start : middle + 0 ≡ middle = omega arith in
    AreEnds-append 0 es (map (λ end. middle + end) fs) middle (middle + last) is (rw start at (AreEnds-shifted middle 0 fs last next))

-- the first ends of more begin where they did
start_of-take : (from n : ℕ) (ends : List ℕ) (i : ℕ) → i < n → start_of from (take n ends) i ≡ start_of from ends i
start_of-take from n ends zero h = refl
start_of-take from n ends (suc i) h = get_or-take n ends i 0 (omega arith)

slice_range-take : {X : Type 0} (items : List X) (n from end : ℕ) → from ≤ end → end ≤ n → slice_range (take n items) from end ≡ slice_range items from end
slice_range-take items n from end h k =
    let sum : n ≡ from + (n - from) = omega arith in
    ap (λ m. take (end - from) (drop from (take m items))) sum ∙ ap (take (end - from)) (drop-take from (n - from) items) ∙ take-take (end - from) (n - from) (drop from items) (omega arith)

-- the lists that some of the ends cut
pub length-cut : {X : Type 0} (ends : List ℕ) (items : List X) (clauses used : ℕ) → IsCut ends items clauses used → length (cut_at 0 (take clauses ends) (take used items)) ≡ clauses
length-cut ends items clauses used is = length-cut_at 0 (take clauses ends) (take used items) ∙ length-take-le clauses ends is.clauses_few

pub cut_bounds : {X : Type 0} (ends : List ℕ) (items : List X) (clauses used i : ℕ) → IsCut ends items clauses used → i < clauses → (start_of 0 ends i ≤ get_or ends i 0) × (get_or ends i 0 ≤ used)
cut_bounds ends items clauses used i is h =
    let there : i < length (take clauses ends) = omega (arith, length-take-le clauses ends is.clauses_few) in
    let first = start_of-take 0 clauses ends i h in
    let last = get_or-take clauses ends i 0 h in
    (omega (arith, first, last, start_before 0 (take clauses ends) used i is.are_ends there), omega (arith, last, end_within 0 (take clauses ends) used i 0 is.are_ends there))

pub get-cut : {X : Type 0} (ends : List ℕ) (items : List X) (clauses used i : ℕ) → IsCut ends items clauses used → i < clauses → slice_get (cut_at 0 (take clauses ends) (take used items)) i ≡ Some (slice_range items (start_of 0 ends i) (get_or ends i 0))
get-cut ends items clauses used i is h =
    let there : i < length (take clauses ends) = omega (arith, length-take-le clauses ends is.clauses_few) in
    let bounds = cut_bounds ends items clauses used i is h in
    get-cut_at 0 (take clauses ends) (take used items) i there
    ∙ ap (λ from. Some (slice_range (take used items) from (get_or (take clauses ends) i 0))) (start_of-take 0 clauses ends i h)
    ∙ ap (λ end. Some (slice_range (take used items) (start_of 0 ends i) end)) (get_or-take clauses ends i 0 h)
    ∙ ap Some (slice_range-take items used (start_of 0 ends i) (get_or ends i 0) bounds.0 bounds.1)

-- one more list after those
pub cut-push : {X : Type 0} (ends : List ℕ) (items more after : List X) (clauses used : ℕ) → IsCut ends items clauses used → clauses < length ends → take (used + length more) after ≡ take used items ++ more → cut_at 0 (take (clauses + 1) (set ends clauses (used + length more))) (take (used + length more) after) ≡ cut_at 0 (take clauses ends) (take used items) ++ more ∷ []
cut-push ends items more after clauses used is h e =
    let first = length-take-le used items is.used_few in
    let es = take clauses ends in
    ap (λ fs. cut_at 0 fs (take (used + length more) after)) (take_more_set ends clauses (used + length more) h)
    ∙ ap (cut_at 0 (es ++ (used + length more) ∷ [])) e
    ∙ cut_at-push es (take used items) more (used + length more) (omega (arith, first, length-append (take used items) more)) (subst (AreEnds 0 es) (sym first) is.are_ends)

pub IsCut-push : {X : Type 0} (ends : List ℕ) (items after : List X) (clauses used n : ℕ) → IsCut ends items clauses used → clauses < length ends → length after ≡ length items → used + n ≤ length items → IsCut (set ends clauses (used + n)) after (clauses + 1) (used + n)
IsCut-push ends items after clauses used n is h same le = record {
  are_ends = rw (take_more_set ends clauses (used + n) h) (AreEnds-push (take clauses ends) used (used + n) is.are_ends (omega arith));
  clauses_few = omega (arith, length-set ends clauses (used + n));
  used_few = omega (arith, same);
}

-- one more list is taken
pub take-one : {X : Type 0} (xs : List X) (i : ℕ) (x : X) → slice_get xs i ≡ Some x → take (i + 1) xs ≡ take i xs ++ x ∷ []
take-one xs i x e = take_more xs i x (slice_get_within xs i x e) ∙ ap (λ last. take i xs ++ last ∷ []) (get_or_from_slice_get xs i x x e)
