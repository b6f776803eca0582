-- The numbers of variables: in a compact file the variables themselves, else by level.
use Rattle.std.proofs.Common.{◌≡◌, ℕ, zero, suc, ◌+◌, ◌*◌, ◌/◌, ◌%◌, ◌<◌, ◌≤◌, Bool, true, false, cond, eqb, ◌||◌, List, [], ◌∷◌, ◌++◌, length, map, refl, sym, ap, subst, ◌∙◌, arith, leb-true}
use Rattle.std.specs.Prelude.{nat_eq, ◌==◌, find, slice_index, Some}
use Rattle.std.specs.List.{AllByRecursion, IsDistinct, list_any, flat_map, list_all}
use Rattle.aig_base.proofs.Words.{cond-true, cond-false, eqb-true, eqb-false, ne_eqb, false≢true, true_from_ne_false, or_parts, or_right, and_from, length-map, length-le_from_distinct_below}
use Rattle.std.proofs.lemmas.Map.Keys.{IsDistinct-cons}
use Rattle.aig_circuit.proofs.Words.{entries_of, position_of}
use Rattle.aig_format.proofs.Words.{LatchLine, GateLine, File, defined, used, is_defined, is_known, IsKnown, gate_of_variable, level_of, has_level, IsDefinable, is_literal, Fits, uses_known, is_well_founded, is_accepted_order}
use Rattle.aig_format.specs.Numbering.{is_compact, numbers_from, variables_by_level, variables_in_order, node_of_variable, is_above_operands}
use Rattle.aig_format.specs.declared.FileKind.TheVariants.{Binary}
use Rattle.aig_format.proofs.Entries.{rec_both, rec_map, rec_parts, rec_weaker}
use Rattle.aig_format.proofs.Searches.{find_some}
use Rattle.aig_format.proofs.Members.{has, has-numbers, index-position_of, position_of-index, position_of-numbers, position_of-one, position_of-within, distinct-numbers, rec_at, rec_numbers}
use Rattle.aig_format.proofs.Rules.{all_pass, definable_told, even_literal, above_told, compact_exact, compact_ordered, well_founded_only, well_founded_parts}
use Rattle.aig_format.proofs.Levels.{level_of-gate, levelled, levels-ordered}
use Rattle.aig_format.proofs.Orders.{defined-by_level, distinct-by_level, has-by_level, position_of-by_level, position_of-in_level, some-by_level}

-- ---- the order

pub node_of_variable-place : (f : File) (v : ℕ) → node_of_variable f v ≡ position_of (0 ∷ variables_in_order f) v
unfolding node_of_variable
node_of_variable-place f v = refl

pub node_of_variable-zero : (f : File) → node_of_variable f 0 ≡ 0
unfolding node_of_variable
node_of_variable-zero f = refl

-- in a compact file
pub order-compact : (f : File) → is_compact f ≡ true → variables_in_order f ≡ numbers_from (length (defined f)) 1
unfolding variables_in_order
order-compact f compact = cond-true (is_compact f) (numbers_from (length (defined f)) 1) (variables_by_level f) compact

-- else
pub order-well_founded : (f : File) → is_compact f ≡ false → variables_in_order f ≡ variables_by_level f
unfolding variables_in_order
order-well_founded f well_founded = cond-false (is_compact f) (numbers_from (length (defined f)) 1) (variables_by_level f) well_founded

-- a variable other than 0 has its place among the others, and one more
past_zero : (xs : List ℕ) (v : ℕ) → 1 ≤ v → position_of (0 ∷ xs) v ≡ position_of xs v + 1
past_zero xs v h = let differs : eqb 0 v ≡ false = ne_eqb 0 v (λ e. omega (arith, e)) in ap (λ b. cond b 0 (position_of xs v + 1)) differs

node_of_variable-some : (f : File) (v : ℕ) → 1 ≤ v → node_of_variable f v ≡ position_of (variables_in_order f) v + 1
node_of_variable-some f v h = node_of_variable-place f v ∙ past_zero (variables_in_order f) v h

-- in a compact file a variable is its own number
pub node_of_variable-compact : (f : File) → is_compact f ≡ true → (v : ℕ) → v ≤ f.greatest → node_of_variable f v ≡ v
node_of_variable-compact f compact zero h = node_of_variable-zero f
node_of_variable-compact f compact (suc v) h =
    let m = compact_exact f compact in
    node_of_variable-some f (suc v) (omega arith) ∙ ap (λ xs. position_of xs (suc v) + 1) (order-compact f compact) ∙ position_of-numbers (length (defined f)) 1 (suc v) (omega arith) (omega arith)

-- each variable in the order is from 1 on
order-some : (f : File) → AllByRecursion (λ v. 1 ≤ v) (variables_in_order f)
order-some f = by_test (is_compact f) refl
  where
    by_test : (b : Bool) → is_compact f ≡ b → AllByRecursion (λ v. 1 ≤ v) (variables_in_order f)
    by_test true is = subst (AllByRecursion (λ v. 1 ≤ v)) (sym (order-compact f is)) (rec_numbers (length (defined f)) 1 1 (omega arith))
    by_test false is = subst (AllByRecursion (λ v. 1 ≤ v)) (sym (order-well_founded f is)) (some-by_level f)

-- and none is there twice
order-distinct : (f : File) → IsDistinct nat_eq (0 ∷ variables_in_order f)
order-distinct f =
    IsDistinct-cons nat_eq 0 (variables_in_order f) (rec_weaker (λ v. 1 ≤ v) (λ v. nat_eq 0 v ≡ false) (λ v h. ne_eqb 0 v (λ e. omega (arith, e))) (variables_in_order f) (order-some f))
    (by_test (is_compact f) refl)
  where
    by_test : (b : Bool) → is_compact f ≡ b → IsDistinct nat_eq (variables_in_order f)
    by_test true is = subst (IsDistinct nat_eq) (sym (order-compact f is)) (distinct-numbers (length (defined f)) 1)
    by_test false is = subst (IsDistinct nat_eq) (sym (order-well_founded f is)) (distinct-by_level f)

-- ---- variables that are defined

pub any_within : (greatest v : ℕ) (es : List ℕ) → AllByRecursion (IsDefinable greatest) es → list_any (λ e. e / 2 == v) es ≡ true → (1 ≤ v) × (v ≤ greatest)
any_within greatest v [] all there = absurd (false≢true there)
any_within greatest v (e ∷ es) all there = by_test (e / 2 == v) refl there (any_within greatest v es all.1)
  where
    by_test : (b : Bool) → (e / 2 == v) ≡ b → (b || list_any (λ e. e / 2 == v) es) ≡ true → (list_any (λ e. e / 2 == v) es ≡ true → (1 ≤ v) × (v ≤ greatest)) → (1 ≤ v) × (v ≤ greatest)
    by_test true same there rest =
        let is = eqb-true (e / 2) v same in let told = definable_told greatest e all.0 in let low = told.1 in let high = told.2 in
        (omega (arith), omega (arith))
    by_test false differs there rest = rest there

-- a defined variable is within the file's, and 0 is none
pub defined_within : (f : File) (limit : ℕ) → Fits f limit → (v : ℕ) → is_defined f v ≡ true → (1 ≤ v) × (v ≤ f.greatest)
defined_within f limit fits v there = any_within f.greatest v (defined f) fits.definable there

-- ---- as many distinct variables as there are from 1 on are all of them

abbrev halves : List ℕ → List ℕ
halves = map (λ (e : ℕ). e / 2)

any_has : (P : ℕ → Type 0) (q : ℕ) (xs : List ℕ) → AllByRecursion P xs → list_any (λ (x : ℕ). q == x) xs ≡ true → P q
any_has P q [] all h = absurd (false≢true h)
any_has P q (x ∷ xs) all h = by_test (q == x) refl h (any_has P q xs all.1)
  where
    by_test : (b : Bool) → (q == x) ≡ b → (b || list_any (λ (y : ℕ). q == y) xs) ≡ true → (list_any (λ (y : ℕ). q == y) xs ≡ true → P q) → P q
    by_test true same h rest = subst P (sym (eqb-true q x same)) all.0
    by_test false differs h rest = rest h

pub half_differs : (x y : ℕ) → x % 2 ≡ 0 → y % 2 ≡ 0 → nat_eq x y ≡ false → (x / 2 == y / 2) ≡ false
half_differs x y hx hy h = let differ = eqb-false x y h in ne_eqb (x / 2) (y / 2) (λ e. differ (omega arith))

halves_distinct : (xs : List ℕ) → AllByRecursion (λ (e : ℕ). e % 2 ≡ 0) xs → IsDistinct nat_eq xs → IsDistinct nat_eq (halves xs)
unfolding IsDistinct
halves_distinct [] even d = tt
halves_distinct (x ∷ xs) even d = (
  (rec_map (λ (y : ℕ). nat_eq (x / 2) y ≡ false) (λ (e : ℕ). e / 2) xs).1
      (rec_weaker (λ (e : ℕ). (e % 2 ≡ 0) × (nat_eq x e ≡ false)) (λ (e : ℕ). nat_eq (x / 2) (e / 2) ≡ false) (λ e p. half_differs x e even.0 p.0 p.1) xs
      (rec_both (λ (e : ℕ). e % 2 ≡ 0) (λ (e : ℕ). nat_eq x e ≡ false) xs even.1 d.0)),
  halves_distinct xs even.1 d.1,
)

-- what no entry's half is differs from all halves
any_misses : (v : ℕ) (es : List ℕ) → list_any (λ e. e / 2 == v) es ≡ false → AllByRecursion (λ (x : ℕ). nat_eq v x ≡ false) (halves es)
any_misses v [] h = tt
any_misses v (e ∷ es) h =
    let p = or_parts (e / 2 == v) (list_any (λ e. e / 2 == v) es) h in
    (ne_eqb v (e / 2) (λ is. eqb-false (e / 2) v p.0 (sym is)), any_misses v es p.1)

-- literals of as many variables as there are up to the greatest are those of all of them
pub all_there : (greatest : ℕ) (es : List ℕ) → AllByRecursion (IsDefinable greatest) es → IsDistinct nat_eq es → greatest ≡ length es → (v : ℕ) → 1 ≤ v → v ≤ greatest → list_any (λ e. e / 2 == v) es ≡ true
all_there greatest es definable distinct m v low high = true_from_ne_false (list_any (λ e. e / 2 == v) es) (λ no.
    let Even = λ (e : ℕ). e % 2 ≡ 0 in
    let Within = λ (x : ℕ). x < length es + 1 in
    let even = rec_weaker (IsDefinable greatest) Even (even_literal greatest) es definable in
    let within : AllByRecursion Within (halves es) =
    (rec_map Within (λ (e : ℕ). e / 2) es).1 (rec_weaker (IsDefinable greatest) (λ (e : ℕ). e / 2 < length es + 1) (λ e d. let h = (definable_told greatest e d).2 in omega arith) es definable) in
    let some : AllByRecursion (λ (x : ℕ). nat_eq 0 x ≡ false) (halves es) =
    (rec_map (λ (x : ℕ). nat_eq 0 x ≡ false) (λ (e : ℕ). e / 2) es).1 (rec_weaker (IsDefinable greatest) (λ (e : ℕ). nat_eq 0 (e / 2) ≡ false) (λ e d. let h = (definable_told greatest e d).1 in ne_eqb 0 (e / 2) (λ is. absurd (omega arith))) es definable) in
    let d1 = IsDistinct-cons nat_eq v (halves es) (any_misses v es no) (halves_distinct es even distinct) in
    let d0 = IsDistinct-cons nat_eq 0 (v ∷ halves es) (ne_eqb 0 v (λ is. absurd (omega arith)), some) d1 in
    let zero_within : 0 < length es + 1 = omega arith in
    let v_within : v < length es + 1 = omega arith in
    let long = length-le_from_distinct_below (0 ∷ v ∷ halves es) (length es + 1) d0 (λ q is. any_has Within q (0 ∷ v ∷ halves es) (zero_within, (v_within, within)) is) in
    let same = length-map es (λ (e : ℕ). e / 2) in
    absurd (omega arith))

-- in a file without gaps each variable is defined
pub all_defined : (f : File) (limit : ℕ) → Fits f limit → f.greatest ≡ length (defined f) → (v : ℕ) → 1 ≤ v → v ≤ f.greatest → is_defined f v ≡ true
all_defined f limit fits m v low high = all_there f.greatest (defined f) fits.definable fits.distinct m v low high

-- in a file without gaps each variable up to the greatest is 0 or defined
all_known : (f : File) (limit : ℕ) → Fits f limit → f.greatest ≡ length (defined f) → (v : ℕ) → v ≤ f.greatest → is_known f v ≡ true
all_known f limit fits exact zero h = refl
all_known f limit fits exact (suc v) h =
    let same : eqb (suc v) 0 ≡ false = ne_eqb (suc v) 0 (λ e. omega (arith, e)) in
    ap (λ b. b || is_defined f (suc v)) same ∙ all_defined f limit fits exact (suc v) (omega arith) h

-- what is used is 0 or defined
pub used_known : (f : File) (limit : ℕ) → Fits f limit → AllByRecursion (IsKnown f) (used f)
used_known f limit fits = by_test (is_compact f) refl
  where
    by_test : (b : Bool) → is_compact f ≡ b → AllByRecursion (IsKnown f) (used f)
    by_test true is =
        rec_weaker (λ e. is_literal f.greatest e ≡ true) (IsKnown f)
        (λ e h. let high = leb-true e (2 * f.greatest + 1) h in all_known f limit fits (compact_exact f is) (e / 2) (omega arith)) (used f) fits.in_range
    by_test false is = (well_founded_parts f (well_founded_only f is fits.order)).0

-- ---- the numbers of a file that fits

-- each defined variable has its place
pub defined_numbered : (f : File) (limit : ℕ) → Fits f limit → (v : ℕ) → is_defined f v ≡ true → has (variables_in_order f) v ≡ true
defined_numbered f limit fits v there = by_test (is_compact f) refl
  where
    bounds : (1 ≤ v) × (v ≤ f.greatest)
    bounds = defined_within f limit fits v there

    by_test : (b : Bool) → is_compact f ≡ b → has (variables_in_order f) v ≡ true
    by_test true is =
        let m = compact_exact f is in
        ap (λ xs. has xs v) (order-compact f is) ∙ has-numbers (length (defined f)) 1 v bounds.0 (omega (arith, bounds.1))
    by_test false is =
        let level = levelled f (well_founded_parts f (well_founded_only f is fits.order)).1 v in
        ap (λ xs. has xs v) (order-well_founded f is) ∙ has-by_level f v level.0 there bounds.0 bounds.1 level.1

rows_within : (n w : ℕ) → AllByRecursion (λ v. (w ≤ v) × (v < w + n)) (numbers_from n w)
rows_within zero w = tt
rows_within (suc n) w = (
  (omega arith, omega arith),
  rec_weaker (λ v. (w + 1 ≤ v) × (v < w + 1 + n)) (λ v. (w ≤ v) × (v < w + suc n)) (λ v h. let low = h.0 in let high = h.1 in (omega arith, omega arith)) (numbers_from n (w + 1)) (rows_within n (w + 1)),
)

-- what has a place is defined
order_defined : (f : File) (limit : ℕ) → Fits f limit → AllByRecursion (λ v. is_defined f v ≡ true) (variables_in_order f)
order_defined f limit fits = by_test (is_compact f) refl
  where
    by_test : (b : Bool) → is_compact f ≡ b → AllByRecursion (λ v. is_defined f v ≡ true) (variables_in_order f)
    by_test true is =
        let m = compact_exact f is in
        let count = length (defined f) in
        subst (AllByRecursion (λ v. is_defined f v ≡ true)) (sym (order-compact f is))
        (rec_weaker (λ v. (1 ≤ v) × (v < 1 + count)) (λ v. is_defined f v ≡ true) (λ v h. all_defined f limit fits m v h.0 (let high = h.1 in omega arith)) (numbers_from count 1) (rows_within count 1))
    by_test false is = subst (AllByRecursion (λ v. is_defined f v ≡ true)) (sym (order-well_founded f is)) (defined-by_level f)

-- the list of 0 and the defined variables has what is 0 or defined
pub known_numbered : (f : File) (limit : ℕ) → Fits f limit → (v : ℕ) → is_known f v ≡ true → has (0 ∷ variables_in_order f) v ≡ true
known_numbered f limit fits zero known = refl
known_numbered f limit fits (suc v) known =
    let other : eqb 0 (suc v) ≡ false = ne_eqb 0 (suc v) (λ e. omega (arith, e)) in
    let same : eqb (suc v) 0 ≡ false = ne_eqb (suc v) 0 (λ e. omega (arith, e)) in
    ap (λ b. b || has (variables_in_order f) (suc v)) other ∙ defined_numbered f limit fits (suc v) (ap (λ b. b || is_defined f (suc v)) (sym same) ∙ known)

-- the number of what is 0 or defined is within the count of nodes
pub node_of_variable-within : (f : File) (limit : ℕ) → Fits f limit → (v : ℕ) → is_known f v ≡ true → node_of_variable f v < length (variables_in_order f) + 1
node_of_variable-within f limit fits v known = omega (arith, node_of_variable-place f v, position_of-within (0 ∷ variables_in_order f) v (known_numbered f limit fits v known))

-- what is 0 or defined has a number of its own
pub node_of_variable-one : (f : File) (limit : ℕ) → Fits f limit → (u v : ℕ) → is_known f u ≡ true → node_of_variable f u ≡ node_of_variable f v → u ≡ v
node_of_variable-one f limit fits u v known same =
    position_of-one (0 ∷ variables_in_order f) u v (known_numbered f limit fits u known) (sym (node_of_variable-place f u) ∙ same ∙ node_of_variable-place f v)

-- the variable of a number
pub record NumberOf (f : File) (n : ℕ) : Type 0 where
  pub variable : ℕ
  pub known : is_known f variable ≡ true
  pub is : node_of_variable f variable ≡ n

-- every number within the count of nodes is that of 0 or of one defined variable
pub variable_of : (f : File) (limit : ℕ) → Fits f limit → (n : ℕ) → n < length (variables_in_order f) + 1 → NumberOf f n
variable_of f limit fits zero h = record { variable = 0; known = refl; is = node_of_variable-zero f }
variable_of f limit fits (suc n) h =
    let v = slice_index (variables_in_order f) n in
    record {
      variable = v;
      known = or_right (v == 0) (is_defined f v) (rec_at (λ v. is_defined f v ≡ true) (variables_in_order f) n (omega arith) (order_defined f limit fits));
      is = node_of_variable-place f v ∙ position_of-index (0 ∷ variables_in_order f) (suc n) (order-distinct f) (omega arith);
    }

-- no more variables are numbered than the greatest
pub few_numbered : (f : File) (limit : ℕ) → Fits f limit → length (variables_in_order f) ≤ f.greatest
few_numbered f limit fits =
    let order = variables_in_order f in
    let within : AllByRecursion (λ v. v < f.greatest + 1) order =
    rec_weaker (λ v. is_defined f v ≡ true) (λ v. v < f.greatest + 1) (λ v there. let h = (defined_within f limit fits v there).1 in omega arith) order (order_defined f limit fits) in
    let zero_within : 0 < f.greatest + 1 = omega arith in
    let long = length-le_from_distinct_below (0 ∷ order) (f.greatest + 1) (order-distinct f) (λ q is. any_has (λ v. v < f.greatest + 1) q (0 ∷ order) (zero_within, within) is) in
    omega arith

-- the variable of a number
pub variable_at : File → ℕ → ℕ
variable_at f n = slice_index (0 ∷ variables_in_order f) n

pub variable_at-number : (f : File) (limit : ℕ) → Fits f limit → (v : ℕ) → is_known f v ≡ true → variable_at f (node_of_variable f v) ≡ v
unfolding variable_at
variable_at-number f limit fits v known =
    ap (slice_index (0 ∷ variables_in_order f)) (node_of_variable-place f v) ∙ index-position_of (0 ∷ variables_in_order f) v (known_numbered f limit fits v known)

-- ---- gates

-- a gate's variable is defined
gates_defined : (v : ℕ) (gs : List GateLine) (g : GateLine) → find (λ h. h.lhs / 2 == v) gs ≡ Some g → list_any (λ e. e / 2 == v) (map (λ (h : GateLine). h.lhs) gs) ≡ true
gates_defined v [] g found = cc
gates_defined v (h ∷ gs) g found = by_test (h.lhs / 2 == v) found (gates_defined v gs g)
  where
    by_test : (b : Bool) → cond b (Some h) (find (λ h. h.lhs / 2 == v) gs) ≡ Some g → (find (λ h. h.lhs / 2 == v) gs ≡ Some g → list_any (λ e. e / 2 == v) (map (λ (h : GateLine). h.lhs) gs) ≡ true) → (b || list_any (λ e. e / 2 == v) (map (λ (h : GateLine). h.lhs) gs)) ≡ true
    by_test true found rest = refl
    by_test false found rest = rest found

any-right : (test : ℕ → Bool) (xs ys : List ℕ) → list_any test ys ≡ true → list_any test (xs ++ ys) ≡ true
any-right test [] ys h = h
any-right test (x ∷ xs) ys h = by_test (test x) (any-right test xs ys h)
  where
    by_test : (b : Bool) → list_any test (xs ++ ys) ≡ true → (b || list_any test (xs ++ ys)) ≡ true
    by_test true rest = refl
    by_test false rest = rest

pub gate-defined : (f : File) (v : ℕ) (g : GateLine) → gate_of_variable f v ≡ Some g → is_defined f v ≡ true
gate-defined f v g found =
    any-right (λ e. e / 2 == v) (f.inputs ++ map (λ l. l.literal) f.latches) (map (λ g. g.lhs) f.gates) (gates_defined v f.gates g found)

-- the operands of a file's gates are used
operands_have : (P : ℕ → Type 0) (gs : List GateLine) → AllByRecursion P (flat_map (λ (g : GateLine). g.rhs0 ∷ g.rhs1 ∷ []) gs) → AllByRecursion (λ (g : GateLine). P g.rhs0 × P g.rhs1) gs
operands_have P [] all = tt
operands_have P (g ∷ gs) all = ((all.0, all.1.0), operands_have P gs all.1.1)

used_operands : (P : ℕ → Type 0) (f : File) → AllByRecursion P (used f) → AllByRecursion (λ (g : GateLine). P g.rhs0 × P g.rhs1) f.gates
used_operands P f all =
    let operands = flat_map (λ (g : GateLine). g.rhs0 ∷ g.rhs1 ∷ []) f.gates in
    let nexts = map (λ (l : LatchLine). l.next) f.latches in
    operands_have P f.gates (rec_parts P (nexts ++ entries_of f.properties) operands all).1

-- a gate's operands are 0 or defined
pub operands_known : (f : File) (limit : ℕ) → Fits f limit → (v : ℕ) (g : GateLine) → gate_of_variable f v ≡ Some g → IsKnown f g.rhs0 × IsKnown f g.rhs1
operands_known f limit fits v g found =
    (find_some (λ (g : GateLine). IsKnown f g.rhs0 × IsKnown f g.rhs1) (λ h. h.lhs / 2 == v) f.gates g (used_operands (IsKnown f) f (used_known f limit fits)) found).1

-- of two variables that are 0 or defined, the one of the lesser level has the smaller number
pub node_of_variable-by_level : (f : File) (limit : ℕ) → Fits f limit → is_compact f ≡ false → (u v j k : ℕ) → is_known f u ≡ true → 1 ≤ v → level_of f u ≡ Some j → level_of f v ≡ Some k → j < k → node_of_variable f u < node_of_variable f v
node_of_variable-by_level f limit fits is zero v j k known one ju kv less = omega (arith, node_of_variable-zero f, node_of_variable-some f v one)
node_of_variable-by_level f limit fits is (suc u) v j k known one ju kv less =
    let same : eqb (suc u) 0 ≡ false = ne_eqb (suc u) 0 (λ e. omega (arith, e)) in
    let there : is_defined f (suc u) ≡ true = ap (λ b. b || is_defined f (suc u)) (sym same) ∙ known in
    let bounds = defined_within f limit fits (suc u) there in
    let before = position_of-by_level f (suc u) v j k there bounds.0 bounds.1 ju kv less in
    let in_order = subst (λ xs. position_of xs (suc u) < position_of xs v) (sym (order-well_founded f is)) before in
    omega (arith, node_of_variable-some f (suc u) (omega arith), node_of_variable-some f v one, in_order)

-- an operand's number is smaller than its gate's
pub operands_before : (f : File) (limit : ℕ) → Fits f limit → (v : ℕ) (g : GateLine) → gate_of_variable f v ≡ Some g → (node_of_variable f (g.rhs0 / 2) < node_of_variable f v) × (node_of_variable f (g.rhs1 / 2) < node_of_variable f v)
operands_before f limit fits v g found = by_test (is_compact f) refl
  where
    bounds : (1 ≤ v) × (v ≤ f.greatest)
    bounds = defined_within f limit fits v (gate-defined f v g found)

    by_test : (b : Bool) → is_compact f ≡ b → (node_of_variable f (g.rhs0 / 2) < node_of_variable f v) × (node_of_variable f (g.rhs1 / 2) < node_of_variable f v)
    by_test true is =
        let s = find_some (λ g. is_above_operands g ≡ true) (λ h. h.lhs / 2 == v) f.gates g (compact_ordered f is) found in
        let above = above_told g s.1 in
        let e = eqb-true (g.lhs / 2) v s.0 in
        let own = node_of_variable-compact f is v bounds.1 in
        let less0 : g.rhs0 / 2 < v = subst (λ m. g.rhs0 / 2 < m) e above.0 in
        let less1 : g.rhs1 / 2 < v = subst (λ m. g.rhs1 / 2 < m) e above.1 in
        let first = node_of_variable-compact f is (g.rhs0 / 2) (omega (arith, bounds.1, less0)) in
        let second = node_of_variable-compact f is (g.rhs1 / 2) (omega (arith, bounds.1, less1)) in
        (omega (arith, own, first, less0), omega (arith, own, second, less1))
    by_test false is =
        let level = levelled f (well_founded_parts f (well_founded_only f is fits.order)).1 v in
        let s = level_of-gate f v level.0 g found level.1 in
        let known = operands_known f limit fits v g found in
        let above = s.above in (
          node_of_variable-by_level f limit fits is (g.rhs0 / 2) v s.first level.0 known.0 bounds.0 s.first_is level.1 (omega arith),
          node_of_variable-by_level f limit fits is (g.rhs1 / 2) v s.second level.0 known.1 bounds.0 s.second_is level.1 (omega arith),
        )

-- within a level the smaller variable has the smaller number
pub node_of_variable-in_level : (f : File) (limit : ℕ) → Fits f limit → is_compact f ≡ false → (u v k : ℕ) → is_defined f u ≡ true → is_defined f v ≡ true → level_of f u ≡ Some k → level_of f v ≡ Some k → u < v → node_of_variable f u < node_of_variable f v
node_of_variable-in_level f limit fits is u v k first second ku kv less =
    let low = (defined_within f limit fits u first).0 in
    let high = (defined_within f limit fits v second).1 in
    let before = position_of-in_level f u v k first second low less high ku kv in
    let in_order = subst (λ xs. position_of xs u < position_of xs v) (sym (order-well_founded f is)) before in
    omega (arith, node_of_variable-some f u low, node_of_variable-some f v (omega arith), in_order)

-- ---- the rules by kind

-- a compact file is well-founded too
pub well_founded_also : (f : File) (limit : ℕ) → Fits f limit → is_well_founded f ≡ true
well_founded_also f limit fits = by_test (is_compact f) refl
  where
    by_test : (b : Bool) → is_compact f ≡ b → is_well_founded f ≡ true
    by_test true is =
        and_from (uses_known f) (list_all (has_level f) f.gates) ((all_pass (λ e. is_known f (e / 2)) (used f)).1 (used_known f limit fits))
        ((all_pass (has_level f) f.gates).1 (levels-ordered f (compact_ordered f is)))
    by_test false is = well_founded_only f is fits.order

-- a binary file is compact
pub compact_in_binary : (f : File) (limit : ℕ) → Fits f limit → f.kind ≡ Binary → is_compact f ≡ true
compact_in_binary f limit fits is = ap (λ kind. is_accepted_order kind f) (sym is) ∙ fits.order
