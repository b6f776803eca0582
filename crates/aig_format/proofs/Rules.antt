-- What the tests of the rules tell.
use Rattle.aig_base.proofs.Words.{◌≡◌, ◌↔◌, ℕ, ◌*◌, ◌/◌, ◌%◌, ◌<◌, ◌≤◌, Bool, true, false, ◌&&◌, ◌||◌, List, [], ◌∷◌, length, map, refl, sym, ap, ◌∙◌, arith, not, nat_le, nat_lt, ◌==◌, nat_eq, IsUtf8, and_from, and_parts, eqb-true, eq-eqb, leb-true, le-leb, ltb-true, false≢true, ne_eqb, lt-ltb, or_right, is_utf8}
use Rattle.std.specs.List.{AllByRecursion, list_all, IsDistinct}
use Rattle.aig_format.specs.declared.FileKind.{FileKind}
use Rattle.aig_format.specs.declared.FileKind.TheVariants.{Text, Binary}
use Rattle.aig_format.proofs.Words.{GateLine, File, defined, used, NameLine, HeaderNumbers, is_known, IsKnown, has_level, HasLevel, is_increasing, is_above_operands, are_in_order, is_compact, AllPass, IsDefinable, uses_known, is_well_founded, is_accepted_order, is_name, count_of, is_kept}
use Rattle.std.proofs.lemmas.Str.{IsUtf8-from_is_utf8, is_utf8-from_IsUtf8}

-- all pass a test exactly if each does
pub all_pass : {A : Type 0} (test : A → Bool) (xs : List A) → (list_all test xs ≡ true) ↔ AllPass test xs
all_pass test [] = (λ h. tt, λ all. refl)
all_pass test (x ∷ xs) =
    let rest = all_pass test xs in
    (λ h. let p = and_parts (test x) (list_all test xs) h in (p.0, rest.0 p.1), λ all. and_from (test x) (list_all test xs) all.0 (rest.1 all.1))

-- what a literal is that may be defined
pub definable_told : (greatest e : ℕ) → IsDefinable greatest e → (e % 2 ≡ 0) × (2 ≤ e) × (e ≤ 2 * greatest)
definable_told greatest e h =
    let p = and_parts (e % 2 == 0 && nat_le 2 e) (nat_le e (2 * greatest)) h in
    let q = and_parts (e % 2 == 0) (nat_le 2 e) p.0 in
    (eqb-true (e % 2) 0 q.0, leb-true 2 e q.1, leb-true e (2 * greatest) p.1)

pub definable_from : (greatest e : ℕ) → e % 2 ≡ 0 → 2 ≤ e → e ≤ 2 * greatest → IsDefinable greatest e
definable_from greatest e even low high =
    and_from (e % 2 == 0 && nat_le 2 e) (nat_le e (2 * greatest)) (and_from (e % 2 == 0) (nat_le 2 e) (eq-eqb (e % 2) 0 even) (le-leb 2 e low)) (le-leb e (2 * greatest) high)

pub even_literal : (greatest e : ℕ) → IsDefinable greatest e → e % 2 ≡ 0
even_literal greatest e h = (definable_told greatest e h).0

-- an operand's variable is smaller than the gate's
pub above_told : (g : GateLine) → is_above_operands g ≡ true → (g.rhs0 / 2 < g.lhs / 2) × (g.rhs1 / 2 < g.lhs / 2)
above_told g h =
    let p = and_parts (nat_lt (g.rhs0 / 2) (g.lhs / 2)) (nat_lt (g.rhs1 / 2) (g.lhs / 2)) h in
    (ltb-true (g.rhs0 / 2) (g.lhs / 2) p.0, ltb-true (g.rhs1 / 2) (g.lhs / 2) p.1)

-- in a compact file no variable is missing
pub compact_exact : (f : File) → is_compact f ≡ true → f.greatest ≡ length (defined f)
compact_exact f compact = eqb-true f.greatest (length (defined f)) (and_parts (f.greatest == length (defined f)) (are_in_order f.gates) compact).0

-- and gates are above their operands
pub compact_ordered : (f : File) → is_compact f ≡ true → AllPass is_above_operands f.gates
compact_ordered f compact =
    let in_order = and_parts (f.greatest == length (defined f)) (are_in_order f.gates) compact in
    let p = and_parts (is_increasing (map (λ (g : GateLine). g.lhs) f.gates)) (list_all is_above_operands f.gates) in_order.1 in
    (all_pass is_above_operands f.gates).0 p.1

-- what isn't compact is well-founded
pub well_founded_only : (f : File) → is_compact f ≡ false → is_accepted_order f.kind f ≡ true → is_well_founded f ≡ true
well_founded_only f h = by_kind f.kind
  where
    by_kind : (kind : FileKind) → is_accepted_order kind f ≡ true → is_well_founded f ≡ true
    by_kind Text order = ap (λ b. b || is_well_founded f) (sym h) ∙ order
    by_kind Binary compact = absurd (false≢true (sym h ∙ compact))

-- in a well-founded file what is used is known, and each gate has a level
pub well_founded_parts : (f : File) → is_well_founded f ≡ true → AllByRecursion (IsKnown f) (used f) × AllByRecursion (HasLevel f) f.gates
well_founded_parts f h =
    let p = and_parts (uses_known f) (list_all (has_level f) f.gates) h in
    ((all_pass (λ e. is_known f (e / 2)) (used f)).0 p.0, (all_pass (has_level f) f.gates).0 p.1)

-- a file is compact where no variable is missing, and gates rise above their operands
pub compact_from : (f : File) → f.greatest ≡ length (defined f) → is_increasing (map (λ (g : GateLine). g.lhs) f.gates) ≡ true → AllPass is_above_operands f.gates → is_compact f ≡ true
compact_from f exact rising ordered =
    let lefts = map (λ (g : GateLine). g.lhs) f.gates in
    and_from (f.greatest == length (defined f)) (are_in_order f.gates) (eq-eqb f.greatest (length (defined f)) exact)
    (and_from (is_increasing lefts) (list_all is_above_operands f.gates) rising ((all_pass is_above_operands f.gates).1 ordered))

-- numbers that rise are distinct
differ_above : (m x : ℕ) (xs : List ℕ) → m ≤ x → is_increasing (x ∷ xs) ≡ true → AllByRecursion (λ y. nat_eq m y ≡ false) xs
differ_above m x [] low h = tt
differ_above m x (y ∷ ys) low h =
    let p = and_parts (nat_lt x y) (is_increasing (y ∷ ys)) h in
    let less = ltb-true x y p.0 in
    (ne_eqb m y (λ e. omega arith), differ_above m y ys (omega arith) p.1)

pub rising_distinct : (xs : List ℕ) → is_increasing xs ≡ true → IsDistinct nat_eq xs
unfolding IsDistinct
rising_distinct [] h = tt
rising_distinct (x ∷ []) h = (tt, tt)
rising_distinct (x ∷ y ∷ ys) h = (differ_above x x (y ∷ ys) (omega arith) h, rising_distinct (y ∷ ys) (and_parts (nat_lt x y) (is_increasing (y ∷ ys)) h).1)

-- a name of an input or a latch is a text
pub name_text : (numbers : HeaderNumbers) (n : NameLine) → is_name numbers n ≡ true → is_kept n.letter ≡ true → IsUtf8 n.name
name_text numbers n h kept =
    let p = and_parts (nat_lt n.position (count_of numbers n.letter)) (not (is_kept n.letter) || is_utf8 n.name) h in
    IsUtf8-from_is_utf8 n.name (ap (λ b. not b || is_utf8 n.name) (sym kept) ∙ p.1)

-- a text may be the name of each entry of its section
pub name_from : (numbers : HeaderNumbers) (n : NameLine) → n.position < count_of numbers n.letter → IsUtf8 n.name → is_name numbers n ≡ true
name_from numbers n low text =
    and_from (nat_lt n.position (count_of numbers n.letter)) (not (is_kept n.letter) || is_utf8 n.name) (lt-ltb n.position (count_of numbers n.letter) low)
    (or_right (not (is_kept n.letter)) (is_utf8 n.name) (is_utf8-from_IsUtf8 n.name text))

pub above_from : (g : GateLine) → g.rhs0 / 2 < g.lhs / 2 → g.rhs1 / 2 < g.lhs / 2 → is_above_operands g ≡ true
above_from g first second =
    and_from (nat_lt (g.rhs0 / 2) (g.lhs / 2)) (nat_lt (g.rhs1 / 2) (g.lhs / 2)) (lt-ltb (g.rhs0 / 2) (g.lhs / 2) first) (lt-ltb (g.rhs1 / 2) (g.lhs / 2) second)
