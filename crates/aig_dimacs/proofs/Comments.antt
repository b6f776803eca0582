-- Texts that stand in a comment line, and texts of such lines, which are passed over.
use Rattle.std.proofs.Common.{◌≡◌, ℕ, zero, suc, ◌+◌, ◌/◌, ◌%◌, ◌≤◌, ◌==◌, nat_lt, Bool, true, false, not, if◌then◌else◌, List, [], ◌∷◌, ◌++◌, refl, ap, ◌∙◌, append_assoc, arith}
use Rattle.aig_base.proofs.Words.{codes, decimal, flat_map, nat_tests}
use Rattle.std.specs.Fmt.{digit_glyph, digits, digits_onto}
use Rattle.aig_base.specs.declared.logic.literal.Lit.{Lit}
use Rattle.aig_base.specs.Clauses.{is_positive}
use Rattle.aig_format.specs.Parse.{◌>>=◌, strip}
use Rattle.aig_dimacs.specs.Text.{sign_of}
use Rattle.aig_dimacs.specs.Reading.{after_comments, counted_in, parse_formula, words_from}

-- ---- inside a line

-- inside a comment line, the text leads on inside it
abbrev pub StaysInside : List ℕ → Type 0
StaysInside text = (rest : List ℕ) → after_comments true (text ++ rest) ≡ after_comments true rest

pub inside-cons : (b : ℕ) (text : List ℕ) → (b == 10) ≡ false → StaysInside text
    → StaysInside (b ∷ text)
unfolding after_comments
inside-cons b text other inside rest = ap (λ (end : Bool). after_comments (not end) (text ++ rest)) other ∙ inside rest

-- a digit is no line feed
glyph_is : (n : ℕ) → 48 ≤ n → (n == 10) ≡ false
glyph_is n h = grind (arith, nat_tests)

glyph_by : (small : Bool) (d : ℕ) → ((if small then 48 + d else 87 + d) == 10) ≡ false
glyph_by true d = glyph_is (48 + d) (omega arith)
glyph_by false d = glyph_is (87 + d) (omega arith)

either : (first : Bool) (text other : List ℕ) → StaysInside text → StaysInside other
    → StaysInside (if first then text else other)
either true text other one two = one
either false text other one two = two

digits_inside : (k n : ℕ) (text : List ℕ) → StaysInside text
    → StaysInside (digits_onto k 10 false n text)
digits_inside zero n text inside = inside
digits_inside (suc k) n text inside =
    let more = inside-cons (digit_glyph false (n % 10)) text (glyph_by (nat_lt (n % 10) 10) (n % 10)) inside in
    either (n / 10 == 0) _ _ more (digits_inside k (n / 10) (digit_glyph false (n % 10) ∷ text) more)

pub decimal_inside : (n : ℕ) → StaysInside (decimal n)
unfolding digits
decimal_inside n = digits_inside 64 n [] (λ rest. refl)

sign_by : (positive : Bool) → StaysInside (if positive then [] else codes "-")
unfolding after_comments
sign_by true rest = refl
sign_by false rest = refl

pub sign_inside : (lit : Lit) → StaysInside (sign_of lit)
sign_inside lit = sign_by (is_positive lit)

pub inside-append : (text more : List ℕ) → StaysInside text → StaysInside more
    → StaysInside (text ++ more)
inside-append text more one other rest = ap (after_comments true) (append_assoc text more rest) ∙ one (more ++ rest) ∙ other rest

-- ---- lines

-- inside a comment line, the text leads to its end
abbrev pub EndsLine : List ℕ → Type 0
EndsLine text = (rest : List ℕ) → after_comments true (text ++ rest) ≡ after_comments false rest

pub ends-line_feed : EndsLine (10 ∷ [])
unfolding after_comments
ends-line_feed rest = refl

pub ends-append : (text more : List ℕ) → StaysInside text → EndsLine more
    → EndsLine (text ++ more)
ends-append text more one other rest = ap (after_comments true) (append_assoc text more rest) ∙ one (more ++ rest) ∙ other rest

-- the text is comment lines
abbrev pub ArePassed : List ℕ → Type 0
ArePassed text = (rest : List ℕ) → after_comments false (text ++ rest) ≡ after_comments false rest

-- a line that begins with a c
pub line_passed : (text : List ℕ) → EndsLine text → ArePassed (99 ∷ text)
unfolding after_comments
line_passed text ends rest = ends rest

pub passed-append : (text more : List ℕ) → ArePassed text → ArePassed more
    → ArePassed (text ++ more)
passed-append text more one other rest = ap (after_comments false) (append_assoc text more rest) ∙ one (more ++ rest) ∙ other rest

pub passed-flat_map : {X : Type 0} (line : X → List ℕ) → ((x : X) → ArePassed (line x))
    → (xs : List X) → ArePassed (flat_map line xs)
passed-flat_map line each [] rest = refl
passed-flat_map line each (x ∷ xs) rest = passed-append (line x) (flat_map line xs) (each x) (passed-flat_map line each xs) rest

-- what is read behind them is read as if they weren't there
pub parse_formula-passed : (text rest : List ℕ) → ArePassed text
    → parse_formula (text ++ rest) ≡ parse_formula rest
unfolding parse_formula
parse_formula-passed text rest passed = ap (λ bytes. strip (codes "p cnf ") bytes >>= λ words. counted_in (words_from [] words)) (passed rest)
