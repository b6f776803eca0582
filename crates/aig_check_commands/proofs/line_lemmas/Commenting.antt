-- The lines of comments, as a text for each place in a list, and behind them the clauses.
use Rattle.aig_check_commands.proofs.Words.{◌==◌, zero-add, codes, enumerate_from, flat_map, range_with_len, zip, get_or-zip, get_or-enumerate_from, Lit, lit_to, variable_of, clauses_in, lit_of, place_at, last_bads, IsFormula, sign_of, ArePassed, StaysInside, decimal_inside, ends-append, ends-line_feed, inside-append, inside-cons, line_passed, parse_formula-passed, passed-append, passed-flat_map, sign_inside, parse_formula-dimacs_of, BoundedClauses, Title, letter_of, place_line, bad_line, input_line, latch_comment}
use Rattle.std.proofs.Common.{◌≡◌, ℕ, Bool, ◌+◌, ◌<◌, true, false, Some, List, [], ◌∷◌, ◌++◌, length, get_or, refl, sym, ap, ◌∙◌}
use Rattle.aig_base.proofs.Words.{decimal}
use Rattle.aig_circuit.proofs.Words.{Circuit, latch_leaves}
use Rattle.aig_dimacs.specs.Reading.{after_comments, parse_formula}
use Rattle.aig_dimacs.specs.Text.{dimacs_of}
use Rattle.aig_check_commands.proofs.line_lemmas.Passing.{title_passed}
use Rattle.aig_check_commands.specs.Titles.{title_text}
use Rattle.aig_check_commands.specs.Bounded.{bounded_comments}
use Rattle.aig_check_commands.specs.Comments.{comments_of, input_lines, literal_line}

pub line_at : {X : Type 0} (line : ℕ × X → List ℕ) (xs : List X) (i : ℕ) (d : X) → i < length xs
    → line (get_or (enumerate_from 0 xs) i (0, d)) ≡ line (i, get_or xs i d)
line_at {X} line xs i d h = ap line (get_or-enumerate_from 0 xs i (0, d) h) ∙ ap (λ j. line (j, get_or xs i d)) (zero-add i)

-- a pair of two lists
pub get_or-pair : {K X : Type 0} (ks : List K) (xs : List X) (i : ℕ) (k : K) (x : X) → i < length ks
    → i < length xs → k ≡ get_or ks i k → x ≡ get_or xs i x
    → get_or (zip ks xs) i (k, x) ≡ (k, x)
get_or-pair ks xs i k x low down at is =
    get_or-zip ks xs i (k, x) low down ∙ ap (λ n. (n, get_or xs i x)) (sym at) ∙ ap (λ y. (k, y))
    (sym is)

-- ---- comments are passed over

-- the words between two numbers
words_inside : StaysInside (codes "at step ")
unfolding after_comments
words_inside rest = refl

is_inside : StaysInside (codes "is ")
unfolding after_comments
is_inside rest = refl

space_inside : StaysInside (32 ∷ [])
unfolding after_comments
space_inside rest = refl

-- the line of a literal, whose letter is no line feed
literal_passed : (letter number step : ℕ) (lit : Lit) → (letter == 10) ≡ false
    → ArePassed (literal_line (99 ∷ 32 ∷ letter ∷ []) number step lit)
unfolding literal_line
literal_passed letter number step lit other =
    let tail = 32 ∷ letter ∷ [] in
    let first = decimal number ++ 32 ∷ [] in
    let second = decimal step ++ 32 ∷ [] in
    let last = decimal (variable_of lit + 1) ++ 10 ∷ [] in
    let numbered = inside-append tail first (inside-cons 32 (letter ∷ []) refl (inside-cons letter [] other (λ rest. refl))) (inside-append (decimal number) (32 ∷ []) (decimal_inside number) space_inside) in
    let placed = inside-append (tail ++ first) (codes "at step ") numbered words_inside in
    let stepped = inside-append (tail ++ first ++ codes "at step ") second placed (inside-append (decimal step) (32 ∷ []) (decimal_inside step) space_inside) in
    let named = inside-append (tail ++ first ++ codes "at step " ++ second) (codes "is ") stepped is_inside in
    let signed = inside-append (tail ++ first ++ codes "at step " ++ second ++ codes "is ") (sign_of lit) named (sign_inside lit) in
    let ends = ends-append (decimal (variable_of lit + 1)) (10 ∷ []) (decimal_inside (variable_of lit + 1)) ends-line_feed in
    line_passed (tail ++ first ++ codes "at step " ++ second ++ codes "is " ++ sign_of lit ++ last) (ends-append (tail ++ first ++ codes "at step " ++ second ++ codes "is " ++ sign_of lit) last signed ends)

inputs_passed : (c u : Circuit) (t : ℕ) → ArePassed (input_lines c u t)
unfolding input_lines
inputs_passed c u t = passed-flat_map (input_line c u t) (λ x. literal_passed 105 x.0 t (lit_to (place_at c u t x.1) true) refl) (enumerate_from 0 c.inputs)

comments_passed : (c u : Circuit) (k : ℕ) → ArePassed (comments_of c u k)
unfolding comments_of
comments_passed c u k =
    let inputs = flat_map (input_lines c u) (range_with_len 0 (k + 1)) in
    let latches = flat_map latch_comment (enumerate_from 0 (latch_leaves c.latchs)) in
    let bads = flat_map (bad_line k) (enumerate_from 0 (last_bads c k u)) in
    passed-append (inputs ++ latches) bads
    (passed-append inputs latches (passed-flat_map (input_lines c u) (inputs_passed c u) (range_with_len 0 (k + 1))) (passed-flat_map latch_comment (λ x. literal_passed 108 x.0 0 (lit_to x.1 true) refl) (enumerate_from 0 (latch_leaves c.latchs))))
    (passed-flat_map (bad_line k) (λ x. literal_passed 98 x.0 k (lit_of x.1) refl) (enumerate_from 0 (last_bads c k u)))

place_passed : (is_latch : Bool) (number step n : ℕ)
    → ArePassed (literal_line (letter_of is_latch) number step (lit_to n true))
place_passed true number step n = literal_passed 108 number step (lit_to n true) refl
place_passed false number step n = literal_passed 105 number step (lit_to n true) refl

bounded_passed : (made : BoundedClauses) → ArePassed (bounded_comments made)
unfolding bounded_comments
bounded_passed made =
    passed-flat_map place_line (λ x. place_passed x.1.is_latch x.1.number x.1.step x.0)
    (zip made.question.circuit.inputs.items made.named.items)

-- the clauses behind comments are read again
again : (front : List ℕ) (variables : ℕ) (clauses : List (List Lit)) → ArePassed front
    → IsFormula variables clauses
    → parse_formula (front ++ dimacs_of variables clauses) ≡ Some (variables, clauses)
again front variables clauses passed formula =
    parse_formula-passed front (dimacs_of variables clauses) passed
    ∙ parse_formula-dimacs_of variables clauses formula

pub titled_again : (t : Title) (variables : ℕ) (clauses : List (List Lit))
    → IsFormula variables clauses
    → parse_formula (title_text t ++ dimacs_of variables clauses) ≡ Some (variables, clauses)
titled_again t variables clauses = again (title_text t) variables clauses (title_passed t)

pub bounded_again : (t : Title) (made : BoundedClauses)
    → IsFormula (length made.clauses) (clauses_in made.clauses ++ made.extra)
    → parse_formula (title_text t ++ bounded_comments made
    ++ dimacs_of (length made.clauses) (clauses_in made.clauses ++ made.extra))
    ≡ Some (length made.clauses, clauses_in made.clauses ++ made.extra)
bounded_again t made =
    again (title_text t ++ bounded_comments made) (length made.clauses)
    (clauses_in made.clauses ++ made.extra)
    (passed-append (title_text t) (bounded_comments made) (title_passed t) (bounded_passed made))

pub query_again : (t : Title) (c u : Circuit) (k variables : ℕ) (clauses : List (List Lit))
    → IsFormula variables clauses
    → parse_formula (title_text t ++ comments_of c u k ++ dimacs_of variables clauses)
    ≡ Some (variables, clauses)
query_again t c u k variables clauses =
    again (title_text t ++ comments_of c u k) variables clauses
    (passed-append (title_text t) (comments_of c u k) (title_passed t) (comments_passed c u k))
