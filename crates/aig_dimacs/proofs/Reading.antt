-- The text of clauses is read again.
use Rattle.std.proofs.Common.{◌≡◌, ℕ, ◌+◌, ◌-◌, ◌*◌, ◌/◌, ◌%◌, ◌^◌, ◌<◌, ◌==◌, nat_le, true, false, if◌then◌else◌, List, [], ◌∷◌, ◌++◌, length, Some, refl, sym, ap, ◌∙◌, append_assoc, append-nil, arith}
use Rattle.aig_base.proofs.Words.{decimal, nat_tests, All-tail, recursion_from_All, same_Some}
use Rattle.std.specs.List.{All, AllByRecursion, flat_map}
use Rattle.aig_base.specs.declared.logic.literal.Lit.{Lit}
use Rattle.aig_base.specs.Clauses.{AreBelow, is_positive, lit_to, variable_of}
use Rattle.aig_format.specs.Parse.{◌>>=◌}
use Rattle.aig_dimacs.specs.Text.{IsFormula, clause_line, dimacs_of, literal_text}
use Rattle.aig_dimacs.specs.Reading.{after_comments, clauses_from, counted_in, parse_formula, signed_in, words_from}
use Rattle.aig_dimacs.proofs.Words.{decimal_plain, decimal_some, number_in-decimal, signed_in-word_of, word_of, word_plain, word_some, words_from-word}

-- a literal is that of its variable and polarity
lit_to-parts : (lit : Lit) → lit_to (variable_of lit + 1 - 1) (is_positive lit) ≡ lit
lit_to-parts lit = let literal : ℕ → Lit = λ n. record { code = n } in ap literal (code lit.code)
  where
    code : (n : ℕ) → 2 * (n / 2 + 1 - 1) + (if n % 2 == 0 then 0 else 1) ≡ n
    code n = grind (arith, nat_tests)

not_zero : (n : ℕ) → (n + 1 == 0) ≡ false
not_zero n = grind (arith, nat_tests)

within : (n variables : ℕ) → n < variables → nat_le (n + 1) variables ≡ true
within n variables h = grind (arith, nat_tests)

itself : (n : ℕ) → (n == n) ≡ true
itself n = grind (arith, nat_tests)

-- a literal's text is its word and a space
words_from-literal : (lit : Lit) (rest : List ℕ) → variable_of lit + 1 < 2 ^ 64 → words_from [] (literal_text lit ++ rest) ≡ word_of lit ∷ words_from [] rest
words_from-literal lit rest lt =
    let regroup : literal_text lit ++ rest ≡ word_of lit ++ 32 ∷ rest = simp append_assoc in
    ap (words_from []) regroup ∙ words_from-word (word_of lit) 32 rest (word_plain lit lt) (word_some lit lt) refl

-- what a literal's word adds to the clause
clauses_from-literal : (variables : ℕ) (before : List Lit) (lit : Lit) (words : List (List ℕ)) → variables < 2 ^ 64 → variable_of lit < variables
    → clauses_from variables before (word_of lit ∷ words) ≡ clauses_from variables (before ++ lit ∷ []) words
unfolding clauses_from
clauses_from-literal variables before lit words few below =
    let lt : variable_of lit + 1 < 2 ^ 64 = omega arith in
    rw (signed_in-word_of lit lt, not_zero (variable_of lit), within (variable_of lit) variables below, lit_to-parts lit) refl

-- the 0 that ends a clause
signed_in-zero : signed_in (48 ∷ []) ≡ Some (true, 0)
unfolding signed_in
signed_in-zero = refl

-- the line of a clause is read as the clause
clauses_from-line : (variables : ℕ) (before lits : List Lit) (rest : List ℕ) → variables < 2 ^ 64 → AllByRecursion (λ lit. variable_of lit < variables) lits
    → clauses_from variables before (words_from [] (flat_map literal_text lits ++ 48 ∷ 10 ∷ rest)) ≡ (clauses_from variables [] (words_from [] rest) >>= λ clauses. Some ((before ++ lits) ∷ clauses))
unfolding clauses_from
clauses_from-line variables before [] rest few below =
    rw (words_from-word (48 ∷ []) 10 rest (refl, tt) (omega arith) refl, signed_in-zero, append-nil before) refl
clauses_from-line variables before (lit ∷ lits) rest few below =
    ap (λ l. clauses_from variables before (words_from [] l)) (append_assoc (literal_text lit) (flat_map literal_text lits) (48 ∷ 10 ∷ rest))
    ∙ ap (clauses_from variables before) (words_from-literal lit (flat_map literal_text lits ++ 48 ∷ 10 ∷ rest) (omega (arith, below.0)))
    ∙ clauses_from-literal variables before lit (words_from [] (flat_map literal_text lits ++ 48 ∷ 10 ∷ rest)) few below.0
    ∙ clauses_from-line variables (before ++ lit ∷ []) lits rest few below.1
    ∙ ap (λ clause. clauses_from variables [] (words_from [] rest) >>= λ clauses. Some (clause ∷ clauses)) (append_assoc before (lit ∷ []) lits)

-- the lines of clauses are read as the clauses
clauses_from-lines : (variables : ℕ) (clauses : List (List Lit)) → variables < 2 ^ 64 → AllByRecursion (AllByRecursion (λ lit. variable_of lit < variables)) clauses
    → clauses_from variables [] (words_from [] (flat_map clause_line clauses)) ≡ Some clauses
unfolding clauses_from words_from clause_line
clauses_from-lines variables [] few below = refl
clauses_from-lines variables (clause ∷ clauses) few below =
    ap (λ l. clauses_from variables [] (words_from [] l)) (append_assoc (flat_map literal_text clause) (48 ∷ 10 ∷ []) (flat_map clause_line clauses))
    ∙ clauses_from-line variables [] clause (flat_map clause_line clauses) few below.0
    ∙ ap (λ o. o >>= λ rest. Some (clause ∷ rest)) (clauses_from-lines variables clauses few below.1)

below_by_recursion : (n : ℕ) (clauses : List (List Lit)) → AreBelow n clauses → AllByRecursion (AllByRecursion (λ lit. variable_of lit < n)) clauses
below_by_recursion n [] h = tt
below_by_recursion n (clause ∷ clauses) h =
    (recursion_from_All (λ lit. variable_of lit < n) clause (h 0 clause (omega arith)), below_by_recursion n clauses (All-tail (λ clause. All (λ lit. variable_of lit < n) clause) clause clauses h))

-- the words of the header line and of the lines
words_from-header : (variables count : ℕ) (lines : List ℕ) → variables < 2 ^ 64 → count < 2 ^ 64
    → words_from [] (((decimal variables ++ 32 ∷ []) ++ (decimal count ++ 10 ∷ [])) ++ lines) ≡ decimal variables ∷ decimal count ∷ words_from [] lines
words_from-header variables count lines few low =
    let regroup : ((decimal variables ++ 32 ∷ []) ++ (decimal count ++ 10 ∷ [])) ++ lines ≡ decimal variables ++ 32 ∷ (decimal count ++ 10 ∷ lines) = simp append_assoc in
    ap (words_from []) regroup
    ∙ words_from-word (decimal variables) 32 (decimal count ++ 10 ∷ lines) (decimal_plain variables few) (decimal_some variables few) refl
    ∙ ap (λ words. decimal variables ∷ words) (words_from-word (decimal count) 10 lines (decimal_plain count low) (decimal_some count low) refl)

counted : (variables : ℕ) (clauses : List (List Lit)) → IsFormula variables clauses → counted_in (decimal variables ∷ decimal (length clauses) ∷ words_from [] (flat_map clause_line clauses)) ≡ Some (variables, clauses)
unfolding counted_in
counted variables clauses h =
    rw (number_in-decimal variables h.few, number_in-decimal (length clauses) h.count, clauses_from-lines variables clauses h.few (below_by_recursion variables clauses h.below), itself (length clauses)) refl

pub parse_formula-dimacs_of : (variables : ℕ) (clauses : List (List Lit)) → IsFormula variables clauses → parse_formula (dimacs_of variables clauses) ≡ Some (variables, clauses)
unfolding parse_formula after_comments dimacs_of
parse_formula-dimacs_of variables clauses h =
    ap counted_in (words_from-header variables (length clauses) (flat_map clause_line clauses) h.few h.count) ∙ counted variables clauses h

pub dimacs_of-injective : (variables others : ℕ) (clauses extra : List (List Lit)) → IsFormula variables clauses → IsFormula others extra → dimacs_of variables clauses ≡ dimacs_of others extra
    → (variables ≡ others) × (clauses ≡ extra)
dimacs_of-injective variables others clauses extra h k same =
    let pair : (variables, clauses) ≡ (others, extra) = same_Some _ _ (sym (parse_formula-dimacs_of variables clauses h) ∙ ap parse_formula same ∙ parse_formula-dimacs_of others extra k) in
    (ap (λ p. p.0) pair, ap (λ p. p.1) pair)
