-- Clauses that a plain reader reads from a text are of variables that are there.
use Rattle.aig_base.proofs.Words.{◌≡◌, ℕ, ◌+◌, ◌-◌, ◌==◌, Bool, true, false, if◌then◌else◌, nat_le, nat_lt, List, [], ◌∷◌, ◌++◌, length, codes, Option, Some, None, refl, subst, arith, nat_tests, list_all-append, same_Some}
use Rattle.aig_base.specs.declared.logic.literal.Lit.{Lit}
use Rattle.aig_base.specs.Clauses.{lit_to, variable_of}
use Rattle.aig_dimacs.specs.Reading.{after_comments, clauses_from, counted_in, number_in, parse_formula, signed_in, words_from}
use Rattle.aig_format.specs.Parse.{◌>>=◌, strip}
use Rattle.aig_refutation.specs.Checking.{are_all_in, are_in}

variable_of-lit_to : (n : ℕ) (polarity : Bool) → variable_of (lit_to n polarity) ≡ n
variable_of-lit_to n true = omega arith
variable_of-lit_to n false = omega arith

-- a literal of a word, if there is one
is_there : (n variables : ℕ) → (n == 0) ≡ false → nat_le n variables ≡ true
    → nat_lt (n - 1) variables ≡ true
is_there n variables some low = grind (arith, nat_tests)

module _ (variables : ℕ) where
  module _ (words : List (List ℕ)) (again : (clause : List Lit) (clauses : List (List Lit))
      → are_in variables clause ≡ true → clauses_from variables clause words ≡ Some clauses
      → are_all_in variables clauses ≡ true) (clause : List Lit) (ok : are_in variables clause
      ≡ true) (clauses : List (List Lit)) where
    -- a clause that ends, and those behind it
    ended : (o : Option (List (List Lit))) → clauses_from variables [] words ≡ o
        → (o >>= λ cs. Some (clause ∷ cs)) ≡ Some clauses → are_all_in variables clauses ≡ true
    ended None from is = cc
    ended (Some cs) from is =
        let all : are_all_in variables (clause ∷ cs) ≡ true = rw (ok, again [] cs refl from) refl in
        subst (λ l. are_all_in variables l ≡ true) (same_Some _ _ is) all

    -- a literal more
    longer : (polarity : Bool) (n : ℕ) → (n == 0) ≡ false → nat_le n variables ≡ true
        → are_in variables (clause ++ lit_to (n - 1) polarity ∷ []) ≡ true
    longer polarity n some low =
        let there = is_there n variables some low in
        let lit = lit_to (n - 1) polarity in
        let is : nat_lt (variable_of lit) variables
        ≡ true = rw (variable_of-lit_to (n - 1) polarity) there in
        rw (list_all-append (λ l. nat_lt (variable_of l) variables) clause (lit ∷ []), ok, is) refl

    by_number : (polarity : Bool) (n : ℕ) (none low : Bool) → (n == 0) ≡ none
        → nat_le n variables ≡ low
        → (if none then (clauses_from variables [] words >>= λ cs. Some (clause ∷ cs))
        else if low then clauses_from variables (clause ++ lit_to (n - 1) polarity ∷ []) words
        else None) ≡ Some clauses → are_all_in variables clauses ≡ true
    by_number polarity n true low zero within is = ended (clauses_from variables [] words) refl is
    by_number polarity n false true zero within is =
        again (clause ++ lit_to (n - 1) polarity ∷ []) clauses (longer polarity n zero within) is
    by_number polarity n false false zero within is = cc

    by_word : (o : Option (Bool × ℕ))
        → (o >>= λ n. if n.1 == 0
        then (clauses_from variables [] words >>= λ cs. Some (clause ∷ cs))
        else if nat_le n.1 variables
        then clauses_from variables (clause ++ lit_to (n.1 - 1) n.0 ∷ []) words
        else None) ≡ Some clauses → are_all_in variables clauses ≡ true
    by_word None is = cc
    by_word (Some n) is = by_number n.0 n.1 (n.1 == 0) (nat_le n.1 variables) refl refl is

  in_words : (words : List (List ℕ)) (clause : List Lit) (clauses : List (List Lit))
      → are_in variables clause ≡ true → clauses_from variables clause words ≡ Some clauses
      → are_all_in variables clauses ≡ true
  unfolding clauses_from
  in_words [] [] clauses ok is = subst (λ l. are_all_in variables l ≡ true) (same_Some _ _ is) refl
  in_words [] (lit ∷ lits) clauses ok is = cc
  in_words (word ∷ words) clause clauses ok is =
      by_word words (in_words words) clause ok clauses (signed_in word) is

abbrev counted : ℕ → List (List Lit) → ℕ × List (List Lit)
counted variables clauses = (variables, clauses)

module _ (variables : ℕ) (clauses : List (List Lit)) where
  by_count : (found : ℕ) (made : List (List Lit)) (same : Bool) → are_all_in found made ≡ true
      → (if same then Some (counted found made) else None) ≡ Some (variables, clauses)
      → are_all_in variables clauses ≡ true
  by_count found made true all is =
      let pair : counted found made ≡ counted variables clauses = same_Some _ _ is in
      subst (λ (p : ℕ × List (List Lit)). are_all_in p.0 p.1 ≡ true) pair all
  by_count found made false all is = cc

  by_clauses : (words : List (List ℕ)) (found count : ℕ) (o : Option (List (List Lit)))
      → clauses_from found [] words ≡ o
      → (o >>= λ made. if length made == count then Some (counted found made) else None)
      ≡ Some (counted variables clauses) → are_all_in variables clauses ≡ true
  by_clauses words found count None from is = cc
  by_clauses words found count (Some made) from is =
      by_count found made (length made == count) (in_words found words [] made refl from) is

  by_numbers : (words : List (List ℕ)) (first second : Option ℕ)
      → (first >>= λ found. second >>= λ count. clauses_from found [] words >>= λ made.
      if length made == count then Some (counted found made) else None)
      ≡ Some (counted variables clauses) → are_all_in variables clauses ≡ true
  by_numbers words None second is = cc
  by_numbers words (Some found) None is = cc
  by_numbers words (Some found) (Some count) is =
      by_clauses words found count (clauses_from found [] words) refl is

  by_words : (words : List (List ℕ)) → counted_in words ≡ Some (variables, clauses)
      → are_all_in variables clauses ≡ true
  unfolding counted_in
  by_words [] is = cc
  by_words (first ∷ []) is = cc
  by_words (first ∷ second ∷ words) is = by_numbers words (number_in first) (number_in second) is

  by_text : (o : Option (List ℕ)) → (o >>= λ rest. counted_in (words_from [] rest))
      ≡ Some (counted variables clauses) → are_all_in variables clauses ≡ true
  by_text None is = cc
  by_text (Some rest) is = by_words (words_from [] rest) is

  pub in_text : (text : List ℕ) → parse_formula text ≡ Some (variables, clauses)
      → are_all_in variables clauses ≡ true
  unfolding parse_formula
  in_text text is = by_text (strip (codes "p cnf ") (after_comments false text)) is
