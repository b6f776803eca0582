-- Part of what is promised.
-- A plain reader of DIMACS: comment lines, and then words apart by spaces and line feeds, of which
-- a 0 ends a clause. (DIMACS CNF format.)
use Rattle.std.specs.Prelude.{ℕ, ◌-◌, ◌==◌, nat_le, Bool, true, false, not, ◌||◌, if◌then◌else◌, List, [], ◌∷◌, ◌++◌, length, codes, Option, Some, None, option_map}
use Rattle.std.specs.Str.{all_ascii_digits}
use Rattle.std.specs.Str.Parse.{digits_value}
use Rattle.aig_base.specs.declared.logic.literal.Lit.{Lit}
use Rattle.aig_base.specs.Clauses.{lit_to}
use Rattle.aig_format.specs.Parse.{◌>>=◌, strip}

-- a space or a line feed
abbrev pub is_blank : ℕ → Bool
is_blank b = (b == 32) || (b == 10)

-- a word in front of others, unless it is empty
abbrev pub word_in_front : List ℕ → List (List ℕ) → List (List ℕ)
word_in_front [] words = words
word_in_front (b ∷ bs) words = (b ∷ bs) ∷ words

-- the words of bytes, of which the first begins with `word`
unfoldable pub words_from : List ℕ → List ℕ → List (List ℕ)
words_from word [] = word_in_front word []
words_from word (b ∷ bs) =
    if is_blank b then word_in_front word (words_from [] bs) else words_from (word ++ b ∷ []) bs

-- the number of a word, if it is digits
abbrev pub number_in : List ℕ → Option ℕ
number_in [] = None
number_in (b ∷ bs) = if all_ascii_digits (b ∷ bs) then Some (digits_value 10 (b ∷ bs)) else None

-- the number of a word, and whether no minus stands in front of it
unfoldable pub signed_in : List ℕ → Option (Bool × ℕ)
signed_in [] = None
signed_in (b ∷ bs) =
    if b == 45 then option_map (λ n. (false, n)) (number_in bs)
    else option_map (λ n. (true, n)) (number_in (b ∷ bs))

-- no clauses, where no literal is left without its 0
abbrev pub none_following : List Lit → Option (List (List Lit))
none_following [] = Some []
none_following (lit ∷ lits) = None

-- the clauses of words over so many variables, after the first literals of a clause; each is ended
-- by a 0
unfoldable pub clauses_from : ℕ → List Lit → List (List ℕ) → Option (List (List Lit))
clauses_from variables clause [] = none_following clause
clauses_from variables clause (word ∷ words) = do
  n ← signed_in word
  if n.1 == 0 then (clauses_from variables [] words >>= λ clauses. Some (clause ∷ clauses))
      else if nat_le n.1 variables
      then clauses_from variables (clause ++ lit_to (n.1 - 1) n.0 ∷ []) words
      else None

-- the count of variables and the clauses of words: two counts come first, and there are as many
-- clauses as the second says
unfoldable pub counted_in : List (List ℕ) → Option (ℕ × List (List Lit))
counted_in [] = None
counted_in (first ∷ []) = None
counted_in (first ∷ second ∷ words) = do
  variables ← number_in first
  count ← number_in second
  clauses ← clauses_from variables [] words
  if length clauses == count then Some (variables, clauses) else None

-- what follows the comment lines in front, each of which begins with a c and ends with a line feed;
-- the bytes begin inside one, or not
unfoldable pub after_comments : Bool → List ℕ → List ℕ
after_comments inside [] = []
after_comments true (b ∷ bs) = after_comments (not (b == 10)) bs
after_comments false (b ∷ bs) = if b == 99 then after_comments true bs else b ∷ bs

-- the count of variables and the clauses that bytes say, if they are such a text
unfoldable pub parse_formula : List ℕ → Option (ℕ × List (List Lit))
parse_formula bytes = do
  rest ← strip (codes "p cnf ") (after_comments false bytes)
  counted_in (words_from [] rest)
