-- The text of a small formula, and what is read from it and from other texts.
use Rattle.aig_base.proofs.Words.{◌≡◌, true, false, List, [], ◌∷◌, None, Some, refl, codes}
use Rattle.std.specs.Fmt.{digits}
use Rattle.aig_base.specs.declared.logic.literal.Lit.{Lit}
use Rattle.aig_base.specs.Clauses.{lit_to}
use Rattle.aig_dimacs.specs.Text.{clause_line, dimacs_of}
use Rattle.aig_dimacs.specs.Reading.{after_comments, clauses_from, counted_in, parse_formula, signed_in, words_from}

-- variable 0 or not variable 9, and no literal
abbrev pub small : List (List Lit)
small = (lit_to 0 true ∷ lit_to 9 false ∷ []) ∷ [] ∷ []

pub spelled : dimacs_of 10 small ≡ codes "p cnf 10 2\n1 -10 0\n0\n"
unfolding dimacs_of clause_line digits
spelled = refl

pub again : parse_formula (codes "p cnf 10 2\n1 -10 0\n0\n") ≡ Some (10, small)
unfolding parse_formula after_comments counted_in clauses_from signed_in words_from
again = refl

-- lines mean nothing, as to a solver
pub in_other_lines : parse_formula (codes "p cnf 10 2 1\n-10 0 0") ≡ Some (10, small)
unfolding parse_formula after_comments counted_in clauses_from signed_in words_from
in_other_lines = refl

-- comments stand before the header line
pub behind_comments : parse_formula (codes "c p cnf\nc\np cnf 10 2\n1 -10 0\n0\n") ≡ Some (10, small)
unfolding parse_formula after_comments counted_in clauses_from signed_in words_from
behind_comments = refl

-- and the header line is none of them
pub within_a_comment : parse_formula (codes "c p cnf 10 2\n1 -10 0\n0\n") ≡ None
unfolding parse_formula after_comments counted_in clauses_from signed_in words_from
within_a_comment = refl

-- a clause without its 0, a variable past the count, and a clause too many
pub without_0 : parse_formula (codes "p cnf 10 1\n1 -10\n") ≡ None
unfolding parse_formula after_comments counted_in clauses_from signed_in words_from
without_0 = refl

pub past_the_count : parse_formula (codes "p cnf 9 1\n1 -10 0\n") ≡ None
unfolding parse_formula after_comments counted_in clauses_from signed_in words_from
past_the_count = refl

pub one_too_many : parse_formula (codes "p cnf 10 1\n1 -10 0 0\n") ≡ None
unfolding parse_formula after_comments counted_in clauses_from signed_in words_from
one_too_many = refl

-- no clause, and no variable but 0, which is false
pub no_clause : dimacs_of 1 [] ≡ codes "p cnf 1 0\n"
unfolding dimacs_of clause_line digits
no_clause = refl

pub no_clause_again : parse_formula (codes "p cnf 1 0\n") ≡ Some (1, [])
unfolding parse_formula after_comments counted_in clauses_from signed_in words_from
no_clause_again = refl

pub only_0 : dimacs_of 1 ((lit_to 0 false ∷ []) ∷ []) ≡ codes "p cnf 1 1\n-1 0\n"
unfolding dimacs_of clause_line digits
only_0 = refl
