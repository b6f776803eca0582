-- What texts of solvers say of four variables, by hand, and what refuses others.
use Rattle.aig_base.proofs.Words.{◌≡◌, List, [], ◌∷◌, Ok, Err, refl, codes}
use Rattle.std.specs.Fmt.{digits}
use Rattle.aig_base.specs.declared.logic.three.Lbool.{Lbool}
use Rattle.aig_base.specs.declared.logic.three.Lbool.TheVariants.{FALSE, TRUE, NONE}
use Rattle.aig_witness.specs.declared.solutions.error.SolutionError.TheVariants as errors
use Rattle.aig_lexer.specs.Digits.{number_after}
use Rattle.aig_witness.specs.SolverAnswers.{last_answer, lines_after, solution_from, solution_in, take_words, words_from}
use Rattle.aig_witness.specs.Written.{rows_text, solution_text}

-- 2 alone is true
abbrev second : List Lbool
second = FALSE ∷ TRUE ∷ FALSE ∷ FALSE ∷ []

printed : solution_in 4 (codes "c a solver\ns SATISFIABLE\nv -1 2\nv -3 -4 0\n") ≡ Ok second
unfolding solution_from take_words number_after words_from lines_after
printed = refl

-- the values come first, and the stream ends the answer; what follows both is not read
in_other_order : solution_in 4 (codes "v -1 2 -3 -4 0\n\ns  SATISFIABLE ") ≡ Ok second
unfolding solution_from take_words number_after words_from lines_after last_answer
in_other_order = refl

rest_unread : solution_in 4 (codes "s SATISFIABLE\nv -1 2 -3 -4 0 5\nv x\n") ≡ Ok second
unfolding solution_from take_words number_after words_from lines_after
rest_unread = refl

-- nothing is said of 4
unknown : solution_in 4 (codes "s SATISFIABLE\nv -1 2 -3 0\n") ≡ Ok (FALSE ∷ TRUE ∷ FALSE ∷ NONE ∷ [])
unfolding solution_from take_words number_after words_from lines_after
unknown = refl

-- other answers, another name, and another line before an answer
other_answers : (solution_in 4 (codes "s UNSATISFIABLE\n") ≡ Err errors.Unsatisfiable)
    × (solution_in 4 (codes "s UNKNOWN") ≡ Err errors.Unknown)
    × (solution_in 4 (codes "s SATISFIABLE2\n") ≡ Err errors.Answer)
    × (solution_in 4 (codes "v -1 0\n-1 0\n") ≡ Err errors.Answer)
unfolding solution_from take_words number_after words_from lines_after last_answer
other_answers = (refl, refl, refl, refl)

-- a literal's inverse, one of no variable, no literal, an inverted 0, no 0, and a longer `v`
other_values : (solution_in 4 (codes "v 1 -1 0\n") ≡ Err errors.Clash)
    × (solution_in 4 (codes "v 5 0\n") ≡ Err errors.Variable)
    × (solution_in 4 (codes "v 2a 0\n") ≡ Err errors.Literal)
    × (solution_in 4 (codes "v -0\n") ≡ Err errors.Literal)
    × (solution_in 4 (codes "s SATISFIABLE\nv 1 2\n") ≡ Err errors.Unfinished)
    × (solution_in 4 (codes "s SATISFIABLE\nv1 0\n") ≡ Err errors.Line)
unfolding solution_from take_words number_after words_from lines_after
other_values = (refl, refl, refl, refl, refl, refl)

-- ---- as it is written

written : solution_text ((FALSE ∷ TRUE ∷ []) ∷ [] ∷ (NONE ∷ FALSE ∷ []) ∷ [])
    ≡ codes "s SATISFIABLE\nv -1 2\nv\nv -4\nv 0\n"
unfolding solution_text rows_text digits
written = refl

-- variables by their own numbers, and no space after the letter
unshifted : solution_in 4 (codes "s SATISFIABLE\nv -0 1 -3\nv 0\n") ≡ Err errors.Literal
unfolding solution_from take_words number_after words_from lines_after
unshifted = refl

together : solution_in 4 (codes "s SATISFIABLE\nv-1 2\nv 0\n") ≡ Err errors.Line
unfolding solution_from take_words number_after words_from lines_after
together = refl
