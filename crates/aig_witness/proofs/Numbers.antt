-- Numbers of words, as literals.
use Rattle.aig_base.proofs.Words.{◌≡◌, ◌≢◌, ℕ, true, false, List, ◌∷◌, Some, None, Ok, Err, ap, ne_eqb}
use Rattle.std.specs.Option.{option_map_or}
use Rattle.aig_lexer.specs.Digits.{number_after}
use Rattle.aig_witness.specs.declared.solutions.error.SolutionError.TheVariants as errors
use Rattle.aig_witness.specs.SolverAnswers.{literal_in}

pub literal_plain : (first : ℕ) (taken : List ℕ) (n : ℕ) → first ≢ 45
    → number_after 0 (first ∷ taken) ≡ Some n → literal_in (first ∷ taken) ≡ Ok (true, n)
literal_plain first taken n ne is = rw (ne_eqb first 45 ne)
    (ap (λ o. option_map_or (λ n. Ok n) (option_map_or (λ n. Some (true, n)) o None)
    (Err errors.Literal)) is)

pub literal_minus : (first : ℕ) (taken : List ℕ) (n : ℕ) → number_after 0 (first ∷ taken) ≡ Some n
    → literal_in (45 ∷ first ∷ taken) ≡ Ok (false, n)
literal_minus first taken n is = ap (λ o. option_map_or (λ n. Ok n)
    (option_map_or (λ n. Some (false, n)) o None) (Err errors.Literal)) is

pub literal_none : (first : ℕ) (taken : List ℕ) → first ≢ 45 → number_after 0 (first ∷ taken) ≡ None
    → literal_in (first ∷ taken) ≡ Err errors.Literal
literal_none first taken ne is = rw (ne_eqb first 45 ne)
    (ap (λ o. option_map_or (λ n. Ok n) (option_map_or (λ n. Some (true, n)) o None)
    (Err errors.Literal)) is)

pub literal_minus_none : (first : ℕ) (taken : List ℕ) → number_after 0 (first ∷ taken) ≡ None
    → literal_in (45 ∷ first ∷ taken) ≡ Err errors.Literal
literal_minus_none first taken is = ap (λ o. option_map_or (λ n. Ok n)
    (option_map_or (λ n. Some (false, n)) o None) (Err errors.Literal)) is
