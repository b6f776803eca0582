-- What the definitions say of small proofs: some follow, and wrong ones are refused.
use Rattle.std.proofs.Common.{◌≡◌, ℕ, true, false, inl, inr, List, [], ◌∷◌, ◌++◌, Option, None, Some, Ok, Err, slice_get, refl, subst, arith}
use Rattle.std.specs.Fmt.{digits}
use Rattle.std.specs.Prelude.{codes}
use Rattle.aig_base.specs.declared.logic.literal.Lit.{Lit}
use Rattle.aig_base.specs.Clauses.{lit_to}
use Rattle.aig_refutation.specs.declared.error.RefutationError.TheVariants as errors
use Rattle.aig_refutation.specs.declared.error.RefutationError.{RefutationError}
use Rattle.aig_refutation.specs.Checking.{IsInConflict, IsPlainOutcome, Shows}
use Rattle.aig_format.specs.Parse.{parse_groups}
use Rattle.aig_format.specs.Written.{delta_of}
use Rattle.aig_refutation.specs.Binary.{binary_script, binary_steps_in, groups_in}
use Rattle.aig_refutation.specs.Forms.{are_steps, is_binary, plain_steps_in, steps_in}
use Rattle.aig_refutation.specs.Proofs.{Script, after_clause, after_first, after_number, after_word, clause_from, clause_in, ended, line_in, numbers_from, numbers_in, plain_of, script_if, script_of}
use Rattle.aig_refutation.specs.Propagation.{is_rup}
use Rattle.aig_refutation.specs.Steps.{Adds, Deletes, Drops, Learns, PlainStep, Refute, Step, is_refutation, without_one}
use Rattle.aig_refutation.specs.Text.{digits_after, letter_before, lines_after, number_in, word_at, word_in, words_after, words_of}
use Rattle.aig_refutation.specs.Written.{binary_text, plain_text, proof_text}
use Rattle.aig_refutation.proofs.Plainly.{refutation_taken}

-- a variable, and its inverse
abbrev plain : ℕ → Lit
plain n = lit_to n true

abbrev inverted : ℕ → Lit
inverted n = lit_to n false

-- all four clauses of two variables, which no assignment makes true
abbrev four : List (List Lit)
four =
    (plain 0 ∷ plain 1 ∷ [])
    ∷ (plain 0 ∷ inverted 1 ∷ [])
    ∷ (inverted 0 ∷ plain 1 ∷ [])
    ∷ (inverted 0 ∷ inverted 1 ∷ [])
    ∷ []

-- where the first variable is false, the first clause gives the second one, and the second clause is in conflict
follows : is_rup (slice_get four) (plain 0 ∷ []) (0 ∷ 1 ∷ []) ≡ true
follows = refl

-- the inverse doesn't follow along these hints
wrong_literal : is_rup (slice_get four) (inverted 0 ∷ []) (0 ∷ 1 ∷ []) ≡ false
wrong_literal = refl

-- the literals of the clause are assumed to be false: were they true, this would be a conflict
assumed_false : is_rup (slice_get ((inverted 0 ∷ []) ∷ [])) (plain 0 ∷ []) (0 ∷ []) ≡ false
assumed_false = refl

missing_hint : is_rup (slice_get four) (plain 0 ∷ []) (0 ∷ []) ≡ false
missing_hint = refl

no_hints : is_rup (slice_get four) (plain 0 ∷ []) [] ≡ false
no_hints = refl

-- a hint past the clauses
no_clause : is_rup (slice_get four) (plain 0 ∷ []) (4 ∷ 0 ∷ 1 ∷ []) ≡ false
no_clause = refl

-- a clause of several open literals says nothing
open_clause : is_rup (slice_get four) [] (0 ∷ 1 ∷ 2 ∷ 3 ∷ []) ≡ false
open_clause = refl

-- a literal that comes twice is one
same_twice : is_rup (slice_get ((plain 0 ∷ plain 0 ∷ []) ∷ [])) (plain 0 ∷ []) (0 ∷ []) ≡ true
same_twice = refl

-- a variable that stands nowhere: the clause can be added by resolution asymmetry, and doesn't follow
new_variable : is_rup (slice_get four) (plain 2 ∷ []) (0 ∷ 1 ∷ 2 ∷ 3 ∷ []) ≡ false
new_variable = refl

refutes_four : is_refutation four (Adds 5 (plain 0 ∷ []) (1 ∷ 2 ∷ []) [] ∷ Adds 6 [] (5 ∷ 3 ∷ 4 ∷ []) [] ∷ []) ≡ true
refutes_four = refl

-- the first step's clause is needed
step_left_out : is_refutation four (Adds 6 [] (5 ∷ 3 ∷ 4 ∷ []) [] ∷ []) ≡ false
step_left_out = refl

-- a clause that was deleted names nothing
deleted_hint : is_refutation four (Deletes (2 ∷ []) ∷ Adds 5 (plain 0 ∷ []) (1 ∷ 2 ∷ []) [] ∷ Adds 6 [] (5 ∷ 3 ∷ 4 ∷ []) [] ∷ []) ≡ false
deleted_hint = refl

-- the empty clause isn't reached
unfinished : is_refutation four (Adds 5 (plain 0 ∷ []) (1 ∷ 2 ∷ []) [] ∷ []) ≡ false
unfinished = refl

no_steps : is_refutation four [] ≡ false
no_steps = refl

-- ---- steps without numbers

-- `1 0` and `0`, in two lines
abbrev text_of_four : List ℕ
text_of_four = 49 ∷ 32 ∷ 48 ∷ 10 ∷ 48 ∷ 10 ∷ []

two_steps : plain_steps_in 2 text_of_four ≡ record {
  steps = Learns (plain 0 ∷ []) ∷ Learns [] ∷ [];
  fault = errors.Unfinished;
}
unfolding plain_of words_of words_after word_at lines_after line_in word_in number_in digits_after after_first after_number after_word clause_from after_clause
two_steps = refl

refute_four : Refute four (Learns (plain 0 ∷ []) ∷ Learns [] ∷ [])
refute_four = (
  (inr (0 ∷ 1 ∷ [], refl), inr (inr (0 ∷ 3 ∷ 4 ∷ [], refl), inl refl)),
  refl,
)

-- so the text isn't refused, for whatever reason
not_refused : (e : RefutationError) → IsPlainOutcome four (plain_steps_in 2 text_of_four) (Err e) → ⊥
not_refused e wrong =
    refutation_taken four (Learns (plain 0 ∷ []) ∷ Learns [] ∷ []) errors.Unfinished e
    (subst (λ (script : Script PlainStep). IsPlainOutcome four script (Err e)) two_steps wrong)
    refute_four

-- ---- binary proofs

-- the same steps
abbrev binary_of_four : List ℕ
binary_of_four = 97 ∷ 2 ∷ 0 ∷ 97 ∷ 0 ∷ []

binary_steps : plain_steps_in 2 binary_of_four ≡ record {
  steps = Learns (plain 0 ∷ []) ∷ Learns [] ∷ [];
  fault = errors.Unfinished;
}
unfolding groups_in binary_script parse_groups
binary_steps = refl

no_lrat : steps_in 2 binary_of_four ≡ None
unfolding groups_in are_steps
no_lrat = refl

-- `d -63 -8193 0` and `129 -8191 0`, as drat-trim's description writes them
abbrev described : List ℕ
described = 100 ∷ 127 ∷ 131 ∷ 128 ∷ 1 ∷ 0 ∷ 97 ∷ 130 ∷ 2 ∷ 255 ∷ 127 ∷ 0 ∷ []

from_description : binary_steps_in 8193 described ≡ record {
  steps =
      Drops (inverted 62 ∷ inverted 8192 ∷ [])
      ∷ Learns (plain 128 ∷ inverted 8190 ∷ [])
      ∷ [];
  fault = errors.Unfinished;
}
unfolding groups_in binary_script parse_groups
from_description = refl

-- a literal past the variables
no_literal : binary_steps_in 1 (97 ∷ 4 ∷ 0 ∷ []) ≡ record { steps = []; fault = errors.Literal }
unfolding groups_in binary_script parse_groups
no_literal = refl

-- the second step may name one variable more than the first
second_step : binary_steps_in 1 (97 ∷ 2 ∷ 0 ∷ 97 ∷ 4 ∷ 0 ∷ 97 ∷ 8 ∷ 0 ∷ []) ≡ record {
  steps = Learns (plain 0 ∷ []) ∷ Learns (plain 1 ∷ []) ∷ [];
  fault = errors.Literal;
}
unfolding groups_in binary_script parse_groups
second_step = refl

-- 1 is no literal
no_number : binary_steps_in 1 (97 ∷ 1 ∷ 0 ∷ []) ≡ record { steps = []; fault = errors.Binary }
unfolding groups_in binary_script parse_groups
no_number = refl

-- bytes that end in a clause, in a number, and after a step
cut_in_a_clause : binary_steps_in 1 (97 ∷ 2 ∷ []) ≡ record { steps = []; fault = errors.Binary }
unfolding groups_in binary_script parse_groups
cut_in_a_clause = refl

cut_in_a_number : binary_steps_in 1 (97 ∷ 130 ∷ []) ≡ record { steps = []; fault = errors.Binary }
unfolding groups_in binary_script parse_groups
cut_in_a_number = refl

cut_after_a_step : binary_steps_in 1 (97 ∷ 2 ∷ 0 ∷ []) ≡ record {
  steps = Learns (plain 0 ∷ []) ∷ [];
  fault = errors.Unfinished;
}
unfolding groups_in binary_script parse_groups
cut_after_a_step = refl

-- a letter that is none, where a step should begin
no_letter : binary_steps_in 1 (97 ∷ 2 ∷ 0 ∷ 98 ∷ 0 ∷ []) ≡ record {
  steps = Learns (plain 0 ∷ []) ∷ [];
  fault = errors.Binary;
}
unfolding groups_in binary_script parse_groups
no_letter = refl

-- a number of six groups, and one that is 2^32
too_long : binary_steps_in 1 (97 ∷ 130 ∷ 128 ∷ 128 ∷ 128 ∷ 128 ∷ 0 ∷ 0 ∷ [])
    ≡ record { steps = []; fault = errors.Binary }
unfolding groups_in binary_script parse_groups
too_long = refl

too_large : binary_steps_in 1 (97 ∷ 128 ∷ 128 ∷ 128 ∷ 128 ∷ 16 ∷ 0 ∷ [])
    ≡ record { steps = []; fault = errors.Binary }
unfolding groups_in binary_script parse_groups
too_large = refl

-- an `a` at the front
adds_first : is_binary (97 ∷ 0 ∷ []) ≡ true
adds_first = refl

-- a `d` and a byte 0, as no text has one
deletes_first : is_binary (100 ∷ 32 ∷ 0 ∷ []) ≡ true
deletes_first = refl

-- `d 1 0`
text_deletes_first : is_binary (100 ∷ 32 ∷ 49 ∷ 32 ∷ 48 ∷ 10 ∷ []) ≡ false
text_deletes_first = refl

-- other bytes, whatever follows
text_first : is_binary text_of_four ≡ false
text_first = refl

blank_first : is_binary (32 ∷ 97 ∷ 0 ∷ []) ≡ false
blank_first = refl

nothing_first : is_binary [] ≡ false
nothing_first = refl

-- ---- clauses that are dropped

-- of two clauses of the same literals one is dropped
dropped_once : without_one (plain 1 ∷ plain 0 ∷ plain 0 ∷ []) (four ++ four)
    ≡ (plain 0 ∷ inverted 1 ∷ [])
    ∷ (inverted 0 ∷ plain 1 ∷ [])
    ∷ (inverted 0 ∷ inverted 1 ∷ [])
    ∷ four
dropped_once = refl

-- and none where there is none of these literals
dropped_none : without_one (plain 0 ∷ []) four ≡ four
dropped_none = refl

-- ---- which results are shown

-- a literal alone, and its inverse alone after another clause
abbrev apart : List (List Lit)
apart = (plain 0 ∷ []) ∷ (plain 0 ∷ plain 1 ∷ []) ∷ (inverted 0 ∷ []) ∷ []

apart_in_conflict : IsInConflict apart
apart_in_conflict = inr (plain 0, (0, omega arith, refl), (2, omega arith, refl))

module _ (text : Option (List ℕ)) where
  taken_at_once : Shows 2 apart text (Ok tt)
  taken_at_once = record {
    no_variable = λ out. cc;
    in_conflict = λ _ _. refl;
    by_steps = λ _ none. absurd (none apart_in_conflict);
    by_propagation = λ _ none. absurd (none apart_in_conflict);
  }

  -- clauses in conflict at once aren't refused
  refused_at_once : Shows 2 apart text (Err errors.Step) → ⊥
  refused_at_once shows = let wrong = shows.in_conflict refl apart_in_conflict in cc

  refused_empty : Shows 2 ([] ∷ []) text (Err errors.Unfinished) → ⊥
  refused_empty shows = let wrong = shows.in_conflict refl (inl (0, omega arith, refl)) in cc

  -- a literal without a variable isn't passed over
  out_taken : Shows 1 apart text (Ok tt) → ⊥
  out_taken shows = let wrong = shows.no_variable refl in cc

  -- and where each has one, none is said to have none
  out_at_will : Shows 2 apart text (Err errors.Variable) → ⊥
  out_at_will shows = let wrong = shows.in_conflict refl apart_in_conflict in cc

-- ---- texts that are written

abbrev three_steps : List Step
three_steps =
    Adds 5 (plain 0 ∷ []) (1 ∷ 2 ∷ []) []
    ∷ Deletes (1 ∷ 2 ∷ [])
    ∷ Adds 6 [] (5 ∷ 3 ∷ 4 ∷ []) []
    ∷ []

written : proof_text 4 three_steps ≡ codes "5 1 0 1 2 0\n5 d 1 2 0\n6 0 5 3 4 0\n"
unfolding proof_text digits
written = refl

-- a literal without the one that is added to its variable, and hints before literals: no step, or another one
unshifted : steps_in 2 (codes "5 0 0 1 2 0\n") ≡ Some (record { steps = []; fault = errors.Line })
unfolding script_if script_of words_of words_after word_at lines_after line_in word_in number_in digits_after after_first after_number after_word clause_from clause_in after_clause numbers_from ended
unshifted = refl

hints_first : steps_in 2 (codes "5 1 2 0 1 0\n") ≡ Some (record {
  steps = Adds 5 (plain 0 ∷ plain 1 ∷ []) (1 ∷ []) [] ∷ [];
  fault = errors.Unfinished;
})
unfolding script_if script_of words_of words_after word_at lines_after line_in word_in number_in digits_after after_first after_number after_word clause_from clause_in after_clause numbers_from numbers_in ended
hints_first = refl

-- in DRAT, and in binary the bytes of the description above
written_plain : plain_text (Learns (plain 0 ∷ inverted 1 ∷ []) ∷ Drops (plain 0 ∷ []) ∷ Learns [] ∷ []) ≡ codes "1 -2 0\nd 1 0\n0\n"
unfolding digits
written_plain = refl

written_binary : binary_text (Drops (inverted 62 ∷ inverted 8192 ∷ []) ∷ Learns (plain 128 ∷ inverted 8190 ∷ []) ∷ []) ≡ described
unfolding delta_of
written_binary = refl

-- variables by their own numbers, and the two kinds of literals exchanged: other literals are read
unshifted_binary : binary_steps_in 2 (97 ∷ 2 ∷ 0 ∷ []) ≡ record {
  steps = Learns (plain 0 ∷ []) ∷ [];
  fault = errors.Unfinished;
}
unfolding groups_in binary_script parse_groups
unshifted_binary = refl

exchanged_binary : binary_steps_in 2 (97 ∷ 3 ∷ 0 ∷ []) ≡ record {
  steps = Learns (inverted 0 ∷ []) ∷ [];
  fault = errors.Unfinished;
}
unfolding groups_in binary_script parse_groups
exchanged_binary = refl

-- ---- new variables

-- the last one that the first step may name, where the clauses have two
last_new : steps_in 2 (codes "5 65538 0 0\n") ≡ Some (record {
  steps = Adds 5 (plain 65537 ∷ []) [] [] ∷ [];
  fault = errors.Unfinished;
})
unfolding script_if script_of words_of words_after word_at lines_after line_in word_in number_in digits_after after_first after_number after_word clause_from clause_in after_clause numbers_from ended
last_new = refl

past_new : steps_in 2 (codes "5 -65539 0 0\n") ≡ Some (record { steps = []; fault = errors.Literal })
unfolding script_if script_of words_of words_after word_at lines_after line_in word_in number_in digits_after after_first after_number after_word clause_from clause_in after_clause numbers_from ended
past_new = refl

-- and the second one, after a deletion
second_new : steps_in 2 (codes "5 d 1 0\n5 65539 0 0\n6 65541 0 0\n") ≡ Some (record {
  steps = Deletes (1 ∷ []) ∷ Adds 5 (plain 65538 ∷ []) [] [] ∷ [];
  fault = errors.Literal;
})
unfolding script_if script_of words_of words_after word_at lines_after line_in word_in number_in digits_after after_first after_number after_word clause_from clause_in after_clause numbers_from numbers_in ended letter_before
second_new = refl

plain_new : plain_steps_in 2 (codes "1 0\n65539 0\n65541 0\n") ≡ record {
  steps = Learns (plain 0 ∷ []) ∷ Learns (plain 65538 ∷ []) ∷ [];
  fault = errors.Literal;
}
unfolding plain_of words_of words_after word_at lines_after line_in word_in number_in digits_after after_first after_number after_word clause_from after_clause
plain_new = refl
