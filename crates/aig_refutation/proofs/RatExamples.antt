-- What the definitions say of small refutations with RAT steps: some hold, and wrong ones don't.
use Rattle.aig_base.proofs.Words.{◌≡◌, ℕ, Bool, true, false, List, [], ◌∷◌, refl}
use Rattle.aig_base.specs.declared.logic.literal.Lit.{Lit}
use Rattle.aig_base.specs.Clauses.{lit_to}
use Rattle.aig_refutation.specs.Rat.{is_rat, is_rat_refutation}
use Rattle.aig_refutation.specs.Steps.{Adds, Deletes, numbered, without}

-- a variable, and its inverse
abbrev plain : ℕ → Lit
plain n = lit_to n true

abbrev inverted : ℕ → Lit
inverted n = lit_to n false

-- the number of a clause for which hints follow, and a hint
abbrev for : ℕ → Bool × ℕ
for n = (false, n)

abbrev hint : ℕ → Bool × ℕ
hint n = (true, n)

-- all four clauses of two variables
abbrev four : List (List Lit)
four =
    (plain 0 ∷ plain 1 ∷ [])
    ∷ (plain 0 ∷ inverted 1 ∷ [])
    ∷ (inverted 0 ∷ plain 1 ∷ [])
    ∷ (inverted 0 ∷ inverted 1 ∷ [])
    ∷ []

-- a variable that stands nowhere: no clause has the inverse of its literal
blocked : is_rat (numbered 1 four) (plain 2 ∷ plain 0 ∷ []) [] [] ≡ true
blocked = refl

-- the pivot is the first literal: two clauses have this one's inverse
pivot_second : is_rat (numbered 1 four) (plain 0 ∷ plain 2 ∷ []) [] [] ≡ false
pivot_second = refl

-- what follows of the clause and each of the two does so along the hints for its number
groups : is_rat (numbered 1 four) (plain 0 ∷ plain 2 ∷ []) []
    (for 3 ∷ hint 1 ∷ for 4 ∷ hint 2 ∷ []) ≡ true
groups = refl

-- a clause that has the inverse is passed over, or its hints are those of another
group_left_out : is_rat (numbered 1 four) (plain 0 ∷ plain 2 ∷ []) [] (for 3 ∷ hint 1 ∷ [])
    ≡ false
group_left_out = refl

exchanged : is_rat (numbered 1 four) (plain 0 ∷ plain 2 ∷ []) []
    (for 3 ∷ hint 2 ∷ for 4 ∷ hint 1 ∷ []) ≡ false
exchanged = refl

-- a clause that was deleted isn't looked at
deleted : is_rat (without (4 ∷ []) (numbered 1 four)) (plain 0 ∷ plain 2 ∷ []) []
    (for 3 ∷ hint 1 ∷ []) ≡ true
deleted = refl

-- a variable that stands for the and of two, and then the refutation
defined : is_rat_refutation four
    (Adds 5 (plain 2 ∷ inverted 0 ∷ inverted 1 ∷ []) [] []
    ∷ Adds 6 (inverted 2 ∷ plain 0 ∷ []) [] []
    ∷ Adds 7 (inverted 2 ∷ plain 1 ∷ []) [] []
    ∷ Adds 8 (plain 0 ∷ []) (1 ∷ 2 ∷ []) []
    ∷ Deletes (1 ∷ 2 ∷ [])
    ∷ Adds 9 [] (8 ∷ 3 ∷ 4 ∷ []) []
    ∷ []) ≡ true
defined = refl

-- the empty clause has no first literal
empty : is_rat_refutation four (Adds 5 [] [] [] ∷ []) ≡ false
empty = refl
