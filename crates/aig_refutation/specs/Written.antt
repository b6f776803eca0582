-- Part of what laws say, and of no promise of a call.
-- The texts of proofs, as solvers write them. (LRAT: Cruz-Filipe, Heule, Hunt, Kaufmann and
-- Schneider-Kamp, 2017. DRAT: Wetzler, Heule and Hunt, 2014.)
use Rattle.std.specs.Prelude.{◌≡◌, ℕ, ◌+◌, ◌-◌, ◌*◌, ◌^◌, ◌<◌, Bool, true, false, if◌then◌else◌, List, [], ◌∷◌, ◌++◌, Ok, All, codes, decimal}
use Rattle.std.specs.List.{flat_map}
use Rattle.aig_base.specs.declared.logic.literal.Lit.{Lit}
use Rattle.aig_base.specs.Clauses.{is_positive, variable_of}
use Rattle.aig_format.specs.Written.{delta_of}
use Rattle.aig_refutation.specs.Checking.{Live, are_named, deleted, is_too_large, is_used, with_clause}
use Rattle.aig_refutation.specs.Proofs.{hints_at, widened}
use Rattle.aig_refutation.specs.Steps.{Step, Adds, Deletes, PlainStep, Drops, Learns}

-- ---- what a text can say

-- a number that a clause can have in a text
abbrev pub IsNumber : ℕ → Type 0
IsNumber n = (0 < n) × (n < 2 ^ 32)

-- a clause of so many variables
abbrev pub IsClause : ℕ → List Lit → Type 0
IsClause variables clause = All (λ lit. variable_of lit < variables) clause

-- numbers that stand behind hints: the first has a minus, if there is one
abbrev pub AreGroups : List (Bool × ℕ) → Type 0
AreGroups groups = All (λ hint. IsNumber hint.1) groups × (hints_at groups ≡ [])

-- a step over so many variables that a text can say
abbrev pub IsWrittenStep : ℕ → Step → Type 0
IsWrittenStep variables (Adds number clause hints groups) =
    IsNumber number × IsClause variables clause × All IsNumber hints × AreGroups groups
IsWrittenStep variables (Deletes numbers) = All IsNumber numbers

-- a step without a number
abbrev pub IsPlainStep : ℕ → PlainStep → Type 0
IsPlainStep variables (Learns clause) = IsClause variables clause
IsPlainStep variables (Drops clause) = IsClause variables clause

-- steps each of which may name one variable more than the one before, and the first so many
abbrev pub AreWithin : {S : Type 0} → (ℕ → S → Type 0) → ℕ → List S → Type 0
AreWithin is variables [] = Unit {0}
AreWithin is variables (step ∷ steps) = is variables step × AreWithin is (widened variables) steps

-- the numbers of steps are in order: hints and deletions name clauses that are there, and that of a
-- clause is a new one that doesn't skip too many
abbrev pub AreInOrder : Live → List Step → Type 0
AreInOrder live [] = Unit {0}
AreInOrder live (Adds number clause hints groups ∷ steps) =
    (are_named live hints groups ≡ true)
    × (is_used live number ≡ false)
    × (is_too_large live number ≡ false)
    × AreInOrder (with_clause live number clause) steps
AreInOrder live (Deletes numbers ∷ steps) =
    (next : Live) × (deleted live numbers ≡ Ok next) × AreInOrder next steps

-- ---- words

-- a number, and a space
abbrev pub number_text : ℕ → List ℕ
number_text n = decimal n ++ 32 ∷ []

-- a number, after a minus or not, and a space
abbrev pub signed_text : Bool × ℕ → List ℕ
signed_text n = (if n.0 then [] else codes "-") ++ number_text n.1

-- a literal: its variable's number and one more, after a minus where it is inverted
abbrev pub literal_text : Lit → List ℕ
literal_text lit = signed_text (is_positive lit, variable_of lit + 1)

-- ---- LRAT

-- a line that adds a clause: its number, its literals and a 0, its hints, those for other clauses
-- and a 0
abbrev pub added_line : ℕ → List Lit → List ℕ → List (Bool × ℕ) → List ℕ
added_line number clause hints groups =
    number_text number ++ flat_map literal_text clause ++ codes "0 " ++ flat_map number_text hints
    ++ flat_map signed_text groups ++ codes "0\n"

-- a line that deletes clauses: a number, a `d`, the clauses' numbers and a 0
abbrev pub deleted_line : ℕ → List ℕ → List ℕ
deleted_line number numbers =
    number_text number ++ codes "d " ++ flat_map number_text numbers ++ codes "0\n"

-- the lines of steps; one that deletes clauses has the number of the last clause before it, here
-- `last`
unfoldable pub proof_text : ℕ → List Step → List ℕ
proof_text last [] = []
proof_text last (Adds number clause hints groups ∷ steps) =
    added_line number clause hints groups ++ proof_text number steps
proof_text last (Deletes numbers ∷ steps) = deleted_line last numbers ++ proof_text last steps

-- ---- DRAT

-- a line of a clause: its literals and a 0
abbrev pub clause_line : List Lit → List ℕ
clause_line clause = flat_map literal_text clause ++ codes "0\n"

-- a line of a step: a clause that is added, or one that is dropped after a `d`
abbrev pub plain_line : PlainStep → List ℕ
plain_line (Learns clause) = clause_line clause
plain_line (Drops clause) = codes "d " ++ clause_line clause

-- the lines of steps
abbrev pub plain_text : List PlainStep → List ℕ
plain_text steps = flat_map plain_line steps

-- a step as it is read of its line: the first literal of a clause that is added comes last
abbrev pub as_read : PlainStep → PlainStep
as_read (Learns []) = Learns []
as_read (Learns (lit ∷ lits)) = Learns (lits ++ lit ∷ [])
as_read (Drops clause) = Drops clause

-- ---- binary DRAT

-- a literal: twice one more than its variable's number, and one more where it is inverted, in
-- groups of seven bits
abbrev pub literal_bytes : Lit → List ℕ
literal_bytes lit = delta_of (2 * (variable_of lit + 1) + (if is_positive lit then 0 else 1))

-- a step: a letter, the literals of its clause, and a 0
abbrev pub step_bytes : PlainStep → List ℕ
step_bytes (Learns clause) = 97 ∷ flat_map literal_bytes clause ++ 0 ∷ []
step_bytes (Drops clause) = 100 ∷ flat_map literal_bytes clause ++ 0 ∷ []

-- the bytes of steps
abbrev pub binary_text : List PlainStep → List ℕ
binary_text steps = flat_map step_bytes steps

-- ---- binary LRAT

-- a number of a hint is below 2^31, and a literal's below 2^32
abbrev pub IsBinaryStep : Step → Type 0
IsBinaryStep (Adds number clause hints groups) =
    IsClause (2 ^ 31 - 1) clause × All (λ n. n < 2 ^ 31) hints
    × All (λ hint. hint.1 < 2 ^ 31) groups
IsBinaryStep (Deletes numbers) = All (λ n. n < 2 ^ 31) numbers

-- a hint: twice its number, and one more where it has a minus, in groups of seven bits
abbrev pub hint_bytes : Bool × ℕ → List ℕ
hint_bytes n = delta_of (2 * n.1 + (if n.0 then 0 else 1))

-- a number without a minus
abbrev pub number_bytes : ℕ → List ℕ
number_bytes n = hint_bytes (true, n)

-- a step: a letter, and the number of its clause, its literals and a 0, its hints, those for other
-- clauses and a 0; or the clauses' numbers and a 0
abbrev pub numbered_bytes : Step → List ℕ
numbered_bytes (Adds number clause hints groups) =
    97 ∷ delta_of number ++ flat_map literal_bytes clause ++ (0 ∷ flat_map number_bytes hints
    ++ flat_map hint_bytes groups ++ (0 ∷ []))
numbered_bytes (Deletes numbers) = 100 ∷ flat_map number_bytes numbers ++ 0 ∷ []

-- the bytes of steps
abbrev pub numbered_text : List Step → List ℕ
numbered_text steps = flat_map numbered_bytes steps

-- the same behind the word that tells of them
abbrev pub worded_text : List Step → List ℕ
worded_text steps = codes "lrat" ++ numbered_text steps
