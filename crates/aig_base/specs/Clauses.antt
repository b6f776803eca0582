-- Part of what is promised.
-- Variables, literals and clauses.
use Rattle.std.specs.Prelude.{◌≡◌, ℕ, ◌+◌, ◌*◌, ◌/◌, ◌%◌, ◌^◌, ◌<◌, ◌≤◌, ◌==◌, Bool, true, false, not, if◌then◌else◌, List, [], ◌∷◌, ◌++◌, length, map, IsTrue, All}
use Rattle.std.specs.List.{list_any, list_all, sum_by}
use Rattle.aig_base.specs.declared.logic.literal.Var.{Var}
use Rattle.aig_base.specs.declared.logic.literal.Lit.{Lit}

-- the variable of this number
abbrev pub var_of : ℕ → Var
var_of n = n

-- a variable's number
abbrev pub var_number : Var → ℕ
var_number var = var

-- the literal of variable n, inverted where the polarity is false
abbrev pub lit_to : ℕ → Bool → Lit
lit_to n polarity = record { code = 2 * n + (if polarity then 0 else 1) }

-- a literal's variable, by its number
abbrev pub variable_of : Lit → ℕ
variable_of lit = lit.code / 2

-- whether a literal is not inverted
abbrev pub is_positive : Lit → Bool
is_positive lit = lit.code % 2 == 0

-- a literal's number: twice its variable's, and one more where it is inverted
abbrev pub number_of_lit : Lit → ℕ
number_of_lit lit = lit.code

-- the inverse of a literal
abbrev pub inverse_lit : Lit → Lit
inverse_lit lit = lit_to (variable_of lit) (not (is_positive lit))

-- a truth value, inverted where the polarity is false
abbrev pub with_polarity : Bool → Bool → Bool
with_polarity true value = value
with_polarity false value = not value

-- a literal's value under an assignment of truth values to variables
unfoldable pub literal_value : (ℕ → Bool) → Lit → Bool
literal_value v lit = with_polarity (is_positive lit) (v (variable_of lit))

-- some literal of the clause is true
abbrev pub is_true_clause : (ℕ → Bool) → List Lit → Bool
is_true_clause v clause = list_any (literal_value v) clause

-- every clause is true
abbrev pub are_true : (ℕ → Bool) → List (List Lit) → Bool
are_true v clauses = list_all (is_true_clause v) clauses

-- every clause of every variable's list is true
abbrev pub Satisfies : (ℕ → Bool) → List (List (List Lit)) → Type 0
Satisfies v lists = All (λ clauses. IsTrue (are_true v clauses)) lists

-- each literal's variable is below n
abbrev pub AreBelow : ℕ → List (List Lit) → Type 0
AreBelow n clauses = All (λ clause. All (λ lit. variable_of lit < n) clause) clauses

-- one list of clauses for each variable: one at least and 2^31 at most, and each literal's variable
-- has a list
pub record AreRelations (lists : List (List (List Lit))) : Type 0 where
  pub some : 0 < length lists
  pub few : length lists ≤ 2 ^ 31
  pub below : All (AreBelow (length lists)) lists

-- so many clauses have the lists together, and 2^63 at most
pub record IsCount (lists : List (List (List Lit))) (count : ℕ) : Type 0 where
  pub sum : count ≡ sum_by length lists
  pub few : count ≤ 2 ^ 63

-- n is the and of the literals
abbrev pub and_clauses : Lit → List Lit → List (List Lit)
and_clauses n lits = map (λ a. inverse_lit n ∷ a ∷ []) lits ++ (n ∷ map inverse_lit lits) ∷ []

-- n is x exclusive or y
abbrev pub xor_clauses : Lit → Lit → Lit → List (List Lit)
xor_clauses n x y =
    (inverse_lit n ∷ x ∷ y ∷ []) ∷ (inverse_lit n ∷ inverse_lit x ∷ inverse_lit y ∷ [])
    ∷ (n ∷ inverse_lit x ∷ y ∷ []) ∷ (n ∷ x ∷ inverse_lit y ∷ []) ∷ []

-- n is t where c, and else e
abbrev pub ite_clauses : Lit → Lit → Lit → Lit → List (List Lit)
ite_clauses n c t e =
    (inverse_lit c ∷ inverse_lit t ∷ n ∷ []) ∷ (inverse_lit c ∷ t ∷ inverse_lit n ∷ [])
    ∷ (c ∷ inverse_lit e ∷ n ∷ []) ∷ (c ∷ e ∷ inverse_lit n ∷ []) ∷ []
