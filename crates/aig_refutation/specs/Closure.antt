-- Serves private clauses alone.
-- Unit propagation along all clauses: what it makes true, and that no more follows.
use Rattle.std.specs.Prelude.{◌≡◌, ℕ, ◌+◌, ◌<◌, Bool, true, false, IsTrue, List, [], ◌∷◌, Some}
use Rattle.aig_base.specs.declared.logic.literal.Lit.{Lit}
use Rattle.aig_base.specs.Clauses.{is_true_clause, literal_value}
use Rattle.aig_refutation.specs.declared.closure.Found.{Found}
use Rattle.aig_refutation.specs.declared.closure.Found.TheVariants as found
use Rattle.aig_refutation.specs.declared.propagation.Reading.{Reading}
use Rattle.aig_refutation.specs.declared.propagation.Reading.TheVariants as readings
use Rattle.aig_refutation.specs.Propagation.{reading_if, when_false}
use Rattle.aig_refutation.specs.Tables.{Table, clause_in}

-- each clause is true that a number names
abbrev pub AreTrue : (ℕ → Bool) → Table → Type 0
AreTrue v t =
    (n : ℕ) (clause : List Lit) → clause_in t n ≡ Some clause → IsTrue (is_true_clause v clause)

-- a clause is true wherever all those are
abbrev pub IsImplied : Table → List Lit → Type 0
IsImplied t clause = (v : ℕ → Bool) → AreTrue v t → IsTrue (is_true_clause v clause)

-- where they are true and this one is false, these literals are true
abbrev pub Entails : Table → List Lit → (Lit → Bool) → Type 0
Entails t clause holds =
    (v : ℕ → Bool) → AreTrue v t → is_true_clause v clause ≡ false
    → (lit : Lit) → holds lit ≡ true → literal_value v lit ≡ true

-- all of the first literals are among the others
abbrev pub AreAmong : (Lit → Bool) → (Lit → Bool) → Type 0
AreAmong some holds = (lit : Lit) → some lit ≡ true → holds lit ≡ true

-- what a look along clauses shows
abbrev pub Finds : Table → List Lit → (Lit → Bool) → Found → Type 0
Finds t clause holds found.Conflict = IsImplied t clause
Finds t clause holds found.More = Entails t clause holds
Finds t clause holds found.Nothing = Entails t clause holds

-- how many literals aren't true
abbrev pub unmarked : List Bool → ℕ
unmarked [] = 0
unmarked (true ∷ marks) = unmarked marks
unmarked (false ∷ marks) = unmarked marks + 1

-- fewer are left where further ones are true, and the same where none are
abbrev pub Narrows : List Bool → List Bool → Found → Type 0
Narrows old new found.Conflict = Unit {0}
Narrows old new found.More = unmarked new < unmarked old
Narrows old new found.Nothing = new ≡ old

-- this is so where nothing was found
abbrev pub IfNothing : Found → Type 0 → Type 0
IfNothing found.Nothing P = P
IfNothing found.More P = Unit {0}
IfNothing found.Conflict P = Unit {0}

-- nothing more follows along a clause that says this
abbrev pub IsSettled : (Lit → Bool) → Reading → Type 0
IsSettled holds readings.Conflict = ⊥
IsSettled holds (readings.Implied lit) = holds lit ≡ true
IsSettled holds readings.Open = Unit {0}

-- a clause isn't refuted by unit propagation from its inverses, which ends with these literals:
-- none more follows along the clauses of the numbers below the end
pub record IsClosed (t : Table) (end : ℕ) (clause : List Lit) : Type 0 where
  pub holds : Lit → Bool
  pub start : AreAmong (when_false clause) holds
  pub settled : (n : ℕ) → n < end → IsSettled holds (reading_if holds (clause_in t n))
