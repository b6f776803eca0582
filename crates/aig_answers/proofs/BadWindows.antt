-- The clauses of a window can be satisfied exactly where there is one with a bad literal at its
-- end.
use Rattle.aig_answers.proofs.Words.{◌↔◌, ℕ, ◌+◌, Bool, List, ◌++◌, IsTrue, sym, ◌∙◌, list_any, false≢true, true_from_ne_false, Lit, IsSatisfiable, clauses_in, circuit_of, File, Fits, value_of_literal, IsKInductive, IsGood, AsksWindow, Window, any_none}
use Rattle.aig_answers.proofs.Deciding.{satisfiable_unless}
use Rattle.aig_answers.proofs.WindowRuns.{HasBadWindow, satisfied_window}

-- some bad literal holds exactly where it isn't so that none does
pub bad_is : (f : File) (values : ℕ → Bool)
    → IsTrue (list_any (value_of_literal values) f.properties.bads) ↔ (¬ IsGood f values)
bad_is f values =
    let test = value_of_literal values in
    let bads = f.properties.bads in
    let none = any_none test bads in (
      λ bad good. false≢true (sym (none.1 good) ∙ bad),
      λ not_good. true_from_ne_false (list_any test bads) (λ is. not_good (none.0 is)),
    )

-- refuted clauses leave no window
abbrev RefutedAreInductive : Type 0
RefutedAreInductive = (form : Window) (f : File) (limit k : ℕ) (optimize : Bool)
    (clauses : List (List (List Lit))) (extra : List (List Lit)) → Fits f limit
    → AsksWindow form (circuit_of f) k optimize clauses extra
    → ¬ IsSatisfiable (clauses_in clauses ++ extra) → IsKInductive form f k

pub windows_asked : RefutedAreInductive → (form : Window) (f : File) (limit k : ℕ)
    (optimize : Bool) (clauses : List (List (List Lit))) (extra : List (List Lit))
    → Fits f limit → AsksWindow form (circuit_of f) k optimize clauses extra
    → IsSatisfiable (clauses_in clauses ++ extra) ↔ HasBadWindow form f k
windows_asked refuted form f limit k optimize clauses extra fits asks = (
  satisfied_window form f limit k optimize clauses extra fits asks,
  λ w. satisfiable_unless (clauses_in clauses ++ extra) (λ none.
      (bad_is f (w.0 (k + 1))).0 w.2
      (refuted form f limit k optimize clauses extra fits asks none w.0 w.1)),
)
