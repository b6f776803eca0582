-- Both lists of clauses as one.
use Rattle.aig_base.proofs.Words.{ℕ, Bool, IsTrue, List, [], ◌∷◌, ◌++◌, refl, ◌∙◌, and_from, All-head, All-tail, list_all-append}
use Rattle.aig_base.specs.declared.logic.literal.Lit.{Lit}
use Rattle.aig_base.specs.Clauses.{Satisfies, are_true, is_true_clause}
use Rattle.aig_circuit.specs.Circuit.{Circuit}
use Rattle.aig_format.specs.File.{File}
use Rattle.aig_base.specs.Formula.{clauses_in, IsSatisfiable}
use Rattle.aig_runs.specs.Queries.{IsQueryOf, IsRefuted}
use Rattle.aig_runs.specs.Safety.{IsSafeAt}

pub clauses_in_true : (v : ℕ → Bool) (lists : List (List (List Lit))) → Satisfies v lists → IsTrue (are_true v (clauses_in lists))
clauses_in_true v [] s = refl
clauses_in_true v (clauses ∷ lists) s =
    let IsSatisfied : List (List Lit) → Type 0 = λ some. IsTrue (are_true v some) in
    list_all-append (is_true_clause v) clauses (clauses_in lists)
    ∙ and_from (are_true v clauses) (are_true v (clauses_in lists)) (All-head IsSatisfied clauses lists s) (clauses_in_true v lists (All-tail IsSatisfied clauses lists s))

-- what makes both lists true makes them true as one
pub both_true : (v : ℕ → Bool) (lists : List (List (List Lit))) (extra : List (List Lit)) → Satisfies v lists → IsTrue (are_true v extra) → IsTrue (are_true v (clauses_in lists ++ extra))
both_true v lists extra holds also = list_all-append (is_true_clause v) (clauses_in lists) extra ∙ and_from (are_true v (clauses_in lists)) (are_true v extra) (clauses_in_true v lists holds) also

-- where no assignment makes all clauses true, none satisfies both lists
pub refuted_both : (lists : List (List (List Lit))) (extra : List (List Lit)) → ¬ IsSatisfiable (clauses_in lists ++ extra) → IsRefuted lists extra
refuted_both lists extra none s = none (s.0, both_true s.0 lists extra s.1.clauses_hold s.1.further_hold)

pub no_witness : (f : File) (k : ℕ) (circuit unrolled : Circuit) (clauses : List (List (List Lit))) (extra : List (List Lit)) → IsQueryOf f k circuit unrolled clauses extra → ¬ IsSatisfiable (clauses_in clauses ++ extra) → IsSafeAt f k
no_witness f k circuit unrolled clauses extra asks none w = refuted_both clauses extra none (asks.satisfiable.1 w)
