-- What the query clauses say, part by part, of the run that an assignment shows.
use Rattle.aig_base.proofs.Words.{◌≡◌, ◌↔◌, ℕ, ◌+◌, ◌*◌, ◌<◌, ◌≤◌, Bool, true, false, ◌||◌, List, [], ◌∷◌, length, map, drop, IsTrue, refl, sym, ap, subst, ◌∙◌, arith, length-drop, slice_get, AllByRecursion, AllZip, list_any, same_Some, slice_get_within}
use Rattle.aig_base.specs.declared.logic.literal.Lit.{Lit}
use Rattle.aig_base.specs.Clauses.{is_true_clause, literal_value}
use Rattle.aig_circuit.specs.declared.edge.AigEdge.{AigEdge}
use Rattle.aig_circuit.specs.Edge.{lit_of}
use Rattle.aig_cnf.specs.Cnf.{edge_in}
use Rattle.aig_cnf.proofs.Forms.{literal_value-lit_of}
use Rattle.aig_unroll.specs.Unroll.{HasValuesAtSteps}
use Rattle.aig_runs.specs.Queries.{unit_clauses}
use Rattle.aig_runs.proofs.Rows.{any_zip, get-drop, get_there, next_row, rec_at, rec_from_get, row_of, zip_from_get}

-- ---- entries at steps

module _ {E : Type 0} (k : ℕ) (old : ℕ → E → Bool) (entries : List E) (new : AigEdge → Bool) (longer : List AigEdge) (stand : HasValuesAtSteps k old entries new longer) where
  -- all edges are true exactly where each entry is at each step
  pub stand_all : AllByRecursion (λ e. IsTrue (new e)) longer ↔ ((t : ℕ) → t ≤ k → AllByRecursion (λ entry. IsTrue (old t entry)) entries)
  stand_all = (forth, back)
    where
      forth : AllByRecursion (λ e. IsTrue (new e)) longer → (t : ℕ) → t ≤ k → AllByRecursion (λ entry. IsTrue (old t entry)) entries
      forth all t h = rec_from_get (λ entry. IsTrue (old t entry)) entries (λ j entry is.
          let r = stand.each t j entry h is in
          sym r.2 ∙ rec_at (λ e. IsTrue (new e)) longer (t * length entries + j) r.0 all r.1)

      back : ((t : ℕ) → t ≤ k → AllByRecursion (λ entry. IsTrue (old t entry)) entries) → AllByRecursion (λ e. IsTrue (new e)) longer
      back all = rec_from_get (λ e. IsTrue (new e)) longer (λ i e is.
          let within = slice_get_within longer i e is in
          let row = row_of k (length entries) i (subst (λ n. i < n) stand.count within) in
          let entry = get_there entries row.1 row.3 in
          let r = stand.each row.0 row.1 entry.0 row.2 entry.1 in
          let same : r.0 ≡ e = same_Some r.0 e (sym r.1 ∙ ap (slice_get longer) row.4 ∙ is) in
          subst (λ x. IsTrue (new x)) same (r.2 ∙ rec_at (λ x. IsTrue (old row.0 x)) entries row.1 entry.0 (all row.0 row.2) entry.1))

  -- the entries of step k are the last ones
  stand_last : AllZip (λ entry e. new e ≡ old k entry) entries (drop (k * length entries) longer)
  stand_last =
      let p = length entries in
      zip_from_get (λ entry e. new e ≡ old k entry) entries (drop (k * p) longer) (omega (arith, next_row k p, stand.count, length-drop (k * p) longer)) (λ j entry is.
      let r = stand.each k j entry (omega arith) is in
      (r.0, get-drop (k * p) longer j ∙ r.1, r.2))

  -- some last edge is true exactly where some entry is at step k
  pub stand_any : list_any new (drop (k * length entries) longer) ≡ list_any (old k) entries
  stand_any = any_zip (old k) new entries (drop (k * length entries) longer) stand_last

-- ---- clauses

-- a clause is true
abbrev pub Holds : (ℕ → Bool) → List Lit → Type 0
Holds v clause = IsTrue (is_true_clause v clause)

or_false : (b : Bool) → (b || false) ≡ b
or_false true = refl
or_false false = refl

-- the unit clauses of edges hold exactly where each edge is true
pub units_say : (v : ℕ → Bool) (es : List AigEdge) → AllByRecursion (Holds v) (unit_clauses es) ↔ AllByRecursion (λ e. IsTrue (edge_in v e)) es
units_say v [] = (λ h. tt, λ h. tt)
units_say v (e ∷ es) =
    let r = units_say v es in
    let one : is_true_clause v (lit_of e ∷ []) ≡ edge_in v e = or_false (literal_value v (lit_of e)) ∙ literal_value-lit_of v e in
    (λ h. (sym one ∙ h.0, r.0 h.1), λ h. (one ∙ h.0, r.1 h.1))

-- the clause of edges holds exactly where some edge is true
pub clause_says : (v : ℕ → Bool) (es : List AigEdge) → is_true_clause v (map lit_of es) ≡ list_any (edge_in v) es
clause_says v [] = refl
clause_says v (e ∷ es) = ap (λ b. b || list_any (literal_value v) (map lit_of es)) (literal_value-lit_of v e) ∙ ap (λ b. edge_in v e || b) (clause_says v es)
