-- What it says of the machine that no query up to a step can be satisfied.
use Rattle.aig_base.proofs.Words.{◌↔◌, ℕ, ◌≤◌, Bool, List, sym, ◌∙◌, arith, list_any, false≢true, false_from_ne_true}
use Rattle.aig_base.specs.declared.logic.literal.Lit.{Lit}
use Rattle.aig_circuit.specs.Circuit.{Circuit}
use Rattle.aig_format.proofs.Words.{File, IsMachineRun, value_of_literal}
use Rattle.aig_runs.specs.Queries.{IsQueryOf, IsRefuted, IsSafeTo, IsWitness}
use Rattle.aig_runs.proofs.Rows.{any_none}

-- a run's first steps are a run
pub run_cut : (f : File) (last t : ℕ) (run : ℕ → ℕ → Bool) → IsMachineRun f last run → t ≤ last → IsMachineRun f t run
run_cut f last t run is h = record { steps = λ s l. is.steps s (omega arith); moves = λ s l. is.moves s (omega arith) }

module _ (f : File) (n : ℕ) where
  -- no run of the machine is a witness exactly where it is safe
  pub safe_is : ((k : ℕ) → k ≤ n → ¬ ((run : ℕ → ℕ → Bool) × IsWitness f k run)) ↔ IsSafeTo f n
  safe_is = (
    λ none last t run is start low h constraints.
        (any_none (value_of_literal (run t)) f.properties.bads).0 (false_from_ne_true (list_any (value_of_literal (run t)) f.properties.bads) (λ bad.
        none t h (run, record { is_run = run_cut f last t run is low; start = start; constraints = constraints; bad = bad }))),
    λ safe k h w.
        let b = w.1 in
        false≢true (sym ((any_none (value_of_literal (w.0 k)) f.properties.bads).1 (safe k k w.0 b.is_run b.start (omega arith) h b.constraints)) ∙ b.bad),
  )

  -- and so exactly where each query is refuted
  pub refuted_queries_are_safe : (circuit unrolled : ℕ → Circuit) (clauses : ℕ → List (List (List Lit))) (extra : ℕ → List (List Lit)) → ((k : ℕ) → k ≤ n → IsQueryOf f k (circuit k) (unrolled k) (clauses k) (extra k))
      → ((k : ℕ) → k ≤ n → IsRefuted (clauses k) (extra k)) ↔ IsSafeTo f n
  refuted_queries_are_safe circuit unrolled clauses extra asks = (
    λ refuted. safe_is.0 (λ k h w. refuted k h ((asks k h).satisfiable.1 w)),
    λ safe k h s. safe_is.1 safe k h ((asks k h).satisfiable.0 s),
  )
