-- The clauses of a file's circuit with further steps ask for the file's runs and witnesses.
use Rattle.aig_base.proofs.Words.{◌≡◌, ℕ, Bool, List, sym, subst}
use Rattle.aig_base.specs.declared.logic.literal.Lit.{Lit}
use Rattle.aig_circuit.specs.Circuit.{Circuit}
use Rattle.aig_cnf.specs.Cnf.{HasClauses}
use Rattle.aig_cnf.proofs.Fixing.{clauses_fix, node_values_satisfy}
use Rattle.aig_format.proofs.Words.{File, circuit_of}
use Rattle.aig_runs.specs.Encodes.{Encodes}
use Rattle.aig_runs.specs.Queries.{IsQueryOf, query_clauses}
use Rattle.aig_runs.proofs.FileRuns.{files_are_encoded}
use Rattle.aig_runs.proofs.Queries.{queries_ask}
use Rattle.aig_unroll.specs.Unroll.{UnrollsTo}
use Rattle.aig_runs.specs.Unrolled.{IsUnrolledOf, UnrolledCircuit, Unrolls}

pub unrolls_to : (c : Circuit) (k : ℕ) (u : UnrolledCircuit) → Unrolls c k u
    → UnrollsTo c k u.unrolled
unrolls_to c k u is =
    subst (λ (d : Circuit). UnrollsTo d k u.unrolled) is.circuit
    (subst (λ (n : ℕ). UnrollsTo u.circuit n u.unrolled) is.steps is.is.steps)

module _ (f : File) (limit k : ℕ) (optimize : Bool) (u : UnrolledCircuit)
    (lists : List (List (List Lit))) (is : IsUnrolledOf k limit f u)
    (has : HasClauses u.unrolled optimize lists) where
  -- the file is encoded
  pub encodes : Encodes f k optimize (circuit_of f) u.unrolled lists
  encodes = files_are_encoded f limit k optimize u.unrolled lists is.fits (unrolls_to (circuit_of f) k u is.unrolls) has
      (clauses_fix u.unrolled optimize lists is.unrolls.is.unrolled has)
      (node_values_satisfy u.unrolled optimize lists is.unrolls.is.unrolled has)

  -- and asked for
  pub asks : (extra : List (List Lit)) → extra ≡ query_clauses u.circuit u.steps u.unrolled
      → IsQueryOf f k (circuit_of f) u.unrolled lists extra
  asks extra exact =
      let same = subst (λ (c : Circuit). extra ≡ query_clauses c k u.unrolled) is.unrolls.circuit
      (subst (λ (n : ℕ). extra ≡ query_clauses u.circuit n u.unrolled) is.unrolls.steps exact) in
      subst (IsQueryOf f k (circuit_of f) u.unrolled lists) (sym same)
      (queries_ask f limit k optimize (circuit_of f) u.unrolled lists is.fits encodes)
