-- The query clauses of an encoded file ask for the witnesses of its machine: they ask for those of its circuit.
use Rattle.std.proofs.Common.{ℕ, Bool, List, sym, subst}
use Rattle.aig_base.specs.declared.logic.literal.Lit.{Lit}
use Rattle.aig_circuit.specs.Circuit.{Circuit}
use Rattle.aig_format.proofs.Words.{circuit_of, File, Fits}
use Rattle.aig_format.proofs.Circuits.{IsCircuit-of_file}
use Rattle.aig_format_laws.specs.Nodes.{values_over}
use Rattle.aig_format_laws.proofs.Joining.{forth_run, forth_values, leaves_of}
use Rattle.aig_runs.specs.CircuitQueries.{AsksOfCircuit}
use Rattle.aig_runs.specs.Encodes.{Encodes}
use Rattle.aig_runs.specs.Queries.{IsQueryOf, query_clauses}
use Rattle.aig_runs.proofs.CircuitQueries.{circuit_queries_ask}
use Rattle.aig_runs.proofs.FileRuns.{leaves_reads}
use Rattle.aig_runs.proofs.Witnesses.{to_machine, witness_back, witness_forth}

-- what asks for the witnesses of a file's circuit asks for those of its machine
pub asks_of_file : (f : File) (limit k : ℕ) (u : Circuit) (lists : List (List (List Lit))) (extra : List (List Lit)) → Fits f limit → AsksOfCircuit (circuit_of f) k u lists extra → IsQueryOf f k (circuit_of f) u lists extra
asks_of_file f limit k u lists extra fits asks = record {
  exact = asks.exact;
  satisfiable = (
    λ s. let w = asks.satisfiable.0 s in (values_over f w.0, witness_back f limit k w.0 fits w.1),
    λ w. let x = witness_forth f limit k w.0 fits w.1 in asks.satisfiable.1 (x.0, x.1),
  );
  read_off = λ v both run is leaves.
      let x = leaves_of f run in
      let values = forth_values f limit k run fits is in
      to_machine f limit k fits x run values is (asks.read_off v both x (forth_run f limit k run fits is) (leaves_reads f limit k fits x run values u v leaves));
}

pub queries_ask : (f : File) (limit k : ℕ) (optimize : Bool) (circuit u : Circuit) (lists : List (List (List Lit))) → Fits f limit → Encodes f k optimize circuit u lists → IsQueryOf f k circuit u lists (query_clauses circuit k u)
queries_ask f limit k optimize circuit u lists fits encodes =
    let e = subst (λ c. Encodes f k optimize c u lists) encodes.of_file encodes in
    let asks = circuit_queries_ask (circuit_of f) u k lists e.steps e.fixes (IsCircuit-of_file f limit fits) e.satisfied in
    subst (λ c. IsQueryOf f k c u lists (query_clauses c k u)) (sym encodes.of_file) (asks_of_file f limit k u lists (query_clauses (circuit_of f) k u) fits asks)
