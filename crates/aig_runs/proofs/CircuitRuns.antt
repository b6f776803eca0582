-- From what unrolling and clauses promise: a satisfying assignment is a run of the circuit, and a run is a satisfying assignment.
use Rattle.aig_base.proofs.Words.{◌≡◌, ℕ, Bool, List, refl, subst, ◌∙◌, All-weaker}
use Rattle.aig_base.specs.declared.logic.literal.Lit.{Lit}
use Rattle.aig_base.specs.Clauses.{Satisfies}
use Rattle.aig_circuit.specs.declared.edge.AigEdge.{AigEdge}
use Rattle.aig_circuit.specs.declared.node.AigLatch.{AigLatch}
use Rattle.aig_circuit.proofs.Words.{Circuit, IsCircuit, AreProperties, edge_value, node_value, next_edges}
use Rattle.aig_circuit.proofs.Listed.{AllProperties-always, AllProperties-weaker, AreProperties-map, map_properties-same}
use Rattle.aig_circuit.proofs.Lists.{All-from_map}
use Rattle.aig_cnf.specs.Cnf.{FixesRoots, IsFixed, NodeValuesSatisfy, edge_in}
use Rattle.aig_unroll.specs.Unroll.{HasStepValues, UnrollsTo}
use Rattle.aig_unroll.proofs.Lists.{zip_weaker}
use Rattle.aig_runs.specs.Circuits.{AssignmentsAreCircuitRuns, CircuitRunsAreAssignments}
use Rattle.aig_runs.proofs.Leaves.{are_node_values, values_read}
use Rattle.aig_runs.proofs.Standing.{AreAlike, properties_alike}

-- where the assignment satisfies, it gives each root its value, and so shows what the values show
module _ (c u : Circuit) (k : ℕ) (lists : List (List (List Lit))) (v : ℕ → Bool) (x : ℕ → ℕ → Bool) (fixes : FixesRoots u lists) (holds : Satisfies v lists) where
  abbrev IsSame : AigEdge → Type 0
  IsSame e = edge_in v e ≡ edge_value u.nodes v e

  same : (e : AigEdge) → IsFixed u lists e → IsSame e
  same e is = is v holds

  pub shown : HasStepValues c u k (edge_value u.nodes v) x → HasStepValues c u k (edge_in v) x
  shown s =
      let new = edge_value u.nodes v in
      let other = edge_in v in
      let old = λ (t : ℕ). edge_value c.nodes (x t) in
      let Alike = AreAlike k old old new other in
      let alike : AreProperties Alike c.properties c.properties =
      subst (AreProperties Alike c.properties) (map_properties-same (λ e. e) c.properties (AllProperties-weaker (λ e. Unit {0}) (λ e. e ≡ e) (λ e is. refl) c.properties (AllProperties-always c.properties)))
      (AreProperties-map (λ e. e) Alike c.properties (AllProperties-weaker (λ e. Unit {0}) (λ e. Alike e e) (λ e is t h. refl) c.properties (AllProperties-always c.properties))) in
      let next = All-weaker (IsFixed u lists) IsSame same (next_edges u.latchs) fixes.next in
      record {
        properties = properties_alike k old old new other c.properties c.properties u.properties alike (AllProperties-weaker (IsFixed u lists) IsSame same u.properties fixes.properties) s.properties;
        state = zip_weaker (λ (old now : AigLatch). new now.next ≡ edge_value c.nodes (x k) old.next) (λ (old now : AigLatch). other now.next ≡ edge_value c.nodes (x k) old.next)
            (λ (now : AigLatch). IsSame now.next) c.latchs u.latchs (λ old now p q. p ∙ q) (All-from_map (λ (latch : AigLatch). latch.next) IsSame u.latchs next) s.state;
      }

pub assignments_are_runs : (c u : Circuit) (k : ℕ) (lists : List (List (List Lit))) → UnrollsTo c k u → FixesRoots u lists → AssignmentsAreCircuitRuns c u k lists
assignments_are_runs c u k lists unrolls fixes v holds =
    let r = unrolls.run_of v in
    record {
      run = r.0;
      is_run = r.1;
      reads = r.2;
      only = λ other is reads. unrolls.one_run v r.0 other r.1 is r.2 reads;
      shows = shown c u k lists v r.0 fixes holds (unrolls.same v r.0 r.1 r.2);
    }

pub runs_are_assignments : (c u : Circuit) (k : ℕ) (lists : List (List (List Lit))) → IsCircuit c → UnrollsTo c k u → NodeValuesSatisfy u lists → CircuitRunsAreAssignments c u k lists
runs_are_assignments c u k lists is unrolls satisfied run is_run =
    let y = unrolls.values_of run is_run in
    let reads = values_read c u k is unrolls y.0 run y.1 in
    record {
      values = node_value u.nodes y.0;
      reads = reads;
      only = λ other too. unrolls.one_value run (node_value u.nodes y.0) other reads too;
      of_nodes = are_node_values c u k is unrolls y.0;
      satisfies = satisfied y.0;
    }
