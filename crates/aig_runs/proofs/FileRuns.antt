-- From the runs of a file's circuit to the runs of its machine.
use Rattle.aig_base.proofs.Words.{◌≡◌, ℕ, ◌/◌, ◌≤◌, Bool, List, map, refl, sym, ◌∙◌, inl, inr, arith, All, Contains, AllZip, All-contains, All-from_recursion, All-map, All-weaker, Contains-append_cases, Contains-get_or, recursion_from_All}
use Rattle.aig_base.specs.declared.logic.literal.Lit.{Lit}
use Rattle.aig_circuit.specs.declared.edge.AigEdge.{AigEdge}
use Rattle.aig_circuit.specs.declared.node.AigLatch.{AigLatch}
use Rattle.aig_circuit.proofs.Words.{Circuit, IsCircuit, IsLatch, IsLeaf, latch_leaves, edge_value, node_value}
use Rattle.aig_circuit.proofs.Trees.{node_value-leaf}
use Rattle.aig_cnf.specs.Cnf.{FixesRoots, HasClauses, NodeValuesSatisfy, edge_in}
use Rattle.aig_format.proofs.Words.{File, LatchLine, Fits, circuit_of, edge_of, latch_of, node_of_variable, IsKnown}
use Rattle.aig_format.specs.Machine as machine
use Rattle.aig_format.proofs.Circuits.{IsCircuit-of_file, used_by_section}
use Rattle.aig_format.proofs.Numbers.{used_known}
use Rattle.aig_format_laws.specs.MachineRuns.{AgreeOnInputs}
use Rattle.aig_format_laws.specs.Nodes.{HasNodeValues, values_over}
use Rattle.aig_format_laws.proofs.Closed.{IsClosed-of_file}
use Rattle.aig_format_laws.proofs.Joining.{back_run, forth_run, forth_values, inputs_known, latches_known, leaves_of, literal_is}
use Rattle.aig_format_laws.proofs.MachineRuns.{agree_on_known}
use Rattle.aig_circuit.proofs.Listed.{AllProperties-always, AllProperties-weaker, AreProperties-map}
use Rattle.aig_circuit.proofs.Lists.{All-from_map, AllZip-map}
use Rattle.aig_unroll.specs.Places.{Reads, other_leaves, place_at}
use Rattle.aig_unroll.specs.Unroll.{HasStepValues, UnrollsTo}
use Rattle.aig_unroll.proofs.Lists.{all_from_zips, zip_turned, zip_weaker}
use Rattle.aig_unroll.proofs.Others.{inputs_are_others, others-are}
use Rattle.aig_runs.specs.Files.{AssignmentsAreRuns, HasLeafValues, RunsAreAssignments, HasRunValues}
use Rattle.aig_runs.specs.Encodes.{Encodes}
use Rattle.aig_runs.proofs.CircuitRuns as over_circuits
use Rattle.aig_runs.proofs.Standing.{AreAlike, properties_alike, zip_through}

-- ---- leaf values

-- a run of the machine beside leaf values x of the circuit, whose nodes have the run's values
module _ (f : File) (limit k : ℕ) (fits : Fits f limit) (x run : ℕ → ℕ → Bool) (values : HasNodeValues f k x run) where
  abbrev c : Circuit
  c = circuit_of f

  is_circuit : IsCircuit c
  is_circuit = IsCircuit-of_file f limit fits

  -- the inputs have the values of their leaves
  inputs_same : (t : ℕ) → t ≤ k → AllZip (λ e n. run t (e / 2) ≡ x t n) f.inputs c.inputs
  inputs_same t h =
      let Is = λ (e n : ℕ). run t (e / 2) ≡ node_value c.nodes (x t) n in
      let of_node = AllZip-map (λ (e : ℕ). node_of_variable f (e / 2)) Is f.inputs
      (All-weaker (IsKnown f) (λ (e : ℕ). Is e (node_of_variable f (e / 2))) (λ e known. sym (values t (e / 2) h known)) f.inputs (All-from_recursion (IsKnown f) f.inputs (inputs_known f))) in
      zip_weaker Is (λ e n. run t (e / 2) ≡ x t n) (IsLeaf c.nodes) f.inputs c.inputs (λ e n leaf is. is ∙ node_value-leaf c.nodes (x t) n leaf) is_circuit.inputs of_node

  -- and so have the latches at step 0
  latches_same : AllZip (λ (l : LatchLine) (latch : AigLatch). run 0 (l.literal / 2) ≡ x 0 latch.input) f.latches c.latchs
  latches_same =
      let Is = λ (l : LatchLine) (latch : AigLatch). run 0 (l.literal / 2) ≡ node_value c.nodes (x 0) latch.input in
      let Known = λ (l : LatchLine). IsKnown f l.literal in
      let of_node = AllZip-map (latch_of f) Is f.latches
      (All-weaker Known (λ (l : LatchLine). Is l (latch_of f l)) (λ l known. sym (values 0 (l.literal / 2) (omega arith) known)) f.latches (All-from_recursion Known f.latches (latches_known f))) in
      zip_weaker Is (λ (l : LatchLine) (latch : AigLatch). run 0 (l.literal / 2) ≡ x 0 latch.input) (IsLatch c.nodes) f.latches c.latchs
      (λ l latch is same. same ∙ node_value-leaf c.nodes (x 0) latch.input is.leaf) is_circuit.latchs of_node

  -- each leaf that is no latch's is an input
  others_are_inputs : (n : ℕ) → IsLeaf c.nodes n × ¬ Contains (latch_leaves c.latchs) n → Contains c.inputs n
  others_are_inputs n other = elim (Contains-append_cases c.inputs (latch_leaves c.latchs) n (IsClosed-of_file f limit fits n other.0)) [
    | inl has ↦ has
    | inr has ↦ absurd (other.1 has)
  ]

  -- what the leaf values read, the run has
  pub reads_leaves : (u : Circuit) (v : ℕ → Bool) → Reads c u k v x → HasLeafValues f c u k v run
  reads_leaves u v reads = record {
    inputs = λ t h.
        let P = λ (n : ℕ). x t n ≡ v (place_at c u t n) in
        let all : All P c.inputs = λ i d lt. All-contains P (other_leaves c) _ (reads.others t h) (inputs_are_others c is_circuit _ (Contains-get_or c.inputs i d lt)) in
        zip_weaker (λ e n. run t (e / 2) ≡ x t n) (λ e n. run t (e / 2) ≡ v (place_at c u t n)) P f.inputs c.inputs (λ e n p q. q ∙ p) all (inputs_same t h);
    latches =
        zip_weaker (λ (l : LatchLine) (latch : AigLatch). run 0 (l.literal / 2) ≡ x 0 latch.input) (λ (l : LatchLine) (latch : AigLatch). run 0 (l.literal / 2) ≡ v latch.input)
        (λ (latch : AigLatch). x 0 latch.input ≡ v latch.input) f.latches c.latchs (λ l latch p q. q ∙ p)
        (All-from_map (λ (latch : AigLatch). latch.input) (λ n. x 0 n ≡ v n) c.latchs reads.state) latches_same;
  }

  -- and back
  pub leaves_reads : (u : Circuit) (v : ℕ → Bool) → HasLeafValues f c u k v run → Reads c u k v x
  leaves_reads u v leaves = record {
    state =
        let Same = λ (latch : AigLatch) (l : LatchLine). run 0 (l.literal / 2) ≡ x 0 latch.input in
        let Has = λ (latch : AigLatch) (l : LatchLine). run 0 (l.literal / 2) ≡ v latch.input in
        let Is = λ (latch : AigLatch). x 0 latch.input ≡ v latch.input in
        All-map (λ n. x 0 n ≡ v n) (λ (latch : AigLatch). latch.input) c.latchs
        (all_from_zips Same Has Is c.latchs f.latches (λ latch l p q. sym p ∙ q)
        (zip_turned (λ l latch. Same latch l) f.latches c.latchs latches_same) (zip_turned (λ l latch. Has latch l) f.latches c.latchs leaves.latches));
    others = λ t h.
        let Same = λ (n e : ℕ). run t (e / 2) ≡ x t n in
        let Has = λ (n e : ℕ). run t (e / 2) ≡ v (place_at c u t n) in
        let Is = λ (n : ℕ). x t n ≡ v (place_at c u t n) in
        let inputs : All Is c.inputs =
        all_from_zips Same Has Is c.inputs f.inputs (λ n e p q. sym p ∙ q)
        (zip_turned (λ e n. Same n e) f.inputs c.inputs (inputs_same t h)) (zip_turned (λ e n. Has n e) f.inputs c.inputs (leaves.inputs t h)) in
        λ i d lt. All-contains Is c.inputs _ inputs (others_are_inputs _ (others-are c is_circuit.nodes i d lt));
  }

-- ---- values

module _ (f : File) (limit k : ℕ) (fits : Fits f limit) (x run : ℕ → ℕ → Bool) (values : HasNodeValues f k x run) where
  -- a literal has at each step the value of its edge
  abbrev Keeps : ℕ → Type 0
  Keeps e = (t : ℕ) → t ≤ k → edge_value (circuit_of f).nodes (x t) (edge_of f e) ≡ machine.value_of_literal (run t) e

  kept : (e : ℕ) → IsKnown f e → Keeps e
  kept e is t h = literal_is f k x run values t e h is

  pub shows_run : (u : Circuit) (value : AigEdge → Bool) → HasStepValues (circuit_of f) u k value x → HasRunValues f u k value run
  shows_run u value s =
      let edge_at = λ (t : ℕ). edge_value (circuit_of f).nodes (x t) in
      let first = λ (t : ℕ). machine.value_of_literal (run t) in
      let is = used_by_section (IsKnown f) f (used_known f limit fits) in
      let nexts = map (λ (l : LatchLine). l.next) f.latches in
      record {
        properties = properties_alike k edge_at first value value f.properties (circuit_of f).properties u.properties
            (AreProperties-map (edge_of f) (AreAlike k edge_at first value value) f.properties (AllProperties-weaker (IsKnown f) Keeps kept f.properties is.properties))
            (AllProperties-weaker (λ e. Unit {0}) (λ e. value e ≡ value e) (λ e is. refl) u.properties (AllProperties-always u.properties)) s.properties;
        state =
            let Alike = λ (l : LatchLine) (latch : AigLatch). edge_at k latch.next ≡ first k l.next in
            zip_through Alike (λ (latch now : AigLatch). value now.next ≡ edge_at k latch.next) (λ (l : LatchLine) (now : AigLatch). value now.next ≡ first k l.next) (λ now. Unit {0}) f.latches (circuit_of f).latchs u.latchs (λ l latch now p q is. q ∙ p)
            (AllZip-map (latch_of f) Alike f.latches (All-weaker (λ (l : LatchLine). Keeps l.next) (λ l. Alike l (latch_of f l)) (λ l keeps. keeps k (omega arith)) f.latches (All-from_map (λ (l : LatchLine). l.next) Keeps f.latches (All-weaker (IsKnown f) Keeps kept nexts (All-from_recursion (IsKnown f) nexts is.nexts)))))
            s.state (λ j d l. tt);
      }

-- ---- runs

-- runs with the same leaf values agree on the inputs
agree_on_inputs : (f : File) (c u : Circuit) (k : ℕ) (v : ℕ → Bool) (run other : ℕ → ℕ → Bool) → HasLeafValues f c u k v run → HasLeafValues f c u k v other → AgreeOnInputs f k run other
agree_on_inputs f c u k v run other one two = record {
  inputs = λ t h.
      let Has = λ (r : ℕ → ℕ → Bool) (e n : ℕ). r t (e / 2) ≡ v (place_at c u t n) in
      let Same = λ (e : ℕ). run t (e / 2) ≡ other t (e / 2) in
      recursion_from_All Same f.inputs (all_from_zips (Has run) (Has other) Same f.inputs c.inputs (λ e n p q. p ∙ sym q) (one.inputs t h) (two.inputs t h));
  latches =
      let Has = λ (r : ℕ → ℕ → Bool) (l : LatchLine) (latch : AigLatch). r 0 (l.literal / 2) ≡ v latch.input in
      let Same = λ (l : LatchLine). run 0 (l.literal / 2) ≡ other 0 (l.literal / 2) in
      recursion_from_All Same f.latches (all_from_zips (Has run) (Has other) Same f.latches c.latchs (λ l latch p q. p ∙ sym q) one.latches two.latches);
}

assignments_are_runs : (f : File) (limit k : ℕ) (u : Circuit) (lists : List (List (List Lit))) → Fits f limit → UnrollsTo (circuit_of f) k u → FixesRoots u lists → AssignmentsAreRuns f (circuit_of f) u k lists
assignments_are_runs f limit k u lists fits unrolls fixes v holds =
    let one = over_circuits.assignments_are_runs (circuit_of f) u k lists unrolls fixes v holds in
    let run = values_over f one.run in
    let values : HasNodeValues f k one.run run = λ t n h known. refl in
    let is_run = back_run f limit k one.run fits one.is_run in
    let leaves = reads_leaves f limit k fits one.run run values u v one.reads in
    record {
      run = run;
      is_run = is_run;
      leaves = leaves;
      only = λ other is has. agree_on_known f limit k fits run other is_run is (agree_on_inputs f (circuit_of f) u k v run other leaves has);
      shows = shows_run f limit k fits one.run run values u (edge_in v) one.shows;
    }

runs_are_assignments : (f : File) (limit k : ℕ) (u : Circuit) (lists : List (List (List Lit))) → Fits f limit → UnrollsTo (circuit_of f) k u → NodeValuesSatisfy u lists → RunsAreAssignments f (circuit_of f) u k lists
runs_are_assignments f limit k u lists fits unrolls satisfied run is_run =
    let x = leaves_of f run in
    let values = forth_values f limit k run fits is_run in
    let one = over_circuits.runs_are_assignments (circuit_of f) u k lists (IsCircuit-of_file f limit fits) unrolls satisfied x (forth_run f limit k run fits is_run) in
    record {
      values = one.values;
      leaves = reads_leaves f limit k fits x run values u one.values one.reads;
      only = λ other has. one.only other (leaves_reads f limit k fits x run values u other has);
      of_nodes = one.of_nodes;
      satisfies = one.satisfies;
    }

pub files_are_encoded : (f : File) (limit k : ℕ) (optimize : Bool) (u : Circuit) (lists : List (List (List Lit))) → Fits f limit → UnrollsTo (circuit_of f) k u → HasClauses u optimize lists → FixesRoots u lists → NodeValuesSatisfy u lists
    → Encodes f k optimize (circuit_of f) u lists
files_are_encoded f limit k optimize u lists fits unrolls has fixes satisfied = record {
  of_file = refl;
  steps = unrolls;
  has_clauses = has;
  fixes = fixes;
  satisfied = satisfied;
  assignments = assignments_are_runs f limit k u lists fits unrolls fixes;
  runs = runs_are_assignments f limit k u lists fits unrolls satisfied;
}
