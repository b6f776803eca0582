-- A witness of a file's machine and one of its circuit are one.
use Rattle.aig_base.proofs.Words.{◌≡◌, ℕ, ◌≤◌, Bool, IsTrue, refl, sym, subst, ◌∙◌, arith, list_any, All-from_recursion, All-map, recursion_from_All}
use Rattle.aig_circuit.specs.declared.edge.AigEdge.{AigEdge}
use Rattle.aig_circuit.specs.declared.node.AigNodeType.TheVariants.{Leaf}
use Rattle.aig_circuit.proofs.Words.{Circuit, AgreeOnLeaves, IsRun, edge_value, node_value, AllProperties}
use Rattle.aig_circuit.proofs.Listed.{AllProperties-weaker}
use Rattle.aig_circuit.proofs.Lists.{All-from_map, AllZip-map}
use Rattle.aig_circuit.proofs.Trees.{kind_at-within, node_value-leaf}
use Rattle.aig_format.proofs.Words.{circuit_of, edge_of, File, Fits, value_of_literal, IsKnown}
use Rattle.aig_format.specs.Machine as machine
use Rattle.aig_format.proofs.Circuits.{used_by_section}
use Rattle.aig_format.proofs.Nodes.{length-nodes}
use Rattle.aig_format.proofs.Numbers.{used_known, variable_of}
use Rattle.aig_format_laws.specs.Nodes.{HasNodeValues, values_over}
use Rattle.aig_format_laws.proofs.Joining.{back_run, forth_run, forth_values, leaves_of, literal_is}
use Rattle.aig_format_laws.proofs.Starts.{starts_agree}
use Rattle.aig_runs.specs.CircuitQueries.{IsCircuitWitness}
use Rattle.aig_runs.specs.Queries.{IsWitness}
use Rattle.aig_runs.proofs.Rows.{any_zip}

module _ (f : File) (limit k : ℕ) (fits : Fits f limit) (x run : ℕ → ℕ → Bool) (values : HasNodeValues f k x run) where
  abbrev c : Circuit
  c = circuit_of f

  -- the literal has at the step the value of its edge
  abbrev Keeps : ℕ → ℕ → Type 0
  Keeps t e = edge_value c.nodes (x t) (edge_of f e) ≡ value_of_literal (run t) e

  keeps : (t : ℕ) → t ≤ k → AllProperties (Keeps t) f.properties
  keeps t h = AllProperties-weaker (IsKnown f) (Keeps t) (λ e is. literal_is f k x run values t e h is) f.properties (used_by_section (IsKnown f) f (used_known f limit fits)).properties

  -- some bad edge is true where some bad literal is
  bads_same : list_any (edge_value c.nodes (x k)) c.properties.bads ≡ list_any (value_of_literal (run k)) f.properties.bads
  bads_same =
      let value = edge_value c.nodes (x k) in
      any_zip (value_of_literal (run k)) value f.properties.bads c.properties.bads
      (AllZip-map (edge_of f) (λ e edge. value edge ≡ value_of_literal (run k) e) f.properties.bads (keeps k (omega arith)).bads)

  abbrev IsTrueEdge : ℕ → AigEdge → Type 0
  IsTrueEdge t e = IsTrue (edge_value c.nodes (x t) e)

  abbrev IsTrueLiteral : ℕ → ℕ → Type 0
  IsTrueLiteral t e = IsTrue (value_of_literal (run t) e)

  pub to_circuit : IsRun c k x → IsWitness f k run → IsCircuitWitness c k x
  to_circuit is w = record {
    is_run = is;
    start = (starts_agree f limit k x run fits values).0 w.start;
    constraints = λ t h.
        let holds = All-from_recursion (IsTrueLiteral t) f.properties.constraints (w.constraints t h) in
        All-map (IsTrueEdge t) (edge_of f) f.properties.constraints (λ j d l. (keeps t h).constraints j d l ∙ holds j d l);
    bad = bads_same ∙ w.bad;
  }

  pub to_machine : machine.IsMachineRun f k run → IsCircuitWitness c k x → IsWitness f k run
  to_machine is w = record {
    is_run = is;
    start = (starts_agree f limit k x run fits values).1 w.start;
    constraints = λ t h.
        let holds = All-from_map (edge_of f) (IsTrueEdge t) f.properties.constraints (w.constraints t h) in
        recursion_from_All (IsTrueLiteral t) f.properties.constraints (λ j d l. sym ((keeps t h).constraints j d l) ∙ holds j d l);
    bad = sym bads_same ∙ w.bad;
  }

pub witness_forth : (f : File) (limit k : ℕ) (run : ℕ → ℕ → Bool) → Fits f limit → IsWitness f k run → (x : ℕ → ℕ → Bool) × IsCircuitWitness (circuit_of f) k x × HasNodeValues f k x run
witness_forth f limit k run fits w =
    let x = leaves_of f run in
    let values = forth_values f limit k run fits w.is_run in
    (x, to_circuit f limit k fits x run values (forth_run f limit k run fits w.is_run) w, values)

pub witness_back : (f : File) (limit k : ℕ) (x : ℕ → ℕ → Bool) → Fits f limit → IsCircuitWitness (circuit_of f) k x → IsWitness f k (values_over f x)
witness_back f limit k x fits w = to_machine f limit k fits x (values_over f x) (λ t v h known. refl) (back_run f limit k x fits w.is_run) w

-- leaf values with the run's values at the nodes of variables are the same at the leaves, since each node is that of a variable
pub leaves_agree : (f : File) (limit k : ℕ) (x z run : ℕ → ℕ → Bool) → Fits f limit → HasNodeValues f k x run → HasNodeValues f k z run → AgreeOnLeaves (circuit_of f) k x z
leaves_agree f limit k x z run fits first second t n h leaf =
    let nodes = (circuit_of f).nodes in
    let v = variable_of f limit fits n (omega (arith, length-nodes f, kind_at-within nodes n Leaf leaf)) in
    let same = first t v.variable h v.known ∙ sym (second t v.variable h v.known) in
    sym (node_value-leaf nodes (x t) n leaf)
    ∙ subst (λ m. node_value nodes (x t) m ≡ node_value nodes (z t) m) v.is same
    ∙ node_value-leaf nodes (z t) n leaf
