-- Serves private clauses alone.
-- The names of leaves, and the clauses of a question.
use Rattle.std.specs.Prelude.{◌≡◌, ℕ, Bool, false, Some, List, slice_index_or}
use Rattle.std.specs.List.{AllZip}
use Rattle.aig_circuit.specs.declared.edge.AigEdge.{AigEdge}
use Rattle.aig_circuit.specs.Circuit.{Circuit}
use Rattle.aig_circuit.specs.View.{lists_circuit}
use Rattle.aig_cnf.specs.Cnf.{FixesRoots, HasClauses, NodeValuesSatisfy}
use Rattle.aig_runs.specs.Queries.{unit_clauses}
use Rattle.aig_bounded.specs.declared.question.BoundedCircuit.{BoundedCircuit}
use Rattle.aig_bounded.specs.Question.{IsQuestion}
use Rattle.aig_answers.specs.declared.bounded_checks.clauses.BoundedClauses.{BoundedClauses}
use Rattle.aig_answers.specs.declared.bounded_checks.naming.Named.{Named}
use Rattle.aig_answers.specs.Naming.{IsNamed, leaf_of}

-- ---- names

-- the name at the place of this leaf is its own
abbrev pub HasName : Circuit → List Named → ℕ → Type 0
HasName c names n =
    let name = slice_index_or names n (record { step = 0; is_latch = false; number = 0 }) in
    leaf_of c name.is_latch name.number ≡ Some n

-- ---- clauses

-- the clauses of the question's circuit, and those that its outputs are true; its inputs have these
-- names
pub record IsEncoded (q : BoundedCircuit) (named : List Named) (optimize : Bool)
    (made : BoundedClauses) : Type 0 where
  pub same : made.question ≡ q
  pub same_names : made.named.items ≡ named
  pub has_clauses : HasClauses (lists_circuit q.circuit) optimize made.clauses
  pub fixes : FixesRoots (lists_circuit q.circuit) made.clauses
  pub satisfied : NodeValuesSatisfy (lists_circuit q.circuit) made.clauses
  pub exact : made.extra ≡ unit_clauses (lists_circuit q.circuit).properties.outputs

-- a question of the circuit, with its clauses
pub record IsEncodedQuestion (c : Circuit) (last : ℕ) (optimize : Bool)
    (made : BoundedClauses) : Type 0 where
  pub output : AigEdge
  pub asks : IsQuestion c last (lists_circuit made.question.circuit) output
      made.question.places.items
  pub named : AllZip (IsNamed c) made.question.places.items made.named.items
  pub encoded : IsEncoded made.question made.named.items optimize made
