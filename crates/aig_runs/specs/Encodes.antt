-- Part of what is promised.
-- An encoded file, in one record. (AIGER format 20071012; AIGER 1.9; bounded model checking;
-- Tseitin encoding.)
use Rattle.std.specs.Prelude.{◌≡◌, ℕ, Bool, List}
use Rattle.aig_base.specs.declared.logic.literal.Lit.{Lit}
use Rattle.aig_circuit.specs.Circuit.{Circuit}
use Rattle.aig_cnf.specs.Cnf.{FixesRoots, HasClauses, NodeValuesSatisfy}
use Rattle.aig_format.specs.File.{File}
use Rattle.aig_format.specs.Circuit.{circuit_of}
use Rattle.aig_unroll.specs.Unroll.{UnrollsTo}
use Rattle.aig_runs.specs.Files.{AssignmentsAreRuns, RunsAreAssignments}

-- The file's circuit, that circuit with k further steps, and clauses whose satisfying assignments
-- are the runs of the file's machine.
pub record Encodes (f : File) (k : ℕ) (optimize : Bool) (circuit unrolled : Circuit)
    (clauses : List (List (List Lit))) : Type 0 where
  -- the circuit is the file's
  pub of_file : circuit ≡ circuit_of f
  -- leaf values of the unrolled circuit are, by their places, exactly the runs of k + 1 steps, and
  -- its entries are the circuit's at each step
  pub steps : UnrollsTo circuit k unrolled
  -- each gate that is needed has the clauses of its form, and no other node has any
  pub has_clauses : HasClauses unrolled optimize clauses
  -- each satisfying assignment gives each edge of a list its value under the assignment's leaf
  -- values, and node values under any satisfy
  pub fixes : FixesRoots unrolled clauses
  pub satisfied : NodeValuesSatisfy unrolled clauses
  -- each satisfying assignment is one run of the machine, and shows the values of all property
  -- literals and of the last state
  pub assignments : AssignmentsAreRuns f circuit unrolled k clauses
  -- each run of the machine, from any state, is one satisfying assignment
  pub runs : RunsAreAssignments f circuit unrolled k clauses
