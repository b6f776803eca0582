-- Serves private clauses alone.
-- The clauses of a circuit's nodes by their marks, and pieces that are put into a text from its end
-- on.
use Rattle.std.specs.Prelude.{◌≡◌, ◌≢◌, ◌<◌, ℕ, Bool, false, List, [], ◌∷◌, ◌++◌, length, drop, slice_get, slice_index_or, Some}
use Rattle.aig_base.specs.declared.logic.literal.Lit.{Lit}
use Rattle.aig_base.specs.Clauses.{lit_to}
use Rattle.aig_circuit.specs.declared.node.AigNode.{AigNode}
use Rattle.aig_cnf.specs.Marks.{AreClausesOf}

-- the piece stands from `start` on, and then what stood from `at` on
pub record Puts (old : List ℕ) (at : ℕ) (new : List ℕ) (start : ℕ) (piece : List ℕ) : Type 0 where
  pub text : drop start new ≡ piece ++ drop at old

-- variable 0 is false, and each other node has the clauses of its form where it is marked
pub record AreByMarks (nodes : List AigNode) (optimize : Bool) (marks : List Bool)
    (lists : List (List (List Lit))) : Type 0 where
  pub count : length lists ≡ length nodes
  pub zero : slice_get lists 0 ≡ Some ((lit_to 0 false ∷ []) ∷ [])
  pub each : (n : ℕ) → n ≢ 0 → n < length nodes
      → AreClausesOf nodes optimize (slice_index_or marks n false) n (slice_index_or lists n [])
