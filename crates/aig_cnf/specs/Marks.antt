-- Serves private clauses alone.
-- Marks of the nodes that need clauses, and the clauses of a node by its mark. (Tseitin encoding.)
use Rattle.std.specs.Prelude.{◌≡◌, ℕ, ◌⊎◌, ◌↔◌, Bool, IsTrue, List, []}
use Rattle.aig_base.specs.declared.logic.literal.Lit.{Lit}
use Rattle.aig_circuit.specs.declared.node.AigNode.{AigNode}
use Rattle.aig_cnf.specs.declared.form.Form.{Form}
use Rattle.aig_circuit.specs.Marks.{IsMarked}
use Rattle.aig_cnf.specs.Cnf.{HasForm, FormNames, clauses_of}

-- what the form of node n names is marked too where n is marked, and nothing else
abbrev pub AddsNeededMarks : List AigNode → Bool → List Bool → List Bool → ℕ → Type 0
AddsNeededMarks nodes optimize old new n =
    (m : ℕ) → IsMarked new m ↔ (IsMarked old m ⊎ (IsMarked old n × FormNames nodes optimize n m))

-- the clauses of node n, which needs clauses or not: those of its form, and else none
pub record AreClausesOf (nodes : List AigNode) (optimize : Bool) (needed : Bool) (n : ℕ)
    (clauses : List (List Lit)) : Type 0 where
  pub gate : (form : Form) → IsTrue needed → HasForm nodes optimize n form
      → clauses ≡ clauses_of n form
  pub none : ((form : Form) → ¬ (IsTrue needed × HasForm nodes optimize n form)) → clauses ≡ []
