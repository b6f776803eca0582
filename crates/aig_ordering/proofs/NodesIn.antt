-- The nodes that a table of gates records.
use Rattle.std.proofs.Common.{◌≡◌, ℕ, zero, suc, ◌+◌, ◌<◌, ◌≤◌, max, min, List, [], ◌∷◌, length, get_or, Option, Some, refl, sym, ap, ◌∙◌, arith, inl, inr, ◌⊎◌}
use Rattle.aig_base.proofs.Words.{cases_lt}
use Rattle.aig_circuit.specs.declared.node.AigNode.{AigNode}
use Rattle.aig_circuit.proofs.Building.{and_of-turned}
use Rattle.aig_format.specs.File.{File}
use Rattle.aig_ordering.specs.declared.gates.Operands.{Operands}
use Rattle.aig_ordering.specs.Gates.{falling, kind_of_operands, node_in, nodes_in, nodes_in_from}
use Rattle.aig_ordering.specs.Lists.{edge_from, kind_among}
use Rattle.aig_ordering.specs.Tables.{AreNodesOf}
use Rattle.aig_ordering.proofs.Tables.{count-nodes, node_at}

-- ---- operands

-- a gate is the same in either order of its operands
pub kind-falling : (v : ℕ) (gate : Operands)
    → kind_of_operands v (Some (falling gate)) ≡ kind_of_operands v (Some gate)
kind-falling v gate = by_order (cases_lt gate.rhs0 gate.rhs1)
  where
    by_order : (gate.rhs0 < gate.rhs1) ⊎ (gate.rhs1 ≤ gate.rhs0)
        → kind_of_operands v (Some (falling gate)) ≡ kind_of_operands v (Some gate)
    by_order (inl rises) =
        let greater : max gate.rhs0 gate.rhs1 ≡ gate.rhs1 = omega arith in
        let lesser : min gate.rhs0 gate.rhs1 ≡ gate.rhs0 = omega arith in
        rw (greater, lesser) (and_of-turned (edge_from gate.rhs1) (edge_from gate.rhs0))
    by_order (inr falls) =
        let greater : max gate.rhs0 gate.rhs1 ≡ gate.rhs0 = omega arith in
        let lesser : min gate.rhs0 gate.rhs1 ≡ gate.rhs1 = omega arith in
        rw (greater, lesser) refl

-- ---- the nodes of a table

length-from : (v : ℕ) (gates : List (Option Operands))
    → length (nodes_in_from v gates) ≡ length gates
length-from v [] = refl
length-from v (gate ∷ gates) = ap suc (length-from (v + 1) gates)

at_from : (w v : ℕ) (gates : List (Option Operands)) (d : AigNode) (e : Option Operands)
    → v < length gates → get_or (nodes_in_from w gates) v d ≡ node_in (w + v) (get_or gates v e)
at_from w v [] d e h = absurd (omega arith)
at_from w zero (gate ∷ gates) d e h = let same : w ≡ w + 0 = omega arith in ap (λ u. node_in u gate) same
at_from w (suc v) (gate ∷ gates) d e h =
    let same : w + 1 + v ≡ w + suc v = omega arith in
    at_from (w + 1) v gates d e (omega arith) ∙ ap (λ u. node_in u (get_or gates v e)) same

-- as many nodes as gates
pub length-nodes_in : (gates : List (Option Operands)) → length (nodes_in gates) ≡ length gates
length-nodes_in gates = length-from 0 gates

-- the node at a place is that of the gate there
pub nodes_in-at : (gates : List (Option Operands)) (v : ℕ) (d : AigNode) (e : Option Operands)
    → v < length gates → get_or (nodes_in gates) v d ≡ node_in v (get_or gates v e)
nodes_in-at gates v d e h = let same : 0 + v ≡ v = omega arith in at_from 0 v gates d e h ∙ ap (λ u. node_in u (get_or gates v e)) same

module _ (f : File) (gates : List (Option Operands)) (are : AreNodesOf f (nodes_in gates)) where
  -- the table has each variable of the file
  pub count-gates : length gates ≡ f.greatest + 1
  count-gates = sym (length-nodes_in gates) ∙ count-nodes f (nodes_in gates) are

  -- and tells its kind
  pub kind_told : (v : ℕ) (e : Option Operands) → v < length gates
      → kind_among f.gates v ≡ kind_of_operands v (get_or gates v e)
  kind_told v e h =
      let typ = λ (n : AigNode). n.typ in
      let node = node_in v (get_or gates v e) in
      sym (ap typ (node_at f (nodes_in gates) are v node (omega (arith, length-nodes_in gates)))) ∙ ap typ (nodes_in-at gates v node e h)

  -- the gate that was read at its place tells its kind
  pub kind_read : (v : ℕ) (gate : Option Operands) → gate ≡ get_or gates v gate → v < length gates
      → kind_among f.gates v ≡ kind_of_operands v gate
  kind_read v gate is h = kind_told v gate h ∙ ap (kind_of_operands v) (sym is)
