-- Serves private clauses alone.
-- The forms that a gate has beside the and of its operands. (Tseitin encoding of the exclusive or
-- and of if-then-else.)
use Rattle.std.specs.Prelude.{◌≡◌, ◌≢◌, List}
use Rattle.aig_circuit.specs.declared.edge.AigEdge.{AigEdge}
use Rattle.aig_circuit.specs.declared.node.AigNode.{AigNode}
use Rattle.aig_circuit.specs.Edge.{inverse}
use Rattle.aig_cnf.specs.declared.form.Form.{Form}
use Rattle.aig_cnf.specs.declared.form.Form.TheVariants.{XorOf, IteOf}
use Rattle.aig_cnf.specs.Cnf.{IsXor, IsIte}

-- the first pair is the inverse of the second, and names two nodes
pub record AreOpposite (p0 p1 q0 q1 : AigEdge) : Type 0 where
  pub first : p0 ≡ inverse q0
  pub second : p1 ≡ inverse q1
  pub different : p0.node_id ≢ p1.node_id

-- the edges name three nodes
pub record AreApart (c t e : AigEdge) : Type 0 where
  pub c_t : c.node_id ≢ t.node_id
  pub c_e : c.node_id ≢ e.node_id
  pub t_e : t.node_id ≢ e.node_id

-- the and of a and b is an exclusive or, or else an if-then-else
pub data HasPattern (nodes : List AigNode) (a b : AigEdge) : Form → Type 0 where
  is_xor : {x y : AigEdge} → IsXor nodes a b x y → HasPattern nodes a b (XorOf x y)
  is_ite : {c t e : AigEdge} → ((x y : AigEdge) → ¬ IsXor nodes a b x y) → IsIte nodes a b c t e
      → HasPattern nodes a b (IteOf c t e)
