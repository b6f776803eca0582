-- Part of what is promised.
-- Which gates of a circuit have clauses, which clauses these are, and what they say together.
-- A variable of the clauses is a node of the circuit, by its number. (Tseitin encoding.)
use Rattle.std.specs.Prelude.{◌≡◌, ◌≢◌, ◌≤◌, ◌*◌, ℕ, Bool, true, false, not, ◌&&◌, if◌then◌else◌, Some, List, [], ◌∷◌, length, All, slice_get}
use Rattle.aig_base.specs.declared.logic.literal.Lit.{Lit}
use Rattle.aig_base.specs.Clauses.{lit_to, and_clauses, xor_clauses, ite_clauses, AreBelow, Satisfies}
use Rattle.aig_base.specs.Formula.{clauses_in}
use Rattle.aig_circuit.specs.declared.edge.AigEdge.{AigEdge}
use Rattle.aig_circuit.specs.declared.node.AigNodeType.TheVariants.{And}
use Rattle.aig_circuit.specs.declared.node.AigNode.{AigNode}
use Rattle.aig_circuit.specs.Edge.{inverse, inverted_if, lit_of}
use Rattle.aig_circuit.specs.Node.{kind_at}
use Rattle.aig_circuit.specs.Tree.{node_value, edge_value}
use Rattle.aig_circuit.specs.Circuit.{Circuit}
use Rattle.aig_circuit.specs.Properties.{AllProperties}
use Rattle.aig_circuit.specs.Edges.{ReferTo, initial_edges, nodes_of, roots_of}
use Rattle.aig_circuit.specs.Reach.{IsReached, MarksExactly}
use Rattle.aig_circuit.specs.Runs.{next_edges}
use Rattle.aig_cnf.specs.declared.form.Form.{Form}
use Rattle.aig_cnf.specs.declared.form.Form.TheVariants.{AndOf, XorOf, IteOf}

-- the edge is inverted, and its node is the and of these two
pub record Inner (nodes : List AigNode) (e first second : AigEdge) : Type 0 where
  pub inverted : e.compl ≡ true
  pub gate : kind_at nodes e.node_id ≡ Some (And first second)

-- the and of a and b is the exclusive or of x and y: the inner gates are the and of x and y and the
-- and of their inverses
pub record IsXor (nodes : List AigNode) (a b x y : AigEdge) : Type 0 where
  pub first : Inner nodes a x y
  pub second : Inner nodes b (inverse x) (inverse y)
  pub different : x.node_id ≢ y.node_id

-- the first pair of operands, one of each inner gate, that are inverses: the if-then-else is on it
pub data Chooses (p0 p1 q0 q1 : AigEdge) : AigEdge → AigEdge → AigEdge → Type 0 where
  by_0_0 : p0 ≡ inverse q0 → Chooses p0 p1 q0 q1 p0 (inverse p1) (inverse q1)
  by_0_1 : p0 ≢ inverse q0 → p0 ≡ inverse q1 → Chooses p0 p1 q0 q1 p0 (inverse p1) (inverse q0)
  by_1_0 : p0 ≢ inverse q0 → p0 ≢ inverse q1 → p1 ≡ inverse q0
      → Chooses p0 p1 q0 q1 p1 (inverse p0) (inverse q1)
  by_1_1 : p0 ≢ inverse q0 → p0 ≢ inverse q1 → p1 ≢ inverse q0 → p1 ≡ inverse q1
      → Chooses p0 p1 q0 q1 p1 (inverse p0) (inverse q0)

-- the and of a and b is t where c is true and else e, which name three nodes
pub record IsIte (nodes : List AigNode) (a b c t e : AigEdge) : Type 0 where
  pub p0 : AigEdge
  pub p1 : AigEdge
  pub q0 : AigEdge
  pub q1 : AigEdge
  pub first : Inner nodes a p0 p1
  pub second : Inner nodes b q0 q1
  pub chooses : Chooses p0 p1 q0 q1 c t e
  pub c_t : c.node_id ≢ t.node_id
  pub c_e : c.node_id ≢ e.node_id
  pub t_e : t.node_id ≢ e.node_id

-- the form of gate n: the and of its operands; with `optimize` an exclusive or where it is one, and
-- else an if-then-else where it is one
pub data HasForm (nodes : List AigNode) (optimize : Bool) (n : ℕ) : Form → Type 0 where
  plain : {a b : AigEdge} → kind_at nodes n ≡ Some (And a b) → optimize ≡ false
      → HasForm nodes optimize n (AndOf a b)
  xor : {a b x y : AigEdge} → kind_at nodes n ≡ Some (And a b) → optimize ≡ true
      → IsXor nodes a b x y → HasForm nodes optimize n (XorOf x y)
  ite : {a b c t e : AigEdge} → kind_at nodes n ≡ Some (And a b) → optimize ≡ true
      → ((x y : AigEdge) → ¬ IsXor nodes a b x y) → IsIte nodes a b c t e
      → HasForm nodes optimize n (IteOf c t e)
  other : {a b : AigEdge} → kind_at nodes n ≡ Some (And a b) → optimize ≡ true
      → ((x y : AigEdge) → ¬ IsXor nodes a b x y) → ((c t e : AigEdge) → ¬ IsIte nodes a b c t e)
      → HasForm nodes optimize n (AndOf a b)

-- an edge's value where v gives each node its value
abbrev pub edge_in : (ℕ → Bool) → AigEdge → Bool
edge_in v e = inverted_if e.compl (v e.node_id)

-- the value that a form gives its gate, where v gives each node its value
abbrev pub form_value : (ℕ → Bool) → Form → Bool
form_value v (AndOf a b) = edge_in v a && edge_in v b
form_value v (XorOf x y) = if edge_in v x then not (edge_in v y) else edge_in v y
form_value v (IteOf c t e) = if edge_in v c then edge_in v t else edge_in v e

-- the edges that a form names
abbrev pub edges_of_form : Form → List AigEdge
edges_of_form (AndOf a b) = a ∷ b ∷ []
edges_of_form (XorOf x y) = x ∷ y ∷ []
edges_of_form (IteOf c t e) = c ∷ t ∷ e ∷ []

-- the form of gate n names node m
abbrev pub FormNames : List AigNode → Bool → ℕ → ℕ → Type 0
FormNames nodes optimize n m =
    (form : Form) × HasForm nodes optimize n form × ReferTo (edges_of_form form) m

-- the node needs clauses if it is a gate: it is reached from a root along the forms of gates
abbrev pub NeedsClauses : List AigNode → Bool → List AigEdge → ℕ → Type 0
NeedsClauses nodes optimize roots = IsReached (FormNames nodes optimize) (nodes_of roots)

-- the clauses that say that node n has the value of its form
abbrev pub clauses_of : ℕ → Form → List (List Lit)
clauses_of n (AndOf a b) = and_clauses (lit_to n true) (lit_of a ∷ lit_of b ∷ [])
clauses_of n (XorOf x y) = xor_clauses (lit_to n true) (lit_of x) (lit_of y)
clauses_of n (IteOf c t e) = ite_clauses (lit_to n true) (lit_of c) (lit_of t) (lit_of e)

-- one variable a node; variable 0 is false, a gate that needs clauses has those of its form, and no
-- other node has any
pub record HasClauses (c : Circuit) (optimize : Bool) (lists : List (List (List Lit)))
    : Type 0 where
  pub count : length lists ≡ length c.nodes
  pub zero : slice_get lists 0 ≡ Some ((lit_to 0 false ∷ []) ∷ [])
  pub needed : (n : ℕ) (form : Form) → NeedsClauses c.nodes optimize (roots_of c) n
      → HasForm c.nodes optimize n form → slice_get lists n ≡ Some (clauses_of n form)
  pub none : (n : ℕ) (clauses : List (List Lit)) → n ≢ 0
      → ((form : Form)
      → ¬ (NeedsClauses c.nodes optimize (roots_of c) n × HasForm c.nodes optimize n form))
      → slice_get lists n ≡ Some clauses → clauses ≡ []

-- exactly the nodes that need clauses are marked, and the circuit has so many clauses
pub record AreNeeded (c : Circuit) (optimize : Bool) (marks : List Bool) (total : ℕ) : Type 0 where
  pub exactly : MarksExactly c.nodes (NeedsClauses c.nodes optimize (roots_of c)) marks
  pub lists : List (List (List Lit))
  pub has_clauses : HasClauses c optimize lists
  pub below : All (AreBelow (length lists)) lists
  pub count : total ≡ length (clauses_in lists)
  pub few : total ≤ 4 * length c.nodes

-- each satisfying assignment gives the edge its value under the assignment's leaf values
abbrev pub IsFixed : Circuit → List (List (List Lit)) → AigEdge → Type 0
IsFixed c lists e = (v : ℕ → Bool) → Satisfies v lists → edge_in v e ≡ edge_value c.nodes v e

-- the clauses fix the edges of every list
pub record FixesRoots (c : Circuit) (lists : List (List (List Lit))) : Type 0 where
  pub properties : AllProperties (IsFixed c lists) c.properties
  pub next : All (IsFixed c lists) (next_edges c.latchs)
  pub initial : All (IsFixed c lists) (initial_edges c.latchs)

-- node values under any leaf values satisfy
abbrev pub NodeValuesSatisfy : Circuit → List (List (List Lit)) → Type 0
NodeValuesSatisfy c lists = (x : ℕ → Bool) → Satisfies (node_value c.nodes x) lists
