-- What the forms of gates name: nodes below them.
use Rattle.aig_base.proofs.Words.{◌≡◌, ℕ, ◌<◌, Bool, Some, None, Option, List, [], ◌∷◌, length, map, subst, arith, flat_map, get_or-map, length-map, All-nil, All-cons, All-append, All-weaker}
use Rattle.std.specs.Prelude.{All, IfSome, Vec, option_to_list}
use Rattle.std.specs.declared.alloc.Global.{Global}
use Rattle.aig_circuit.specs.declared.edge.AigEdge.{AigEdge}
use Rattle.aig_circuit.specs.declared.node.AigNodeType.TheVariants.{And}
use Rattle.aig_circuit.specs.declared.node.AigNode.{AigNode}
use Rattle.aig_circuit.proofs.Words.{inverse, kind_at, IsOrdered, Circuit, IsCircuit, IsInRange, IsLatch, latch_edges, property_edges, roots_of, root, step}
use Rattle.aig_circuit.specs.declared.node.AigLatch.{AigLatch}
use Rattle.aig_cnf.specs.declared.form.Form.{Form}
use Rattle.aig_cnf.specs.Cnf.{HasForm, plain, xor, ite, other, Chooses, by_0_0, by_0_1, by_1_0, by_1_1, FormNames, NeedsClauses, edges_of_form}
use Rattle.aig_circuit.proofs.Listed.{All-entries_of}
use Rattle.aig_circuit.proofs.Lists.{All-flat_map}
use Rattle.aig_circuit.proofs.Marking.{named_has}

-- the edge's node is below n
abbrev IsBelow : ℕ → AigEdge → Type 0
IsBelow n e = e.node_id < n

two_below : (n : ℕ) (a b : AigEdge) → IsBelow n a → IsBelow n b → All (IsBelow n) (a ∷ b ∷ [])
two_below n a b h i = All-cons (IsBelow n) a (b ∷ []) h (All-cons (IsBelow n) b [] i (All-nil (IsBelow n)))

three_below : (n : ℕ) (a b c : AigEdge) → IsBelow n a → IsBelow n b → IsBelow n c → All (IsBelow n) (a ∷ b ∷ c ∷ [])
three_below n a b c h i j = All-cons (IsBelow n) a (b ∷ c ∷ []) h (two_below n b c i j)

chosen_below : (n : ℕ) (p0 p1 q0 q1 c t e : AigEdge) → IsBelow n p0 → IsBelow n p1 → IsBelow n q0 → IsBelow n q1 → Chooses p0 p1 q0 q1 c t e → All (IsBelow n) (c ∷ t ∷ e ∷ [])
chosen_below n p0 p1 q0 q1 _ _ _ h i j k (by_0_0 _) = three_below n p0 (inverse p1) (inverse q1) h i k
chosen_below n p0 p1 q0 q1 _ _ _ h i j k (by_0_1 _ _) = three_below n p0 (inverse p1) (inverse q0) h i j
chosen_below n p0 p1 q0 q1 _ _ _ h i j k (by_1_0 _ _ _) = three_below n p1 (inverse p0) (inverse q1) i h k
chosen_below n p0 p1 q0 q1 _ _ _ h i j k (by_1_1 _ _ _ _) = three_below n p1 (inverse p0) (inverse q0) i h j

-- the edges that a gate's form names are below it
pub edges_below : (nodes : List AigNode) → IsOrdered nodes → (optimize : Bool) (n : ℕ) (form : Form) → HasForm nodes optimize n form → All (λ e. e.node_id < n) (edges_of_form form)
edges_below nodes o optimize n _ (plain {a = a} {b = b} is _) = two_below n a b (o.first_before n a b is) (o.second_before n a b is)
edges_below nodes o optimize n _ (other {a = a} {b = b} is _ _ _) = two_below n a b (o.first_before n a b is) (o.second_before n a b is)
edges_below nodes o optimize n _ (xor {a = a} {b = b} {x = x} {y = y} is _ f) =
    let gate = o.first_before n a b is in
    let first = o.first_before a.node_id x y f.first.gate in
    let second = o.second_before a.node_id x y f.first.gate in
    two_below n x y (omega (arith, gate, first)) (omega (arith, gate, second))
edges_below nodes o optimize n _ (ite {a = a} {b = b} {c = c} {t = t} {e = e} is _ _ f) =
    let left = o.first_before n a b is in
    let right = o.second_before n a b is in
    let first = o.first_before a.node_id f.p0 f.p1 f.first.gate in
    let second = o.second_before a.node_id f.p0 f.p1 f.first.gate in
    let third = o.first_before b.node_id f.q0 f.q1 f.second.gate in
    let fourth = o.second_before b.node_id f.q0 f.q1 f.second.gate in
    chosen_below n f.p0 f.p1 f.q0 f.q1 c t e (omega (arith, left, first)) (omega (arith, left, second)) (omega (arith, right, third)) (omega (arith, right, fourth)) f.chooses

-- what has a form is a gate
pub has_gate : (nodes : List AigNode) (optimize : Bool) (n : ℕ) (form : Form) → HasForm nodes optimize n form → (a : AigEdge) × (b : AigEdge) × (kind_at nodes n ≡ Some (And a b))
has_gate nodes optimize n _ (plain {a = a} {b = b} is _) = (a, b, is)
has_gate nodes optimize n _ (xor {a = a} {b = b} is _ _) = (a, b, is)
has_gate nodes optimize n _ (ite {a = a} {b = b} is _ _ _) = (a, b, is)
has_gate nodes optimize n _ (other {a = a} {b = b} is _ _ _) = (a, b, is)

-- a form names nodes below its gate alone
pub named_below : (nodes : List AigNode) → IsOrdered nodes → (optimize : Bool) (n m : ℕ) → FormNames nodes optimize n m → m < n
named_below nodes o optimize n m (form, has, named) = named_has (λ k. k < n) (edges_of_form form) m (edges_below nodes o optimize n form has) named

-- what needs clauses is there
pub needed_within : (nodes : List AigNode) → IsOrdered nodes → (optimize : Bool) (roots : List AigEdge) → All (IsInRange nodes) roots → (n : ℕ) → NeedsClauses nodes optimize roots n → n < length nodes
needed_within nodes o optimize roots all n (root named) = named_has (λ k. k < length nodes) roots n all named
needed_within nodes o optimize roots all n (step {n = g} needed calls) =
    let above = needed_within nodes o optimize roots all g needed in
    let below = named_below nodes o optimize g n calls in
    omega (arith, above, below)

option_in_range : (nodes : List AigNode) (o : Option AigEdge) → IfSome o (IsInRange nodes) → All (IsInRange nodes) (option_to_list o)
option_in_range nodes (Some e) h = All-cons (IsInRange nodes) e [] h (All-nil (IsInRange nodes))
option_in_range nodes None h = All-nil (IsInRange nodes)

-- a view lends the sets as vectors
pub sets_in_range : (nodes : List AigNode) (sets : List (Vec AigEdge Global)) → All (All (IsInRange nodes)) (map (λ set. set.items) sets) → All (λ set. All (IsInRange nodes) set.items) sets
sets_in_range nodes sets all k d h =
    let items = λ (set : Vec AigEdge Global). set.items in
    let within : k < length (map items sets) = rw length-map h in
    subst (All (IsInRange nodes)) (get_or-map items sets k d d.items h) (all k d.items within)

pub latches_in_range : (nodes : List AigNode) (latchs : List AigLatch) → All (IsLatch nodes) latchs → All (λ latch. All (IsInRange nodes) (latch_edges latch)) latchs
latches_in_range nodes latchs all =
    All-weaker (IsLatch nodes) (λ latch. All (IsInRange nodes) (latch_edges latch))
    (λ latch h. All-cons (IsInRange nodes) latch.next (option_to_list latch.init) h.next (option_in_range nodes latch.init h.init))
    latchs all

-- every root names a node that is there
pub roots_in_range : (c : Circuit) → IsCircuit c → All (IsInRange c.nodes) (roots_of c)
roots_in_range c is =
    All-append (IsInRange c.nodes) (property_edges c) (flat_map latch_edges c.latchs)
    (All-entries_of (IsInRange c.nodes) c.properties is.properties)
    (All-flat_map (IsInRange c.nodes) latch_edges c.latchs (latches_in_range c.nodes c.latchs is.latchs))
