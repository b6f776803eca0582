-- The lines of a circuit's gates.
use Rattle.aig_base.proofs.Words.{◌≡◌, ◌≢◌, ℕ, zero, suc, ◌+◌, ◌*◌, ◌/◌, ◌<◌, ◌≤◌, true, false, cond, Some, None, List, [], ◌∷◌, length, map, refl, sym, ap, subst, ◌∙◌, arith, ◌==◌, find, filter, filter_map, count_by, slice_get, nat_lt, AllByRecursion, cons_option, eq-eqb, ne_eqb, and_from, lt-ltb, same_Some, length-filter}
use Rattle.aig_circuit.specs.declared.edge.AigEdge.{AigEdge}
use Rattle.aig_circuit.specs.declared.node.AigNodeType.{AigNodeType}
use Rattle.aig_circuit.specs.declared.node.AigNodeType.TheVariants.{False, Leaf, And}
use Rattle.aig_circuit.specs.declared.node.AigNode.{AigNode}
use Rattle.aig_circuit.proofs.Words.{literal_of, kind_at, is_leaf}
use Rattle.aig_format.proofs.Words.{GateLine, is_increasing, gate_line}
use Rattle.aig_renumber.proofs.Order.{head_numbered, tail_numbered}

-- the line of a gate
abbrev pub line_for : ℕ → AigEdge → AigEdge → GateLine
line_for n a b = record { lhs = 2 * n; rhs0 = literal_of b; rhs1 = literal_of a }

-- the lines of nodes
abbrev pub lines_for : List AigNode → List GateLine
lines_for nodes = filter_map gate_line nodes

-- the first node's number is v, and each further one's is one more
abbrev pub AreNumbered : ℕ → List AigNode → Type 0
AreNumbered v nodes = (i : ℕ) (node : AigNode) → slice_get nodes i ≡ Some node → node.node_id ≡ v + i

gate_line-kind : (x : AigNode) (kind : AigNodeType) → x.typ ≡ kind → gate_line x ≡ gate_line (record { node_id = x.node_id; typ = kind })
gate_line-kind x kind is = ap (λ (t : AigNodeType). gate_line (record { node_id = x.node_id; typ = t })) is

-- what a node's line is, if it has one
pub data LineCase (v : ℕ) (x : AigNode) : Type 0 where
  has_line : (a b : AigEdge) → x.typ ≡ And a b → gate_line x ≡ Some (line_for v a b) → LineCase v x
  no_line : ((a b : AigEdge) → x.typ ≢ And a b) → gate_line x ≡ None → LineCase v x

pub line_case : (v : ℕ) (x : AigNode) → x.node_id ≡ v → LineCase v x
line_case v x is = by_kind x.typ refl
  where
    by_kind : (kind : AigNodeType) → x.typ ≡ kind → LineCase v x
    by_kind (And a b) h = has_line a b h (gate_line-kind x (And a b) h ∙ ap (λ n. Some (line_for n a b)) is)
    by_kind Leaf h = no_line (λ a b e. absurd cc) (gate_line-kind x Leaf h)
    by_kind False h = no_line (λ a b e. absurd cc) (gate_line-kind x False h)

-- ---- each line

-- each line has what the gates' lines have
pub lines_all : (P : GateLine → Type 0) (v : ℕ) (nodes : List AigNode) → AreNumbered v nodes → ((i : ℕ) (a b : AigEdge) → kind_at nodes i ≡ Some (And a b) → P (line_for (v + i) a b)) → AllByRecursion P (lines_for nodes)
lines_all P v [] are each = tt
lines_all P v (x ∷ xs) are each = by_case (line_case v x (head_numbered v x xs are)) (lines_all P (suc v) xs (tail_numbered v x xs are) (λ i a b h. let e : v + suc i ≡ suc v + i = omega arith in subst (λ n. P (line_for n a b)) e (each (suc i) a b h)))
  where
    by_case : LineCase v x → AllByRecursion P (lines_for xs) → AllByRecursion P (cons_option (gate_line x) (lines_for xs))
    by_case (has_line a b is line) rest = let e : v + 0 ≡ v = omega arith in rw line (subst (λ n. P (line_for n a b)) e (each 0 a b (ap Some is)), rest)
    by_case (no_line none line) rest = rw line rest

-- the line of each gate is found by its number
pub find_line : (v : ℕ) (nodes : List AigNode) → AreNumbered v nodes → (i : ℕ) (a b : AigEdge) → kind_at nodes i ≡ Some (And a b) → find (λ (g : GateLine). g.lhs / 2 == v + i) (lines_for nodes) ≡ Some (line_for (v + i) a b)
find_line v [] are i a b h = absurd cc
find_line v (x ∷ xs) are zero a b h = by_case (line_case v x (head_numbered v x xs are))
  where
    by_case : LineCase v x → find (λ (g : GateLine). g.lhs / 2 == v + 0) (cons_option (gate_line x) (lines_for xs)) ≡ Some (line_for (v + 0) a b)
    by_case (has_line c d is line) =
        let e : v + 0 ≡ v = omega arith in
        let same : And c d ≡ And a b = sym is ∙ same_Some _ _ h in
        let test : (2 * v / 2 == v + 0) ≡ true = eq-eqb (2 * v / 2) (v + 0) (omega arith) in
        rw (line, test) (ap Some (let ea : c ≡ a = cc in let eb : d ≡ b = cc in rw (ea, eb, e) refl))
    by_case (no_line none line) = absurd (none a b (same_Some _ _ h))
find_line v (x ∷ xs) are (suc i) a b h =
    let e : suc v + i ≡ v + suc i = omega arith in
    by_case (line_case v x (head_numbered v x xs are)) (subst (λ n. find (λ (g : GateLine). g.lhs / 2 == n) (lines_for xs) ≡ Some (line_for n a b)) e (find_line (suc v) xs (tail_numbered v x xs are) i a b h))
  where
    by_case : LineCase v x → find (λ (g : GateLine). g.lhs / 2 == v + suc i) (lines_for xs) ≡ Some (line_for (v + suc i) a b)
        → find (λ (g : GateLine). g.lhs / 2 == v + suc i) (cons_option (gate_line x) (lines_for xs)) ≡ Some (line_for (v + suc i) a b)
    by_case (has_line c d is line) rest =
        let test : (2 * v / 2 == v + suc i) ≡ false = ne_eqb (2 * v / 2) (v + suc i) (λ e. absurd (omega arith)) in
        rw (line, test) rest
    by_case (no_line none line) rest = rw line rest

-- ---- the literals that lines define

abbrev pub lefts : List GateLine → List ℕ
lefts gates = map (λ (g : GateLine). g.lhs) gates

-- no line defines a number below v
lefts_above : (v : ℕ) (nodes : List AigNode) → AreNumbered v nodes → AllByRecursion (λ (g : GateLine). 2 * v ≤ g.lhs) (lines_for nodes)
lefts_above v nodes are = lines_all (λ (g : GateLine). 2 * v ≤ g.lhs) v nodes are (λ i a b h. omega arith)

is_increasing_following : (e v : ℕ) (gates : List GateLine) → e < 2 * v → AllByRecursion (λ (g : GateLine). 2 * v ≤ g.lhs) gates → is_increasing (lefts gates) ≡ true → is_increasing (e ∷ lefts gates) ≡ true
is_increasing_following e v [] h all rest = refl
is_increasing_following e v (g ∷ gates) h all rest = and_from (nat_lt e g.lhs) (is_increasing (lefts (g ∷ gates))) (lt-ltb e g.lhs (omega (arith, all.0))) rest

pub lefts_rise : (v : ℕ) (nodes : List AigNode) → AreNumbered v nodes → is_increasing (lefts (lines_for nodes)) ≡ true
lefts_rise v [] are = refl
lefts_rise v (x ∷ xs) are = by_case (line_case v x (head_numbered v x xs are)) (lefts_rise (suc v) xs next)
  where
    next : AreNumbered (suc v) xs
    next = tail_numbered v x xs are

    by_case : LineCase v x → is_increasing (lefts (lines_for xs)) ≡ true → is_increasing (lefts (cons_option (gate_line x) (lines_for xs))) ≡ true
    by_case (has_line a b is line) rest = rw line (is_increasing_following (2 * v) (suc v) (lines_for xs) (omega arith) (lefts_above (suc v) xs next) rest)
    by_case (no_line none line) rest = rw line rest

-- ---- how many there are

filtered_count : (nodes : List AigNode) → ((i : ℕ) → kind_at nodes i ≢ Some False) → length (lines_for nodes) + length (filter (λ (node : AigNode). is_leaf node.typ) nodes) ≡ length nodes
filtered_count [] none = refl
filtered_count (x ∷ xs) none = by_kind x.typ refl (filtered_count xs (λ i. none (suc i)))
  where
    kept : List AigNode → List AigNode
    kept ys = filter (λ (node : AigNode). is_leaf node.typ) ys

    by_kind : (kind : AigNodeType) → x.typ ≡ kind → length (lines_for xs) + length (kept xs) ≡ length xs
        → length (cons_option (gate_line x) (lines_for xs)) + length (cond (is_leaf x.typ) (x ∷ kept xs) (kept xs)) ≡ suc (length xs)
    by_kind (And a b) h rest = let l = gate_line-kind x (And a b) h in rw (l, h) (omega (arith, rest))
    by_kind Leaf h rest = let l = gate_line-kind x Leaf h in rw (l, h) (omega (arith, rest))
    by_kind False h rest = absurd (none 0 (ap Some h))

-- nodes that are not false are gates or leaves
pub lines_count : (nodes : List AigNode) → ((i : ℕ) → kind_at nodes i ≢ Some False) → length (lines_for nodes) + count_by (λ node. is_leaf node.typ) nodes ≡ length nodes
lines_count nodes none = omega (arith, filtered_count nodes none, length-filter (λ (node : AigNode). is_leaf node.typ) nodes)
