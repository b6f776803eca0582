-- The cone of what a query asks about, and the circuit with the latches alone that it reaches.
use Rattle.aig_base.proofs.Words.{◌≡◌, ◌≢◌, ℕ, ◌<◌, length, Bool, true, false, cond, ◌&&◌, Option, Some, None, List, [], ◌∷◌, ◌++◌, map, refl, sym, ap, subst, ◌∙◌, inl, inr, All, AllPairs, Contains, IfSome, filter, option_to_list, All-append, All-contains, All-cons, All-filter, All-map, All-nil, All-weaker, Contains-get_or, AllPairs-filter, same_Some}
use Rattle.aig_circuit.specs.declared.edge.AigEdge.{AigEdge}
use Rattle.aig_circuit.specs.declared.node.AigLatch.{AigLatch}
use Rattle.aig_circuit.specs.declared.node.AigNodeType.{AigNodeType}
use Rattle.aig_circuit.specs.declared.node.AigNodeType.TheVariants.{And, False, Leaf}
use Rattle.aig_circuit.proofs.Words.{Circuit, IsCircuit, IsInRange, IsLatch, IsLeaf, latch_leaves, inverted_if, initial_edges, nodes_of, kind_at, DependsOn, IsReached, root, step, is_in, edge_value, node_value}
use Rattle.aig_circuit.proofs.Lists.{All-first, All-flat_map, All-from_flat_map, All-second}
use Rattle.aig_circuit.proofs.Trees.{by_smaller, kind_at-there, kind_at-within, node_value-and, node_value-false, node_value-leaf}
use Rattle.aig_cone.proofs.Keeping.{along, reached_within}
use Rattle.aig_renumber.proofs.Places.{Contains-map}
use Rattle.aig_edit_laws.specs.Reduction.{IsAskedCone, asked_alone, asked_edges}

-- ---- the circuit

-- a filter by what entries are mapped to
map-filter : {X Y : Type 0} (f : X → Y) (test : Y → Bool) (xs : List X)
    → map f (filter (λ x. test (f x)) xs) ≡ filter test (map f xs)
map-filter f test [] = refl
map-filter f test (x ∷ xs) = by (test (f x)) (map-filter f test xs)
  where
    by : (b : Bool) → map f (filter (λ x. test (f x)) xs) ≡ filter test (map f xs)
        → map f (cond b (x ∷ filter (λ x. test (f x)) xs) (filter (λ x. test (f x)) xs))
        ≡ cond b (f x ∷ filter test (map f xs)) (filter test (map f xs))
    by true same = ap (λ ys. f x ∷ ys) same
    by false same = same

pub latch_leaves-asked : (cone : List ℕ) (c : Circuit)
    → latch_leaves (asked_alone cone c).latchs ≡ filter (is_in cone) (latch_leaves c.latchs)
latch_leaves-asked cone c = map-filter (λ (l : AigLatch). l.input) (is_in cone) c.latchs

pub IsCircuit-asked : (c : Circuit) (cone : List ℕ) → IsCircuit c → IsCircuit (asked_alone cone c)
IsCircuit-asked c cone is = record {
  nodes = is.nodes;
  inputs = is.inputs;
  inputs_distinct = is.inputs_distinct;
  latchs = All-filter (λ (l : AigLatch). is_in cone l.input) (IsLatch c.nodes) c.latchs is.latchs;
  latchs_distinct = subst (AllPairs (λ m n. m ≢ n)) (sym (latch_leaves-asked cone c)) (AllPairs-filter (λ m n. m ≢ n) (is_in cone) (latch_leaves c.latchs) is.latchs_distinct);
  apart = subst (All (λ n. ¬ Contains c.inputs n)) (sym (latch_leaves-asked cone c)) (All-filter (is_in cone) (λ n. ¬ Contains c.inputs n) (latch_leaves c.latchs) is.apart);
  properties = record {
    outputs = All-nil (IsInRange c.nodes);
    bads = is.properties.bads;
    constraints = is.properties.constraints;
    justice = All-nil (All (IsInRange c.nodes));
    fairness = All-nil (IsInRange c.nodes);
  };
  named = is.named;
}

-- ---- the cone

start_in : (nodes : List _) (o : Option AigEdge) → IfSome o (IsInRange nodes)
    → All (IsInRange nodes) (option_to_list o)
start_in nodes (Some e) there = All-cons (IsInRange nodes) e [] there (All-nil (IsInRange nodes))
start_in nodes None there = All-nil (IsInRange nodes)

asked_within : (c : Circuit) → IsCircuit c → All (IsInRange c.nodes) (asked_edges c)
asked_within c is =
    let starts = All-flat_map (IsInRange c.nodes) (λ (l : AigLatch). option_to_list l.init) c.latchs (All-weaker (IsLatch c.nodes) (λ l. All (IsInRange c.nodes) (option_to_list l.init)) (λ l h. start_in c.nodes l.init h.init) c.latchs is.latchs) in
    All-append (IsInRange c.nodes) (c.properties.bads ++ c.properties.constraints) (initial_edges c.latchs)
    (All-append (IsInRange c.nodes) c.properties.bads c.properties.constraints is.properties.bads is.properties.constraints) starts

pub asked_nodes_within : (c : Circuit) → IsCircuit c
    → All (λ n. n < length c.nodes) (nodes_of (asked_edges c))
asked_nodes_within c is =
    All-map (λ n. n < length c.nodes) (λ (e : AigEdge). e.node_id) (asked_edges c) (asked_within c is)

module _ (c : Circuit) (is : IsCircuit c) (cone : List ℕ) (is_cone : IsAskedCone c cone) where
  abbrev roots : List ℕ
  roots = nodes_of (asked_edges c)

  abbrev Within : ℕ → Type 0
  Within n = n < length c.nodes

  reached_in : (n : ℕ) → IsReached (DependsOn c) roots n → Contains cone n
  reached_in n h = (is_cone n).1 (inr h)

  asked_in : (e : AigEdge) → Contains (asked_edges c) e → Contains cone e.node_id
  asked_in e has =
      reached_in e.node_id (root (Contains-map (λ (e : AigEdge). e.node_id) (asked_edges c) e has))

  -- the edge's node is in it
  abbrev pub InCone : AigEdge → Type 0
  InCone e = Contains cone e.node_id

  abbrev properties : List AigEdge
  properties = c.properties.bads ++ c.properties.constraints

  asked_all : All InCone (asked_edges c)
  asked_all i d low = asked_in _ (Contains-get_or (asked_edges c) i d low)

  properties_in : All InCone properties
  properties_in = All-first InCone properties (initial_edges c.latchs) asked_all

  pub bads_in : All InCone c.properties.bads
  bads_in = All-first InCone c.properties.bads c.properties.constraints properties_in

  pub constraints_in : All InCone c.properties.constraints
  constraints_in = All-second InCone c.properties.bads c.properties.constraints properties_in

  pub starts_in : All (λ (l : AigLatch). All InCone (option_to_list l.init)) c.latchs
  starts_in =
      All-from_flat_map InCone (λ (l : AigLatch). option_to_list l.init) c.latchs
      (All-second InCone properties (initial_edges c.latchs) asked_all)

  no_kind : (k : AigNodeType) → k ≢ False → kind_at c.nodes 0 ≡ Some k → ⊥
  no_kind k other kind = other (same_Some _ _ (sym kind ∙ is.nodes.false_first))

  zero_alone : (m : ℕ) → DependsOn c 0 m → ⊥
  zero_alone m (inl (a, b, kind, which)) = no_kind (And a b) (λ e. cc) kind
  zero_alone m (inr (latch, (k, low, at), from, to)) =
      no_kind Leaf (λ e. cc) (subst (IsLeaf c.nodes) (sym from) (subst (λ (l : AigLatch). IsLeaf c.nodes l.input) at (is.latchs k latch low).leaf))

  pub step_in : (n m : ℕ) → Contains cone n → DependsOn c n m → Contains cone m
  step_in n m has depends = elim ((is_cone n).0 has) [
    | inl zeroth ↦ absurd (zero_alone m (subst (λ n. DependsOn c n m) zeroth depends))
    | inr h ↦ reached_in m (step h depends)
  ]

  within : (n : ℕ) → Contains cone n → Within n
  within n has = elim ((is_cone n).0 has) [
    | inl zeroth ↦ subst Within (sym zeroth) (kind_at-within c.nodes 0 False is.nodes.false_first)
    | inr h ↦ reached_within Within (λ m there. All-contains Within roots m (asked_nodes_within c is) there) (along c is) n h
  ]

  -- values of what is in the cone depend on the leaves in it alone
  module _ (x y : ℕ → Bool) (leaves : (n : ℕ) → Contains cone n → x n ≡ y n) where
    of_kind : (n : ℕ)
        → ((m : ℕ) → m < n → Contains cone m → node_value c.nodes x m ≡ node_value c.nodes y m)
        → Contains cone n → (k : AigNodeType) → kind_at c.nodes n ≡ Some k
        → node_value c.nodes x n ≡ node_value c.nodes y n
    of_kind n smaller has False kind =
        node_value-false c.nodes x n kind ∙ sym (node_value-false c.nodes y n kind)
    of_kind n smaller has Leaf kind =
        node_value-leaf c.nodes x n kind ∙ leaves n has ∙ sym (node_value-leaf c.nodes y n kind)
    of_kind n smaller has (And a b) kind =
        let o = is.nodes.ordered in
        let first = smaller a.node_id (o.first_before n a b kind) (step_in n a.node_id has (inl (a, b, kind, inl refl))) in
        let second = smaller b.node_id (o.second_before n a b kind) (step_in n b.node_id has (inl (a, b, kind, inr refl))) in
        node_value-and c.nodes o x n a b kind
        ∙ ap (λ v. inverted_if a.compl v && inverted_if b.compl (node_value c.nodes x b.node_id)) first
        ∙ ap (λ v. inverted_if a.compl (node_value c.nodes y a.node_id) && inverted_if b.compl v) second
        ∙ sym (node_value-and c.nodes o y n a b kind)

    node_same : (n : ℕ) → Contains cone n → node_value c.nodes x n ≡ node_value c.nodes y n
    node_same =
        by_smaller (λ n. Contains cone n → node_value c.nodes x n ≡ node_value c.nodes y n)
        (λ n smaller has. let k =
        kind_at-there c.nodes n (within n has) in of_kind n smaller has k.0 k.1)

    pub edge_same : (e : AigEdge) → Contains cone e.node_id
        → edge_value c.nodes x e ≡ edge_value c.nodes y e
    edge_same e has = ap (inverted_if e.compl) (node_same e.node_id has)
