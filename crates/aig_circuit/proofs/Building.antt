use Rattle.aig_base.proofs.Words.{◌≡◌, ℕ, zero, suc, ◌<◌, ◌≤◌, Bool, true, false, not, ◌&&◌, ◌⊎◌, Some, List, [], ◌∷◌, ◌++◌, length, take, refl, sym, ap, subst, ◌∙◌, arith, inl, inr, length-append, append_assoc, append-nil, take-append_seam, slice_get, cases_lt, nat_tests}
use Rattle.std.proofs.Math.Bool.{and_comm, and-true, and-false, and_self}
use Rattle.aig_circuit.specs.declared.edge.AigEdge.{AigEdge}
use Rattle.aig_circuit.specs.declared.node.AigNodeType.{AigNodeType}
use Rattle.aig_circuit.specs.declared.node.AigNodeType.TheVariants.{False, Leaf, And}
use Rattle.aig_circuit.specs.declared.node.AigNode.{AigNode}
use Rattle.aig_circuit.proofs.Words.{edge_to, inverted_if, literal_of, kind_at, FitsBelow, IsOrdered, and_of, node_value, edge_value, AreNodes, IsInRange}
use Rattle.aig_circuit.specs.Build.{with_node, Folds, true_first, true_second, false_first, false_second, same, opposite, AddsGate, AddsGates, GivesEdge, Grows}
use Rattle.aig_circuit.proofs.Edges.{literals-same}
use Rattle.aig_circuit.proofs.Trees.{kind_at-append, kind_at-last, kind_at-within, tree_of-agrees, node_value-agrees, node_value-and, node_value-false}

-- a node of a longer list is an old one or the last
get_push : {X : Type 0} (xs : List X) (y z : X) (n : ℕ) → slice_get (xs ++ y ∷ []) n ≡ Some z → ((n < length xs) × (slice_get xs n ≡ Some z)) ⊎ ((n ≡ length xs) × (y ≡ z))
get_push [] y z zero is = inr (refl, cc)
get_push [] y z (suc n) is = cc
get_push (x ∷ xs) y z zero is = inl (omega arith, is)
get_push (x ∷ xs) y z (suc n) is =
    elim (get_push xs y z n is) [ inl p ↦ inl (omega arith, p.1) | inr p ↦ inr (omega arith, p.1) ]

kind_push : (xs : List AigNode) (y : AigNode) (n : ℕ) (k : AigNodeType) → kind_at (xs ++ y ∷ []) n ≡ Some k → ((n < length xs) × (kind_at xs n ≡ Some k)) ⊎ ((n ≡ length xs) × (y.typ ≡ k))
kind_push [] y zero k is = inr (refl, cc)
kind_push [] y (suc n) k is = cc
kind_push (x ∷ xs) y zero k is = inl (omega arith, is)
kind_push (x ∷ xs) y (suc n) k is =
    elim (kind_push xs y n k is) [ inl p ↦ inl (omega arith, p.1) | inr p ↦ inr (omega arith, p.1) ]

-- the parts of one and
pub same_first : (a b c d : AigEdge) → And a b ≡ And c d → a ≡ c
same_first a b c d e = cc

pub same_second : (a b c d : AigEdge) → And a b ≡ And c d → b ≡ d
same_second a b c d e = cc

pub FitsBelow-And : (n : ℕ) (a b : AigEdge) → a.node_id < n → b.node_id < n → literal_of a ≤ literal_of b → FitsBelow n (And a b)
FitsBelow-And n a b i j l = record {
  first = λ c d e. subst (λ (x : AigEdge). x.node_id < n) (same_first a b c d e) i;
  second = λ c d e. subst (λ (x : AigEdge). x.node_id < n) (same_second a b c d e) j;
  in_order = λ c d e. subst (λ (x : AigEdge). literal_of x ≤ literal_of d) (same_first a b c d e) (subst (λ (x : AigEdge). literal_of a ≤ literal_of x) (same_second a b c d e) l);
}

-- the two edges of a gate, in the one order or the other
pub and_of-cases : (a b : AigEdge) → ((and_of a b ≡ And b a) × (literal_of b < literal_of a)) ⊎ ((and_of a b ≡ And a b) × (literal_of a ≤ literal_of b))
and_of-cases a b = grind (arith, nat_tests)

-- the and of two edges is that of the edges turned
pub and_of-turned : (a b : AigEdge) → and_of a b ≡ and_of b a
and_of-turned a b = elim (and_of-cases a b) [
  | inl p ↦ elim (and_of-cases b a) [
    | inl q ↦ absurd (omega (arith, p.1, q.1))
    | inr q ↦ p.0 ∙ sym q.0
  ]
  | inr p ↦ elim (and_of-cases b a) [
    | inl q ↦ p.0 ∙ sym q.0
    | inr q ↦ (let same = literals-same a b (omega (arith, p.1, q.1)) in ap (λ e. and_of e b) same ∙ ap (and_of b) (sym same))
  ]
]

and_not_false : (a b : AigEdge) → And a b ≡ False → ⊥
and_not_false a b e = cc

pub and_of-not_false : (a b : AigEdge) → and_of a b ≡ False → ⊥
and_of-not_false a b e = elim (and_of-cases a b) [ inl p ↦ and_not_false _ _ (sym p.0 ∙ e) | inr p ↦ and_not_false _ _ (sym p.0 ∙ e) ]

pub FitsBelow-and_of : (n : ℕ) (a b : AigEdge) → a.node_id < n → b.node_id < n → FitsBelow n (and_of a b)
FitsBelow-and_of n a b i j = elim (and_of-cases a b) [
  | inl p ↦ subst (FitsBelow n) (sym p.0) (FitsBelow-And n b a j i (omega arith))
  | inr p ↦ subst (FitsBelow n) (sym p.0) (FitsBelow-And n a b i j p.1)
]

pub IsOrdered-with_node : (nodes : List AigNode) (kind : AigNodeType) → IsOrdered nodes → FitsBelow (length nodes) kind → IsOrdered (with_node nodes kind)
IsOrdered-with_node nodes kind o fits = record {
  first_before = λ n a b is. elim (kind_push nodes _ n (And a b) is) [ inl p ↦ o.first_before n a b p.1 | inr p ↦ rw p.0 (fits.first a b p.1) ];
  second_before = λ n a b is. elim (kind_push nodes _ n (And a b) is) [ inl p ↦ o.second_before n a b p.1 | inr p ↦ rw p.0 (fits.second a b p.1) ];
  in_order = λ n a b is. elim (kind_push nodes _ n (And a b) is) [ inl p ↦ o.in_order n a b p.1 | inr p ↦ fits.in_order a b p.1 ];
}

pub AreNodes-with_node : (nodes : List AigNode) (kind : AigNodeType) → AreNodes nodes → (kind ≡ False → ⊥) → FitsBelow (length nodes) kind → AreNodes (with_node nodes kind)
AreNodes-with_node nodes kind s f fits = record {
  false_first = kind_at-append nodes _ 0 (kind_at-within nodes 0 False s.false_first) ∙ s.false_first;
  false_once = λ n is. elim (kind_push nodes _ n False is) [ inl p ↦ s.false_once n p.1 | inr p ↦ absurd (f p.1) ];
  numbered = λ n node is. elim (get_push nodes _ node n is) [ inl p ↦ s.numbered n node p.1 | inr p ↦ sym (ap (λ (x : AigNode). x.node_id) p.1) ∙ sym p.0 ];
  ordered = IsOrdered-with_node nodes kind s.ordered fits;
}

pub Grows-longer : (xs ys : List AigNode) → Grows xs ys → length xs ≤ length ys
Grows-longer xs ys g = g.longer

pub Grows-kept : (xs ys : List AigNode) → Grows xs ys → (n : ℕ) → n < length xs → kind_at ys n ≡ kind_at xs n
Grows-kept xs ys g n h = rw g.appended (kind_at-append xs g.added n h)

-- sound nodes that begin with others grow from these
pub grows_by_appending : (xs ys : List AigNode) → AreNodes (xs ++ ys) → Grows xs (xs ++ ys)
grows_by_appending xs ys s = record {
  sound = s;
  added = ys;
  appended = refl;
  longer = omega (arith, length-append xs ys);
  trees = λ n h. tree_of-agrees (xs ++ ys) xs s.ordered n (λ m k. kind_at-append xs ys m (omega arith));
  values = λ x e h. ap (inverted_if e.compl) (node_value-agrees (xs ++ ys) xs s.ordered x e.node_id (λ m k. kind_at-append xs ys m (omega arith)));
}

pub Grows-itself : (nodes : List AigNode) → AreNodes nodes → Grows nodes nodes
Grows-itself nodes s = record {
  sound = s;
  added = [];
  appended = sym (append-nil nodes);
  longer = omega arith;
  trees = λ n h. refl;
  values = λ x e h. refl;
}

pub Grows-then : (xs ys zs : List AigNode) → Grows xs ys → Grows ys zs → Grows xs zs
Grows-then xs ys zs p q =
    let longer : length xs ≤ length ys = p.longer in
    record {
      sound = q.sound;
      added = p.added ++ q.added;
      appended = q.appended ∙ ap (λ l. l ++ q.added) p.appended ∙ append_assoc xs p.added q.added;
      longer = omega arith;
      trees = λ n h. q.trees n (omega arith) ∙ p.trees n h;
      values = λ x e h. q.values x e (omega arith) ∙ p.values x e h;
    }

pub Grows-with_node : (nodes : List AigNode) (kind : AigNodeType) → AreNodes nodes → (kind ≡ False → ⊥) → FitsBelow (length nodes) kind → Grows nodes (with_node nodes kind)
Grows-with_node nodes kind s f fits =
    grows_by_appending nodes (record { node_id = length nodes; typ = kind } ∷ []) (AreNodes-with_node nodes kind s f fits)

-- cut back to the old length it is the old list
pub take-Grows : (xs ys : List AigNode) → Grows xs ys → take (length xs) ys ≡ xs
take-Grows xs ys g = rw g.appended (take-append_seam xs g.added)

FitsBelow-Leaf : (n : ℕ) → FitsBelow n Leaf
FitsBelow-Leaf n = record { first = λ a b e. cc; second = λ a b e. cc; in_order = λ a b e. cc }

leaf_not_false : Leaf ≡ False → ⊥
leaf_not_false e = cc

pub Grows-leaf : (nodes : List AigNode) → AreNodes nodes → Grows nodes (with_node nodes Leaf)
Grows-leaf nodes s = Grows-with_node nodes Leaf s leaf_not_false (FitsBelow-Leaf _)

pub AddsGates-itself : (nodes : List AigNode) → AreNodes nodes → AddsGates nodes nodes
AddsGates-itself nodes s = record {
  grows = Grows-itself nodes s;
  gates = λ n h i. absurd (omega arith);
}

pub AddsGates-then : (xs ys zs : List AigNode) → AddsGates xs ys → AddsGates ys zs → AddsGates xs zs
AddsGates-then xs ys zs p q = record {
  grows = Grows-then xs ys zs p.grows q.grows;
  gates = λ n h i. elim (cases_lt n (length ys)) [
    | inl l ↦ (let old = p.gates n h l in (old.0, old.1, Grows-kept ys zs q.grows n l ∙ old.2))
    | inr l ↦ q.gates n l i
  ];
}

pub AddsGates-with_node : (nodes : List AigNode) (a b : AigEdge) → AreNodes nodes → a.node_id < length nodes → b.node_id < length nodes → AddsGates nodes (with_node nodes (and_of a b))
AddsGates-with_node nodes a b s i j = record {
  grows = Grows-with_node nodes (and_of a b) s (and_of-not_false a b) (FitsBelow-and_of (length nodes) a b i j);
  gates = λ n h l.
      let here : n ≡ length nodes = omega (arith, length-append nodes (record { node_id = length nodes; typ = and_of a b } ∷ [])) in
      elim (and_of-cases a b) [
        | inl p ↦ (b, a, rw here (kind_at-last nodes _ ∙ ap Some p.0))
        | inr p ↦ (a, b, rw here (kind_at-last nodes _ ∙ ap Some p.0))
      ];
}

-- edges to old nodes keep their values
pub edge_value-Grows : (xs ys : List AigNode) → AreNodes xs → Grows xs ys → (x : ℕ → Bool) (e : AigEdge) → e.node_id < length xs → edge_value ys x e ≡ edge_value xs x e
edge_value-Grows xs ys s p x e h = p.values x e h

and_inverse : (i v : Bool) → (inverted_if (not i) v && inverted_if i v) ≡ false
and_inverse true true = refl
and_inverse true false = refl
and_inverse false true = refl
and_inverse false false = refl

-- a gate whose operands were put in order has the value of the and of the two
pub node_value-and_of : (nodes : List AigNode) → IsOrdered nodes → (x : ℕ → Bool) (n : ℕ) (a b : AigEdge) → kind_at nodes n ≡ Some (and_of a b) → node_value nodes x n ≡ (edge_value nodes x a && edge_value nodes x b)
node_value-and_of nodes o x n a b is = elim (and_of-cases a b) [
  | inl p ↦ node_value-and nodes o x n b a (is ∙ ap Some p.0) ∙ and_comm (edge_value nodes x b) (edge_value nodes x a)
  | inr p ↦ node_value-and nodes o x n a b (is ∙ ap Some p.0)
]

-- the new gate has the value of the and
pub GivesEdge-AddsGate : (old new : List AigNode) (a b e : AigEdge) → AreNodes old → IsInRange old a
    → IsInRange old b → AddsGate old new a b e
    → GivesEdge new (λ x. edge_value old x a && edge_value old x b) e
GivesEdge-AddsGate old new a b e s i j adds = record {
  there = rw (adds.edge, adds.gate) (omega (arith, length-append {A = AigNode}));
  value = λ x.
      let grown = AddsGates-with_node old a b s i j in
      let last = kind_at-last old (record { node_id = length old; typ = and_of a b }) in
      let at : (f : AigEdge) → IsInRange old f → edge_value (with_node old (and_of a b)) x f ≡ edge_value old x f = edge_value-Grows old _ s grown.grows x in
      rw (adds.gate, adds.edge) (
      node_value-and_of _ grown.grows.sound.ordered x (length old) a b last
      ∙ ap (λ v. v && edge_value (with_node old (and_of a b)) x b) (at a i) ∙ ap (λ v. edge_value old x a && v) (at b j));
}

-- what two edges fold to has the value of their and
pub GivesEdge-Folds : (nodes : List AigNode) (a b e : AigEdge) → AreNodes nodes → IsInRange nodes a
    → IsInRange nodes b → Folds a b e
    → GivesEdge nodes (λ x. edge_value nodes x a && edge_value nodes x b) e
GivesEdge-Folds nodes a b e s i j folds = record { there = there folds; value = λ x. value folds x }
  where
    zero_there : IsInRange nodes (edge_to 0 false)
    zero_there = kind_at-within nodes 0 False s.false_first

    there : Folds a b e → IsInRange nodes e
    there (true_first p q) = subst (IsInRange nodes) (sym q) j
    there (true_second p q) = subst (IsInRange nodes) (sym q) i
    there (false_first p q) = subst (IsInRange nodes) (sym q) zero_there
    there (false_second p q) = subst (IsInRange nodes) (sym q) zero_there
    there (same p q) = subst (IsInRange nodes) (sym q) i
    there (opposite p q) = subst (IsInRange nodes) (sym q) zero_there

    value : Folds a b e → (x : ℕ → Bool)
        → edge_value nodes x e ≡ (edge_value nodes x a && edge_value nodes x b)
    value (true_first p q) x = let zero_false = node_value-false nodes x 0 s.false_first in rw (p, q, zero_false)
    value (true_second p q) x = let zero_false = node_value-false nodes x 0 s.false_first in rw (p, q, zero_false) (sym (and-true _))
    value (false_first p q) x = let zero_false = node_value-false nodes x 0 s.false_first in rw (p, q, zero_false)
    value (false_second p q) x = let zero_false = node_value-false nodes x 0 s.false_first in rw (p, q, zero_false) (sym (and-false _))
    value (same p q) x = rw (q, p) (sym (and_self _))
    value (opposite p q) x = let zero_false = node_value-false nodes x 0 s.false_first in rw (p, q, zero_false) (sym (and_inverse b.compl _))
