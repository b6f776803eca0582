-- Small circuits reduced by computation, and wrong results, of which the definition is false.
use Rattle.aig_base.proofs.Words.{◌≡◌, ◌≢◌, ℕ, zero, suc, ◌≤◌, Bool, true, false, Some, List, [], ◌∷◌, length, refl, sym, ap, subst, ◌∙◌, inl, inr, arith, Contains, filter, empty, length-map, count_by-le-length, length-filter}
use Rattle.aig_circuit.specs.declared.node.AigNodeType.{AigNodeType}
use Rattle.aig_circuit.specs.declared.node.AigNodeType.TheVariants.{And, False, Leaf}
use Rattle.aig_circuit.specs.declared.node.AigNode.{AigNode}
use Rattle.aig_circuit.specs.declared.node.AigLatch.{AigLatch}
use Rattle.aig_circuit.proofs.Words.{kind_at, edge_to, Circuit, no_properties, is_in, position_of, renumbered_latch}
use Rattle.aig_circuit.specs.Tree.{tree_of}
use Rattle.aig_circuit.specs.Reach.{DependsOn, IsFanin, IsInCone, IsLatchNext, IsReached, root, step}
use Rattle.aig_renumber.proofs.Kept.{is_in-back, is_in-there}
use Rattle.aig_cone.specs.Refine.{AreKept, refined, refining_roots}
use Rattle.aig_cone.proofs.Keeping.{reached_within}
use Rattle.aig_strash.specs.Exchange.{image_of, kept_nodes}
use Rattle.aig_strash.specs.Strash.{strashed}
use Rattle.aig_edit_laws.specs.Reduction.{IsAskedCone, IsReduced, asked_alone}

abbrev node : ℕ → AigNodeType → AigNode
node n kind = record { node_id = n; typ = kind }

-- inputs 1 and 2: 1 is the output, and 2 is bad, and must be so
abbrev one_asked : Circuit
one_asked = record {
  nodes = node 0 False ∷ node 1 Leaf ∷ node 2 Leaf ∷ [];
  inputs = 1 ∷ 2 ∷ [];
  latchs = [];
  properties = record no_properties {
    outputs = edge_to 1 false ∷ [];
    bads = edge_to 2 false ∷ [];
    constraints = edge_to 2 false ∷ [];
  };
  names = empty;
}

-- only what is asked is a root, and reaches itself alone
one_asked-roots : (cone : List ℕ) → refining_roots (asked_alone cone one_asked) ≡ 2 ∷ 2 ∷ []
one_asked-roots cone = refl

one_asked-nodes : (cone : List ℕ)
    → (strashed (refined (0 ∷ 2 ∷ []) (asked_alone cone one_asked))).nodes
    ≡ node 0 False ∷ node 1 Leaf ∷ []
unfolding tree_of
one_asked-nodes cone = refl

one_asked-inputs : (cone : List ℕ)
    → (strashed (refined (0 ∷ 2 ∷ []) (asked_alone cone one_asked))).inputs ≡ 1 ∷ []
unfolding tree_of
one_asked-inputs cone = refl

-- the bad edges are cleared
no_cleared_bads : (new : Circuit) → IsReduced one_asked new → new.properties.bads ≢ []
no_cleared_bads new is none =
    let count : length new.properties.bads ≡ 1 = is.bads in omega (arith, count, ap length none)

-- the constraints are cleared
no_cleared_constraints : (new : Circuit) → IsReduced one_asked new → new.properties.constraints ≢ []
no_cleared_constraints new is none =
    let constraint_count = λ (c : Circuit). length c.properties.constraints in
    let count : constraint_count new ≡ 1 = ap constraint_count is.exact in
    omega (arith, count, ap length none)

-- the circuit itself: it has an output
no_clone : ¬ IsReduced one_asked one_asked
no_clone is =
    let count : 1 ≡ 0 = ap (λ (c : Circuit). length c.properties.outputs) is.exact in
    omega (arith, count)

-- ---- a circuit that is hashed, and isn't cut

reaches_2 : (cone : List ℕ) (n : ℕ)
    → IsReached (DependsOn (asked_alone cone one_asked)) (2 ∷ 2 ∷ []) n
    → n ≡ 2
reaches_2 cone =
    reached_within (λ n. n ≡ 2) roots
    (λ n m is before. ends m (subst (λ k. DependsOn (asked_alone cone one_asked) k m) is before))
  where
    roots : (n : ℕ) → Contains (2 ∷ 2 ∷ []) n → n ≡ 2
    roots n (zero, low, is) = sym is
    roots n (suc zero, low, is) = sym is
    roots n (suc (suc k), low, is) = absurd (omega arith)

    ends : (m : ℕ) → DependsOn (asked_alone cone one_asked) 2 m → m ≡ 2
    ends m (inl (a, b, kind, which)) = cc
    ends m (inr (latch, (k, low, is), from, to)) = absurd (omega arith)

-- so input 1 isn't kept
drops_1 : (cone kept : List ℕ) → AreKept (asked_alone cone one_asked) kept → ¬ Contains kept 1
drops_1 cone kept are has = wrong ((are.exactly 1).0 has)
  where
    wrong : IsInCone (asked_alone cone one_asked) (2 ∷ 2 ∷ []) 1 → ⊥
    wrong (inl is) = omega (arith, is)
    wrong (inr reached) = let is = reaches_2 cone 1 reached in omega (arith, is)

shrinks : (p : ℕ → Bool) (ns : List ℕ) → length (filter p ns) ≤ length ns
shrinks p ns = omega (arith, length-filter p ns, count_by-le-length p ns)

few_inputs : (cone kept : List ℕ) → is_in kept 1 ≡ false
    → length (strashed (refined kept (asked_alone cone one_asked))).inputs ≤ 1
few_inputs cone kept out =
    let old = filter (is_in kept) (1 ∷ 2 ∷ []) in
    let mid = refined kept (asked_alone cone one_asked) in
    let two : old ≡ filter (is_in kept) (2 ∷ []) = rw out refl in
    omega (
      arith,
      length-map (filter (is_in (kept_nodes mid.nodes)) mid.inputs) (image_of mid.nodes),
      shrinks (is_in (kept_nodes mid.nodes)) mid.inputs,
      length-map old (position_of kept),
      ap length two,
      shrinks (is_in kept) (2 ∷ []),
    )

no_hashed_alone : (cone : List ℕ) → ¬ IsReduced one_asked (strashed (asked_alone cone one_asked))
unfolding tree_of
no_hashed_alone cone is = by (is_in is.kept 1) refl
  where
    by : (b : Bool) → is_in is.kept 1 ≡ b → ⊥
    by true there = drops_1 is.cone is.kept is.are_kept (is_in-back is.kept 1 there)
    by false out =
        let new = strashed (refined is.kept (asked_alone is.cone one_asked)) in
        let count : 2 ≡ length new.inputs = ap (λ (c : Circuit). length c.inputs) is.exact in
        omega (arith, count, few_inputs is.cone is.kept out)

-- ---- latches

abbrev latch : ℕ → ℕ → AigLatch
latch leaf next =
    record { input = leaf; next = edge_to next false; init = Some (edge_to 0 false) }

-- three latches: the first is bad and reads the last, which reads itself, and the middle one reads
-- the first
abbrev one_unread : Circuit
one_unread = record {
  nodes = node 0 False ∷ node 1 Leaf ∷ node 2 Leaf ∷ node 3 Leaf ∷ [];
  inputs = [];
  latchs = latch 1 3 ∷ latch 2 1 ∷ latch 3 3 ∷ [];
  properties = record no_properties { bads = edge_to 1 false ∷ [] };
  names = empty;
}

abbrev read : List ℕ
read = 0 ∷ 1 ∷ 3 ∷ []

abbrev asked : List ℕ
asked = 1 ∷ 0 ∷ 0 ∷ 0 ∷ []

reaches_read : (n : ℕ) → Contains read n → IsInCone one_unread asked n
reaches_read n (zero, low, is) = inl (sym is)
reaches_read n (suc zero, low, is) =
    inr (subst (IsReached (DependsOn one_unread) asked) is (root (0, omega arith, refl)))
reaches_read n (suc (suc zero), low, is) =
    inr (subst (IsReached (DependsOn one_unread) asked) is (step (root (0, omega arith, refl)) (inr (latch 1 3, (0, omega arith, refl), refl, refl))))
reaches_read n (suc (suc (suc k)), low, is) = absurd (omega (arith, low))

-- but for the middle one each latch reads the last
reads_last : (n m : ℕ) → n ≢ 2 → IsLatchNext one_unread.latchs n m → m ≡ 3
reads_last n m other (l, (zero, low, is), from, to) =
    to ∙ sym (ap (λ (l : AigLatch). l.next.node_id) is)
reads_last n m other (l, (suc zero, low, is), from, to) =
    absurd (other (from ∙ sym (ap (λ (l : AigLatch). l.input) is)))
reads_last n m other (l, (suc (suc zero), low, is), from, to) =
    to ∙ sym (ap (λ (l : AigLatch). l.next.node_id) is)
reads_last n m other (l, (suc (suc (suc k)), low, is), from, to) = absurd (omega (arith, low))

no_gate : (n m : ℕ) → Contains read n → ¬ IsFanin one_unread.nodes n m
no_gate n m (zero, low, is) (a, b, kind, which) = is_false (subst (λ n. kind_at one_unread.nodes n ≡ Some (And a b)) (sym is) kind)
  where
    is_false : Some False ≡ Some (And a b) → ⊥
    is_false e = cc
no_gate n m (suc zero, low, is) (a, b, kind, which) = is_leaf (subst (λ n. kind_at one_unread.nodes n ≡ Some (And a b)) (sym is) kind)
  where
    is_leaf : Some Leaf ≡ Some (And a b) → ⊥
    is_leaf e = cc
no_gate n m (suc (suc zero), low, is) (a, b, kind, which) = is_leaf (subst (λ n. kind_at one_unread.nodes n ≡ Some (And a b)) (sym is) kind)
  where
    is_leaf : Some Leaf ≡ Some (And a b) → ⊥
    is_leaf e = cc
no_gate n m (suc (suc (suc k)), low, is) gate = absurd (omega (arith, low))

not_middle : (n : ℕ) → Contains read n → n ≢ 2
not_middle n (zero, low, is) e = omega (arith, is, e)
not_middle n (suc zero, low, is) e = omega (arith, is, e)
not_middle n (suc (suc zero), low, is) e = omega (arith, is, e)
not_middle n (suc (suc (suc k)), low, is) e = omega (arith, low)

reaches_only : (n : ℕ) → IsInCone one_unread asked n → Contains read n
reaches_only n (inl zeroth) = (0, omega arith, sym zeroth)
reaches_only n (inr reached) = reached_within (Contains read) roots along n reached
  where
    roots : (n : ℕ) → Contains asked n → Contains read n
    roots n (zero, low, is) = (1, omega arith, is)
    roots n (suc zero, low, is) = (0, omega arith, is)
    roots n (suc (suc zero), low, is) = (0, omega arith, is)
    roots n (suc (suc (suc zero)), low, is) = (0, omega arith, is)
    roots n (suc (suc (suc (suc k))), low, is) = absurd (omega (arith, low))

    along : (n m : ℕ) → Contains read n → DependsOn one_unread n m → Contains read m
    along n m has (inl gate) = absurd (no_gate n m has gate)
    along n m has (inr next) = (2, omega arith, sym (reads_last n m (not_middle n has) next))

one_unread-cone : IsAskedCone one_unread read
one_unread-cone n = (reaches_read n, reaches_only n)

one_unread-latchs : (strashed (refined read (asked_alone read one_unread))).latchs
    ≡ latch 1 2 ∷ latch 2 2 ∷ []
unfolding tree_of
one_unread-latchs = refl

-- each reduction has two latches
two_stay : (new : Circuit) → IsReduced one_unread new → length new.latchs ≡ 2
two_stay new is =
    let cone = is.cone in
    let mid = refined is.kept (asked_alone cone one_unread) in
    let first : is_in cone 1 ≡ true = is_in-there cone 1 ((is.is_cone 1).1 (reaches_read 1 (1, omega arith, refl))) in
    let middle : is_in cone 2 ≡ false = out (is_in cone 2) refl in
    let last : is_in cone 3 ≡ true = is_in-there cone 3 ((is.is_cone 3).1 (reaches_read 3 (2, omega arith, refl))) in
    let left : length (asked_alone cone one_unread).latchs ≡ 2 = rw (first, middle, last) refl in
    ap (λ (c : Circuit). length c.latchs) is.exact ∙ length-map mid.latchs (renumbered_latch (image_of mid.nodes))
    ∙ length-map (asked_alone cone one_unread).latchs (renumbered_latch (position_of is.kept)) ∙ left
  where
    out : (b : Bool) → is_in is.cone 2 ≡ b → is_in is.cone 2 ≡ false
    out false none = none
    out true there =
        absurd (not_middle 2 (reaches_only 2 ((is.is_cone 2).0 (is_in-back is.cone 2 there))) refl)

-- a needed latch is dropped
no_latch_dropped : (new : Circuit) → IsReduced one_unread new → length new.latchs ≢ 1
no_latch_dropped new is one = let two = two_stay new is in omega (arith, one, two)

-- a latch that nothing reads is kept
no_latch_kept : (new : Circuit) → IsReduced one_unread new → length new.latchs ≢ 3
no_latch_kept new is three = let two = two_stay new is in omega (arith, three, two)
