-- Marks that are set, and the marks of what is reached along operands.
use Rattle.std.proofs.Common.{◌≡◌, ℕ, zero, suc, ◌+◌, ◌<◌, ◌≤◌, ◌⊎◌, ◌↔◌, Bool, true, false, Some, List, [], ◌∷◌, ◌++◌, length, take, get_or, set, get_or-set_other, get_or-set_same, length-set, replicate, sym, ap, subst, ◌∙◌, arith, inl, inr}
use Rattle.aig_base.proofs.Words.{Contains, cases_eq, cases_lt, false≢true, take_more, Contains-append_left, Contains-push, Contains-push_cases, same_Some}
use Rattle.aig_circuit.specs.declared.edge.AigEdge.{AigEdge}
use Rattle.aig_circuit.specs.declared.node.AigNodeType.TheVariants.{And}
use Rattle.aig_circuit.specs.declared.node.AigNode.{AigNode}
use Rattle.aig_circuit.proofs.Words.{IsOrdered, kind_at, IsFanin, IsReached, root, step, IsMarked}
use Rattle.aig_circuit.proofs.Trees.{kind_at-within}
use Rattle.aig_cone.specs.Marks.{AddsMarks}

-- a mark that is set, and the others as they were
pub AddsMarks-set : (marks : List Bool) (i : ℕ) → i < length marks
    → AddsMarks marks (set marks i true) (λ n. n ≡ i)
AddsMarks-set marks i h n = elim (cases_eq n i) [
  | inl e ↦ (λ m. inr e, λ m. rw (e, get_or-set_same))
  | inr ne ↦ (λ m. inl (rw get_or-set_other at m), λ m. elim m [ inl old ↦ rw get_or-set_other old | inr e ↦ absurd (ne e) ])
]

pub AddsMarks-then : (P Q : ℕ → Type 0) (a b c : List Bool) → AddsMarks a b P → AddsMarks b c Q
    → AddsMarks a c (λ n. P n ⊎ Q n)
AddsMarks-then P Q a b c p q n = (
  λ m. elim ((q n).0 m) [
    | inl in_b ↦ elim ((p n).0 in_b) [ inl in_a ↦ inl in_a | inr h ↦ inr (inl h) ]
    | inr h ↦ inr (inr h)
  ],
  λ m. elim m [
    | inl in_a ↦ (q n).1 (inl ((p n).1 (inl in_a)))
    | inr h ↦ elim h [ inl l ↦ (q n).1 (inl ((p n).1 (inr l))) | inr r ↦ (q n).1 (inr r) ]
  ],
)

pub AddsMarks-same : (P Q : ℕ → Type 0) (a b : List Bool) → ((n : ℕ) → P n ↔ Q n) → AddsMarks a b P
    → AddsMarks a b Q
AddsMarks-same P Q a b same p n = (
  λ m. elim ((p n).0 m) [ inl old ↦ inl old | inr h ↦ inr ((same n).0 h) ],
  λ m. elim m [ inl old ↦ (p n).1 (inl old) | inr h ↦ (p n).1 (inr ((same n).1 h)) ],
)

pub AddsMarks-none : (P : ℕ → Type 0) (a : List Bool) → ((n : ℕ) → ¬ P n) → AddsMarks a a P
AddsMarks-none P a none n = (λ m. inl m, λ m. elim m [ inl old ↦ old | inr h ↦ absurd (none n h) ])

-- nothing is marked to begin with
pub none_marked : (count n : ℕ) → ¬ IsMarked (replicate count false) n
none_marked zero n h = false≢true h
none_marked (suc count) zero h = false≢true h
none_marked (suc count) (suc n) h = none_marked count n h

-- the operands of a gate are the nodes of its two edges
pub operands_of : (nodes : List AigNode) (n : ℕ) (a b : AigEdge) → kind_at nodes n ≡ Some (And a b)
    → (k : ℕ) → ((k ≡ a.node_id) ⊎ (k ≡ b.node_id)) ↔ IsFanin nodes n k
operands_of nodes n a b gate k = ((λ e. (a, b, gate, e)), back)
  where
    back : IsFanin nodes n k → (k ≡ a.node_id) ⊎ (k ≡ b.node_id)
    back (x, y, kind, inl e) = let same = same_Some _ _ (sym kind ∙ gate) in inl (cc)
    back (x, y, kind, inr e) = let same = same_Some _ _ (sym kind ∙ gate) in inr (cc)

-- the operands of a marked gate
pub AddsMarks-operands : (nodes : List AigNode) (marks : List Bool) (n : ℕ) (a b : AigEdge) → kind_at nodes n ≡ Some (And a b) → IsMarked marks n → a.node_id < length marks → b.node_id < length marks
    → AddsMarks marks (set (set marks a.node_id true) b.node_id true) (λ k. IsMarked marks n × IsFanin nodes n k)
AddsMarks-operands nodes marks n a b gate is low_a low_b =
    let one = set marks a.node_id true in
    AddsMarks-same (λ k. (k ≡ a.node_id) ⊎ (k ≡ b.node_id)) (λ k. IsMarked marks n × IsFanin nodes n k) marks (set one b.node_id true)
    (λ k. ((λ which. (is, (operands_of nodes n a b gate k).0 which)), λ both. (operands_of nodes n a b gate k).1 both.1))
    (AddsMarks-then (λ k. k ≡ a.node_id) (λ k. k ≡ b.node_id) marks one (set one b.node_id true)
    (AddsMarks-set marks a.node_id low_a) (AddsMarks-set one b.node_id (omega (arith, length-set marks a.node_id true))))

-- the empty list has no number
pub Contains-nothing : (n : ℕ) → ¬ Contains [] n
Contains-nothing n (i, low, is) = omega arith

-- a list with one number more
pub Contains-one_more : (xs : List ℕ) (x n : ℕ)
    → (Contains xs n ⊎ (n ≡ x)) ↔ Contains (xs ++ x ∷ []) n
Contains-one_more xs x n = (
  λ m. elim m [ inl had ↦ Contains-append_left xs (x ∷ []) n had | inr e ↦ rw e (Contains-push xs x) ],
  λ m. elim (Contains-push_cases xs x n m) [ inl had ↦ inl had | inr e ↦ inr (sym e) ],
)

pub Contains-more : (xs : List ℕ) (i d x : ℕ) → i < length xs → get_or xs i d ≡ x → (n : ℕ)
    → (Contains (take i xs) n ⊎ (n ≡ x)) ↔ Contains (take (i + 1) xs) n
Contains-more xs i d x h is n =
    let more : take (i + 1) xs ≡ take i xs ++ x ∷ [] = take_more xs i d h ∙ ap (λ y. take i xs ++ y ∷ []) is in
    let one = Contains-one_more (take i xs) x n in
    (λ m. subst (λ ys. Contains ys n) (sym more) (one.0 m), λ m. one.1 (subst (λ ys. Contains ys n) more m))

-- ---- along operands

-- the roots are marked, and from node i on the operands of what is marked; nothing else is
pub record MarkedDownTo (nodes : List AigNode) (roots : List ℕ) (marks : List Bool) (i : ℕ) : Type 0 where
  pub only : (n : ℕ) → IsMarked marks n → IsReached (IsFanin nodes) roots n
  pub roots_marked : (n : ℕ) → Contains roots n → IsMarked marks n
  pub closed : (n m : ℕ) → i ≤ n → IsMarked marks n → IsFanin nodes n m → IsMarked marks m

operand_below : (nodes : List AigNode) → IsOrdered nodes → (n m : ℕ) → IsFanin nodes n m → m < n
operand_below nodes o n m (a, b, kind, inl is) = let low = o.first_before n a b kind in omega arith
operand_below nodes o n m (a, b, kind, inr is) = let low = o.second_before n a b kind in omega arith

gate_within : (nodes : List AigNode) (n m : ℕ) → IsFanin nodes n m → n < length nodes
gate_within nodes n m (a, b, kind, which) = kind_at-within nodes n (And a b) kind

pub MarkedDownTo-start : (nodes : List AigNode) (roots : List ℕ) (old new : List Bool)
    → ((n : ℕ) → ¬ IsMarked old n) → AddsMarks old new (Contains roots)
    → MarkedDownTo nodes roots new (length nodes)
MarkedDownTo-start nodes roots old new none marked = record {
  only = λ n m. elim ((marked n).0 m) [ inl was ↦ absurd (none n was) | inr h ↦ root h ];
  roots_marked = λ n h. (marked n).1 (inr h);
  closed = λ n m h is operand. let low = gate_within nodes n m operand in absurd (omega arith);
}

pub MarkedDownTo-step : (nodes : List AigNode) (roots : List ℕ) (old new : List Bool) (i : ℕ)
    → IsOrdered nodes → MarkedDownTo nodes roots old (i + 1)
    → AddsMarks old new (λ n. IsMarked old i × IsFanin nodes i n) → MarkedDownTo nodes roots new i
MarkedDownTo-step nodes roots old new i o d marked = record {
  only = λ n m. elim ((marked n).0 m) [ inl was ↦ d.only n was | inr p ↦ step (d.only i p.0) p.1 ];
  roots_marked = λ n h. (marked n).1 (inl (d.roots_marked n h));
  closed = λ n m h is operand. elim (cases_lt i n) [
    | inl above ↦ elim ((marked n).0 is) [
      | inl was ↦ (marked m).1 (inl (d.closed n m (omega arith) was operand))
      | inr p ↦ absurd (omega (arith, operand_below nodes o i n p.1))
    ]
    | inr not_above ↦
        (let same : n ≡ i = omega arith in
        let here = subst (λ k. IsMarked new k) same is in
        let operand_i = subst (λ k. IsFanin nodes k m) same operand in
        elim ((marked i).0 here) [
          | inl was ↦ (marked m).1 (inr (was, operand_i))
          | inr p ↦ absurd (omega (arith, operand_below nodes o i i p.1))
        ])
  ];
}

-- all that is reached is marked in the end
pub reached_is_marked : (nodes : List AigNode) (roots : List ℕ) (marks : List Bool)
    → MarkedDownTo nodes roots marks 0 → (n : ℕ) → IsReached (IsFanin nodes) roots n
    → IsMarked marks n
reached_is_marked nodes roots marks d n (root h) = d.roots_marked n h
reached_is_marked nodes roots marks d n (step {n = k} reached operand) = d.closed k n (omega arith) (reached_is_marked nodes roots marks d k reached) operand
