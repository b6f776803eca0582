-- What the definition of one step more says of each node, and of a circuit that is made so.
use Rattle.aig_base.proofs.Words.{◌≡◌, ◌≢◌, ℕ, zero, suc, ◌+◌, ◌<◌, ◌≤◌, ◌==◌, Bool, true, false, not, cond, Option, Some, None, List, [], ◌∷◌, ◌++◌, length, map, get_or, sym, ap, ap₂, subst, ◌∙◌, refl, arith, inl, inr, eq-eqb, eqb-true, true≢false, same_Some}
use Rattle.aig_circuit.specs.declared.edge.AigEdge.{AigEdge}
use Rattle.aig_circuit.specs.declared.node.AigNode.{AigNode}
use Rattle.aig_circuit.specs.declared.node.AigLatch.{AigLatch}
use Rattle.aig_circuit.proofs.Words.{edge_to, inverse, literal_of, and_of, with_node, latch_leaves, next_edges, FoldsOrAdds}
use Rattle.aig_circuit.specs.Build.{Folds}
use Rattle.aig_circuit.specs.Build.Folds.{true_first, true_second, false_first, false_second, same, opposite}
use Rattle.aig_circuit.proofs.Edges.{literals-same}
use Rattle.aig_circuit.proofs.Joining.{inverse_twice}
use Rattle.aig_unroll.specs.Frame.{Frame, folded, next_of, with_folded, with_next}
use Rattle.aig_unroll.specs.Unroll.{starts_of}

-- ---- folding

by_test : {X : Type 0} (b : Bool) (x y z : X) → (b ≡ true → x ≡ z) → (b ≡ false → y ≡ z)
    → cond b x y ≡ z
by_test true x y z p q = p refl
by_test false x y z p q = q refl

abbrev false_edge : AigEdge
false_edge = edge_to 0 false

abbrev true_edge : AigEdge
true_edge = edge_to 0 true

-- an edge is no inverse of itself
no_inverse : (b : AigEdge) → inverse b ≡ b → ⊥
no_inverse b h = differ b.compl (ap (λ (e : AigEdge). e.compl) h)
  where
    differ : (c : Bool) → not c ≡ c → ⊥
    differ true q = true≢false (sym q)
    differ false q = true≢false q

-- the edge that two edges fold to
pub folded-Folds : (a b e : AigEdge) → Folds a b e → folded a b ≡ Some e
folded-Folds a b e (true_first p q) = subst (λ x. folded x b ≡ Some e) (sym p) (ap Some (sym q))
folded-Folds a b e (true_second p q) =
    subst (λ x. folded a x ≡ Some e) (sym p)
    (by_test (literal_of a == 1) _ _ _ (λ t. ap Some (sym (literals-same a true_edge (eqb-true (literal_of a) 1 t)) ∙ sym q)) (λ f. ap Some (sym q)))
folded-Folds a b e (false_first p q) =
    subst (λ x. folded x b ≡ Some e) (sym p) (by_test (literal_of b == 1) _ _ _ (λ t. ap Some (sym q)) (λ f. ap Some (sym q)))
folded-Folds a b e (false_second p q) =
    subst (λ x. folded a x ≡ Some e) (sym p)
    (by_test (literal_of a == 1) _ _ _ (λ t. ap Some (sym q)) (λ f. by_test (literal_of a == 0) _ _ _ (λ t. ap Some (sym q)) (λ f. ap Some (sym q))))
folded-Folds a b e (same p q) =
    let is : Some a ≡ Some e = ap Some (sym q) in
    subst (λ x. folded a x ≡ Some e) p
    (by_test (literal_of a == 1) _ _ _ (λ t. is)
    (λ f. by_test (literal_of a == 1) _ _ _ (λ t. is)
    (λ f. by_test (literal_of a == 0) _ _ _ (λ t. ap Some (sym (literals-same a false_edge (eqb-true (literal_of a) 0 t))) ∙ is)
    (λ f. by_test (literal_of a == 0) _ _ _ (λ t. ap Some (sym (literals-same a false_edge (eqb-true (literal_of a) 0 t))) ∙ is)
    (λ f. by_test (literal_of a == literal_of a) _ _ _ (λ t. is) (λ f. absurd (true≢false (sym (eq-eqb (literal_of a) (literal_of a) refl) ∙ f))))))))
folded-Folds a b e (opposite p q) =
    let is : Some false_edge ≡ Some e = ap Some (sym q) in
    let c = inverse b in
    subst (λ x. folded x b ≡ Some e) (sym p)
    (by_test (literal_of c == 1) _ _ _ (λ t. ap Some (sym (inverse_twice b) ∙ ap inverse (literals-same c true_edge (eqb-true (literal_of c) 1 t))) ∙ is)
    (λ f. by_test (literal_of b == 1) _ _ _ (λ t. ap Some (ap inverse (literals-same b true_edge (eqb-true (literal_of b) 1 t))) ∙ is)
    (λ f. by_test (literal_of c == 0) _ _ _ (λ t. is)
    (λ f. by_test (literal_of b == 0) _ _ _ (λ t. is)
    (λ f. by_test (literal_of c == literal_of b) _ _ _ (λ t. absurd (no_inverse b (literals-same c b (eqb-true (literal_of c) (literal_of b) t))))
    (λ f. by_test (literal_of c == literal_of c) _ _ _ (λ t. is) (λ f. absurd (true≢false (sym (eq-eqb (literal_of c) (literal_of c) refl) ∙ f)))))))))

-- and of two that don't fold
pub folded-none : (a b : AigEdge) → ((f : AigEdge) → ¬ Folds a b f) → folded a b ≡ None
folded-none a b none =
    by_test (literal_of a == 1) _ _ _ (λ t. absurd (none b (true_first (literals-same a true_edge (eqb-true (literal_of a) 1 t)) refl)))
    (λ f. by_test (literal_of b == 1) _ _ _ (λ t. absurd (none a (true_second (literals-same b true_edge (eqb-true (literal_of b) 1 t)) refl)))
    (λ f. by_test (literal_of a == 0) _ _ _ (λ t. absurd (none false_edge (false_first (literals-same a false_edge (eqb-true (literal_of a) 0 t)) refl)))
    (λ f. by_test (literal_of b == 0) _ _ _ (λ t. absurd (none false_edge (false_second (literals-same b false_edge (eqb-true (literal_of b) 0 t)) refl)))
    (λ f. by_test (literal_of a == literal_of b) _ _ _ (λ t. absurd (none a (same (literals-same a b (eqb-true (literal_of a) (literal_of b) t)) refl)))
    (λ f. by_test (literal_of a == literal_of (inverse b)) _ _ _ (λ t. absurd (none false_edge (opposite (literals-same a (inverse b) (eqb-true (literal_of a) (literal_of (inverse b)) t)) refl))) (λ f. refl))))))

-- ---- one node more

abbrev pub frame_of : List AigNode → List AigEdge → Frame
frame_of nodes images = record { nodes = nodes; images = images }

-- the and of two edges by the builders' rule
pub with_folded-rule : (mid new : List AigNode) (images : List AigEdge) (a b e : AigEdge)
    → FoldsOrAdds mid new a b e
    → with_folded (folded a b) (and_of a b) (frame_of mid images) ≡ frame_of new (images ++ e ∷ [])
with_folded-rule mid new images a b e (inl p) =
    ap (λ o. with_folded o (and_of a b) (frame_of mid images)) (folded-Folds a b e p.0) ∙ ap (λ ns. frame_of ns (images ++ e ∷ [])) (sym p.1)
with_folded-rule mid new images a b e (inr p) =
    ap (λ o. with_folded o (and_of a b) (frame_of mid images)) (folded-none a b p.0)
    ∙ ap₂ frame_of (sym p.1.gate) (ap (λ f. images ++ f ∷ []) (sym p.1.edge))

-- ---- latches

-- latches with the leaves and the starts of others, and their own next edges
pub with_next-is : (old new : List AigLatch) → latch_leaves new ≡ latch_leaves old
    → starts_of new ≡ starts_of old → new ≡ with_next old (next_edges new)
with_next-is [] [] leaves starts = refl
with_next-is [] (n ∷ new) leaves starts = cc
with_next-is (o ∷ old) [] leaves starts = cc
with_next-is (o ∷ old) (n ∷ new) leaves starts =
    let input : n.input ≡ o.input = cc in
    let init : n.init ≡ o.init = cc in
    let leaf : (m : ℕ) → m ≡ o.input → record n { input = m } ≡ record n { input = o.input } = λ m q. ap (λ (x : ℕ). record n { input = x }) q in
    let start = ap (λ (x : Option AigEdge). record n { input = o.input; init = x }) init in
    let head : n ≡ record o { next = n.next } = leaf n.input input ∙ start in
    ap₂ (λ (x : AigLatch) xs. x ∷ xs) head (with_next-is old new (cc) (cc))

-- the latch that has the leaf
pub next_of-found : (latchs : List AigLatch) (n : ℕ) (e : AigEdge) (d : AigLatch)
    → next_of latchs n ≡ Some e
    → (k : ℕ) × (k < length latchs) × ((get_or latchs k d).input ≡ n)
    × ((get_or latchs k d).next ≡ e)
next_of-found [] n e d h = cc
next_of-found (l ∷ ls) n e d h = by_head (λ r. next_of-found ls n e d r) (l.input == n) refl
  where
    by_head : (next_of ls n ≡ Some e
        → (k : ℕ) × (k < length ls) × ((get_or ls k d).input ≡ n) × ((get_or ls k d).next ≡ e))
        → (b : Bool) → (l.input == n) ≡ b
        → (k : ℕ) × (k < length (l ∷ ls)) × ((get_or (l ∷ ls) k d).input ≡ n)
        × ((get_or (l ∷ ls) k d).next ≡ e)
    by_head found true is = (0, omega arith, eqb-true l.input n is, same_Some _ _ (sym (ap (λ b. cond b (Some l.next) (next_of ls n)) is) ∙ h))
    by_head found false is =
        let rest = found (sym (ap (λ b. cond b (Some l.next) (next_of ls n)) is) ∙ h) in
        (suc rest.0, omega (arith, rest.1), rest.2, rest.3)

-- or none has it
pub next_of-none : (latchs : List AigLatch) (n : ℕ) → next_of latchs n ≡ None → (k : ℕ)
    (d : AigLatch) → k < length latchs → (get_or latchs k d).input ≢ n
next_of-none [] n h k d l = absurd (omega arith)
next_of-none (l ∷ ls) n h k d low = by_head (λ r j lower. next_of-none ls n r j d lower) (l.input == n) refl k low
  where
    by_head : (next_of ls n ≡ None → (j : ℕ) → j < length ls → (get_or ls j d).input ≢ n)
        → (b : Bool) → (l.input == n) ≡ b → (k : ℕ) → k < length (l ∷ ls)
        → (get_or (l ∷ ls) k d).input ≢ n
    by_head none true is k low = absurd (is_some (sym (ap (λ b. cond b (Some l.next) (next_of ls n)) is) ∙ h))
      where
        is_some : Some l.next ≡ None → ⊥
        is_some q = cc
    by_head none false is zero low = λ q. true≢false (sym (eq-eqb l.input n q) ∙ is)
    by_head none false is (suc k) low = none (sym (ap (λ b. cond b (Some l.next) (next_of ls n)) is) ∙ h) k (omega arith)
