-- The next node's number: that of an earlier gate with its operands, or else the count of the kept nodes.
use Rattle.aig_base.proofs.Words.{◌≡◌, ◌≢◌, ℕ, zero, suc, ◌+◌, ◌<◌, ◌≤◌, Bool, true, false, cond, eqb, List, [], ◌∷◌, ◌++◌, length, get_or, take, map, refl, sym, ap, subst, ◌∙◌, arith, add-one, inl, inr, ◌⊎◌, cases_lt, eqb-true, eq-eqb, false≢true, filter-append}
use Rattle.std.specs.Prelude.{filter, not}
use Rattle.std.proofs.lemmas.List.{append-nil, get_or-map, length-append, length-map, length-take, map-append, take_more}
use Rattle.std.proofs.lemmas.List.Filters.{length-filter_both}
use Rattle.aig_circuit.specs.declared.edge.AigEdge.{AigEdge}
use Rattle.aig_circuit.specs.declared.node.AigNodeType.TheVariants.{And}
use Rattle.aig_circuit.specs.declared.node.AigNode.{AigNode}
use Rattle.aig_circuit.proofs.Words.{and_of, AreNodes, position_of, renumbered_edge, renumbered_kind, AndTree, tree_of}
use Rattle.aig_circuit.proofs.Building.{and_of-cases}
use Rattle.aig_circuit.proofs.Trees.{tree_of-and}
use Rattle.aig_strash.specs.Exchange.{HaveEqualTrees, IsGate, representative_of, image_of, is_representative, kept_before, node_numbers}
use Rattle.aig_strash.specs.Numbering.{gate_literals, operand_literals}
use Rattle.aig_strash.specs.Tables.{Literals}
use Rattle.aig_circuit.proofs.Edges.{literals-same}
use Rattle.aig_strash.proofs.Alike.{nodes-alike, operands-there}
use Rattle.aig_strash.proofs.Equal.{Equal, Pairs, equal-ands}
use Rattle.aig_strash.proofs.Firsts.{first-is, first-twice, first-within, image-apart, image-same, numbers-count, numbers-length}
use Rattle.aig_strash.proofs.Listing.{counting-place}

-- ---- operands

-- gates with the same literals of operands have the same operands
ands-same : (a b c d : AigEdge) → operand_literals (And a b) ≡ operand_literals (And c d) → (a ≡ c) × (b ≡ d)
ands-same a b c d e = (literals-same a c (ap (λ (p : Literals). p.0) e), literals-same b d (ap (λ (p : Literals). p.1) e))

-- the edges are the same, one by one or crossed
abbrev AreSame : AigEdge → AigEdge → AigEdge → AigEdge → Type 0
AreSame a b c d = ((a ≡ c) × (b ≡ d)) ⊎ ((a ≡ d) × (b ≡ c))

and_of-same : (a b c d : AigEdge) → operand_literals (and_of a b) ≡ operand_literals (and_of c d) → AreSame a b c d
and_of-same a b c d e = elim (and_of-cases a b) [
  | inl p ↦ elim (and_of-cases c d) [
    | inl q ↦ (let s = ands-same b a d c (sym (ap operand_literals p.0) ∙ e ∙ ap operand_literals q.0) in inl (s.1, s.0))
    | inr q ↦ (let s = ands-same b a c d (sym (ap operand_literals p.0) ∙ e ∙ ap operand_literals q.0) in inr (s.1, s.0))
  ]
  | inr p ↦ elim (and_of-cases c d) [
    | inl q ↦ (let s = ands-same a b d c (sym (ap operand_literals p.0) ∙ e ∙ ap operand_literals q.0) in inr (s.0, s.1))
    | inr q ↦ (let s = ands-same a b c d (sym (ap operand_literals p.0) ∙ e ∙ ap operand_literals q.0) in inl (s.0, s.1))
  ]
]

-- ---- counts of what a filter keeps

-- how many of the first n pass the test
abbrev passing : (ℕ → Bool) → List ℕ → ℕ → ℕ
passing test ns n = length (filter test (take n ns))

-- an entry's place among those that pass is the count of those before it
position_of-filter : (test : ℕ → Bool) (ns : List ℕ) (n : ℕ) → test n ≡ true → position_of (filter test ns) n ≡ passing test ns (position_of ns n)
position_of-filter test [] n pass = refl
position_of-filter test (m ∷ ns) n pass = by_tests (eqb m n) refl (test m) refl (position_of-filter test ns n pass)
  where
    Rest : Type 0
    Rest = position_of (filter test ns) n ≡ passing test ns (position_of ns n)

    by_tests : (b : Bool) → eqb m n ≡ b → (d : Bool) → test m ≡ d → Rest
        → position_of (cond d (m ∷ filter test ns) (filter test ns)) n ≡ length (filter test (take (cond b 0 (position_of ns n + 1)) (m ∷ ns)))
    by_tests true same true passes rest = rw same refl
    by_tests true same false fails rest = absurd (false≢true (sym fails ∙ ap test (eqb-true m n same) ∙ pass))
    by_tests false other true passes rest = rw (other, add-one (position_of (filter test ns) n), add-one (position_of ns n), passes) (ap suc rest)
    by_tests false other false fails rest = rw (add-one, fails) rest

-- more pass where one more does
passing-is_increasing : (test : ℕ → Bool) (ns : List ℕ) (m n : ℕ) → m < n → n ≤ length ns → test (get_or ns m 0) ≡ true → passing test ns m < passing test ns n
passing-is_increasing test [] m n h l pass = absurd (omega arith)
passing-is_increasing test (x ∷ ns) m zero h l pass = absurd (omega arith)
passing-is_increasing test (x ∷ ns) zero (suc n) h l pass = rw pass (omega arith)
passing-is_increasing test (x ∷ ns) (suc m) (suc n) h l pass = on_top (test x) (passing-is_increasing test ns m n (omega arith) (omega arith) pass)
  where
    on_top : (b : Bool) → passing test ns m < passing test ns n → length (cond b (x ∷ filter test (take m ns)) (filter test (take m ns))) < length (cond b (x ∷ filter test (take n ns)) (filter test (take n ns)))
    on_top true less = omega arith
    on_top false less = less

module _ (nodes : List AigNode) (are : AreNodes nodes) where
  -- ---- equal trees by literals

  -- edges with one image are inverted alike, and their nodes have equal trees
  edges-equal : (a b : AigEdge) → a.node_id < length nodes → b.node_id < length nodes → renumbered_edge (image_of nodes) a ≡ renumbered_edge (image_of nodes) b → (a.compl ≡ b.compl) × Equal (tree_of nodes a.node_id) (tree_of nodes b.node_id)
  edges-equal a b h l same = (ap (λ (e : AigEdge). e.compl) same, image-apart nodes are a.node_id b.node_id h l (ap (λ (e : AigEdge). e.node_id) same))

  -- gates whose operands have the same literals under the new numbers have equal trees
  pub equal-from_literals : (m n : ℕ) → IsGate nodes m → IsGate nodes n → gate_literals nodes m ≡ gate_literals nodes n → HaveEqualTrees nodes m n
  equal-from_literals m n (a, b, is) (c, d, other) same =
      let image : AigEdge → AigEdge = renumbered_edge (image_of nodes) in
      let made : operand_literals (and_of (image a) (image b)) ≡ operand_literals (and_of (image c) (image d)) = sym (ap (λ o. operand_literals (renumbered_kind (image_of nodes) o)) is) ∙ same ∙ ap (λ o. operand_literals (renumbered_kind (image_of nodes) o)) other in
      let low = operands-there nodes are m a b is in
      let high = operands-there nodes are n c d other in
      let one = tree_of-and nodes are.ordered m a b is in
      let two = tree_of-and nodes are.ordered n c d other in
      let parts : Pairs a.compl (tree_of nodes a.node_id) b.compl (tree_of nodes b.node_id) c.compl (tree_of nodes c.node_id) d.compl (tree_of nodes d.node_id) ⊎ Pairs a.compl (tree_of nodes a.node_id) b.compl (tree_of nodes b.node_id) d.compl (tree_of nodes d.node_id) c.compl (tree_of nodes c.node_id) = elim (and_of-same (image a) (image b) (image c) (image d) made) [
        | inl p ↦ (let first = edges-equal a c low.0 high.0 p.0 in let second = edges-equal b d low.1 high.1 p.1 in inl (first.0, first.1, second.0, second.1))
        | inr p ↦ (let first = edges-equal a d low.0 high.1 p.0 in let second = edges-equal b c low.1 high.0 p.1 in inr (first.0, first.1, second.0, second.1))
      ] in
      let equal = equal-ands a.compl (tree_of nodes a.node_id) b.compl (tree_of nodes b.node_id) c.compl (tree_of nodes c.node_id) d.compl (tree_of nodes d.node_id) parts in
      subst (λ t. Equal t (tree_of nodes n)) (sym one) (subst (Equal (AndTree a.compl (tree_of nodes a.node_id) b.compl (tree_of nodes b.node_id))) (sym two) equal)

  -- gates with equal trees have the same literals
  pub literals-from_equal : (m n : ℕ) → m < length nodes → n < length nodes → HaveEqualTrees nodes m n → gate_literals nodes m ≡ gate_literals nodes n
  literals-from_equal m n h l same = ap operand_literals (nodes-alike nodes are m n h l same)

  -- ---- counts of kept nodes

  -- a node's number is the count of the kept nodes before its representative
  pub image-count : (n : ℕ) → n < length nodes → image_of nodes n ≡ kept_before nodes (representative_of nodes n)
  image-count n h =
      let within = first-within nodes are n h in
      position_of-filter (is_representative nodes) (node_numbers nodes) (representative_of nodes n) (eq-eqb (representative_of nodes (representative_of nodes n)) (representative_of nodes n) (first-twice nodes are n h))
      ∙ ap (kept_before nodes) (counting-place (node_numbers nodes) (numbers-count nodes are) (representative_of nodes n) (omega (arith, numbers-length nodes are)))

  -- a kept node's number is the count of the kept nodes before it
  pub image-kept : (n : ℕ) → n < length nodes → representative_of nodes n ≡ n → image_of nodes n ≡ kept_before nodes n
  image-kept n h first = image-count n h ∙ ap (kept_before nodes) first

  -- at most so many are kept
  pub kept_before-few : (n : ℕ) → n ≤ length nodes → kept_before nodes n ≤ n
  kept_before-few n h =
      let both = length-filter_both (is_representative nodes) (λ m. not (is_representative nodes m)) (λ m. refl) (take n (node_numbers nodes)) in
      omega (arith, both, length-take n (node_numbers nodes), numbers-length nodes are)

  -- earlier nodes have numbers below the count
  pub image-before : (m n : ℕ) → m < n → n ≤ length nodes → image_of nodes m < kept_before nodes n
  image-before m n h l =
      let here : m < length nodes = omega arith in
      let first = first-is nodes are m here in
      let low : representative_of nodes m < n = omega (arith, first.low) in
      let there : representative_of nodes m < length nodes = omega arith in
      let at : get_or (node_numbers nodes) (representative_of nodes m) 0 ≡ representative_of nodes m = omega (arith, numbers-count nodes are (representative_of nodes m) 0 (omega (arith, numbers-length nodes are))) in
      let kept : is_representative nodes (get_or (node_numbers nodes) (representative_of nodes m) 0) ≡ true = ap (is_representative nodes) at ∙ eq-eqb (representative_of nodes (representative_of nodes m)) (representative_of nodes m) (first-twice nodes are m here) in
      subst (λ k. k < kept_before nodes n) (sym (image-count m here))
      (passing-is_increasing (is_representative nodes) (node_numbers nodes) (representative_of nodes m) n low (omega (arith, numbers-length nodes are)) kept)

  -- a node is kept exactly where its number is the count of the kept nodes before it
  pub kept-from_number : (n : ℕ) → n < length nodes → image_of nodes n ≡ kept_before nodes n → is_representative nodes n ≡ true
  kept-from_number n h is = eq-eqb (representative_of nodes n) n (elim (cases_lt (representative_of nodes n) n) [
    | inl low ↦ (
        let first = first-is nodes are n h in
        let same = image-same nodes are (representative_of nodes n) n (first-within nodes are n h) h first.equal in
        absurd (omega (arith, image-before (representative_of nodes n) n low (omega arith))))
    | inr high ↦ (let low = (first-is nodes are n h).low in omega arith)
  ])

  pub dropped-from_number : (n : ℕ) → n < length nodes → image_of nodes n ≢ kept_before nodes n → is_representative nodes n ≡ false
  dropped-from_number n h differs = by_test (is_representative nodes n) refl
    where
      by_test : (b : Bool) → is_representative nodes n ≡ b → b ≡ false
      by_test true kept = absurd (differs (image-kept n h (eqb-true (representative_of nodes n) n kept)))
      by_test false dropped = refl

  -- ---- one more node

  abbrev numbers : List ℕ
  numbers = node_numbers nodes

  numbers-more : (n : ℕ) → n < length nodes → take (n + 1) numbers ≡ take n numbers ++ n ∷ []
  numbers-more n h =
      let within : n < length numbers = omega (arith, numbers-length nodes are) in
      take_more numbers n 0 within ∙ ap (λ m. take n numbers ++ m ∷ []) (omega (arith, numbers-count nodes are n 0 within))

  -- the numbers so far, with the next one
  pub images-more : (n : ℕ) → n < length nodes → (list more : List ℕ) (number : ℕ) → list ≡ map (image_of nodes) (take n numbers) → number ≡ image_of nodes n → more ≡ list ++ number ∷ [] → more ≡ map (image_of nodes) (take (n + 1) numbers)
  images-more n h list more number so_far is made =
      made ∙ ap (λ l. l ++ number ∷ []) so_far ∙ ap (λ m. map (image_of nodes) (take n numbers) ++ m ∷ []) is
      ∙ sym (ap (map (image_of nodes)) (numbers-more n h) ∙ map-append (image_of nodes) (take n numbers) (n ∷ []))

  kept-step : (n : ℕ) → n < length nodes → (b : Bool) → is_representative nodes n ≡ b → filter (is_representative nodes) (take (n + 1) numbers) ≡ filter (is_representative nodes) (take n numbers) ++ cond b (n ∷ []) []
  kept-step n h b is =
      ap (filter (is_representative nodes)) (numbers-more n h) ∙ filter-append (is_representative nodes) (take n numbers) (n ∷ [])
      ∙ ap (λ d. filter (is_representative nodes) (take n numbers) ++ cond d (n ∷ []) []) is

  -- the kept nodes so far, with the next one, whose number is their count
  pub kept-more : (n : ℕ) → n < length nodes → (list more : List ℕ) (number : ℕ) → list ≡ filter (is_representative nodes) (take n numbers) → number ≡ image_of nodes n → number ≡ length list → more ≡ list ++ n ∷ [] → more ≡ filter (is_representative nodes) (take (n + 1) numbers)
  kept-more n h list more number so_far is count made =
      let kept = kept-from_number n h (sym is ∙ count ∙ ap length so_far) in
      made ∙ ap (λ l. l ++ n ∷ []) so_far ∙ sym (kept-step n h true kept)

  -- and without it, where its number is another
  pub kept-same : (n : ℕ) → n < length nodes → (list : List ℕ) (number : ℕ) → list ≡ filter (is_representative nodes) (take n numbers) → number ≡ image_of nodes n → number ≢ length list → list ≡ filter (is_representative nodes) (take (n + 1) numbers)
  kept-same n h list number so_far is differs =
      let dropped = dropped-from_number n h (λ e. differs (is ∙ e ∙ ap length (sym so_far))) in
      so_far ∙ sym (kept-step n h false dropped ∙ append-nil (filter (is_representative nodes) (take n numbers)))

  -- the count of the kept nodes so far, with the next one
  pub count-more : (n : ℕ) → n < length nodes → image_of nodes n ≡ kept_before nodes n → kept_before nodes (n + 1) ≡ kept_before nodes n + 1
  count-more n h is =
      let step = ap length (kept-step n h true (kept-from_number n h is)) in
      omega (arith, step, length-append (filter (is_representative nodes) (take n numbers)) (n ∷ []))

  pub count-same : (n : ℕ) → n < length nodes → image_of nodes n ≢ kept_before nodes n → kept_before nodes (n + 1) ≡ kept_before nodes n
  count-same n h differs =
      ap length (kept-step n h false (dropped-from_number n h differs) ∙ append-nil (filter (is_representative nodes) (take n numbers)))

  -- a number is that of its node
  pub image-at : (list : List ℕ) → list ≡ map (image_of nodes) numbers → (n d : ℕ) → n < length list → (n < length nodes) × (get_or list n d ≡ image_of nodes n)
  image-at list made n d h =
      let within : n < length numbers = omega (arith, ap length made, length-map numbers (image_of nodes)) in (
        omega (arith, numbers-length nodes are),
        ap (λ (l : List ℕ). get_or l n d) made ∙ get_or-map (image_of nodes) numbers n 0 d within ∙ ap (image_of nodes) (omega (arith, numbers-count nodes are n 0 within)),
      )
