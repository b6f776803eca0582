-- Depths say what is read, exactly.
use Rattle.aig_base.proofs.Words.{◌≡◌, ◌≢◌, ◌⊎◌, ◌↔◌, ℕ, zero, suc, ◌+◌, ◌<◌, ◌≤◌, false, List, length, get_or, set, get_or-set_other, get_or-set_same, get_or-map, length-map, length-set, sym, ap, subst, ◌∙◌, inl, inr, arith, cases_lt, le-leb, leb-true, Contains, IsTrue, Some, add-one, refl, All, length-replicate}
use Rattle.std.specs.Prelude.{replicate, slice_index}
use Rattle.aig_circuit.specs.declared.edge.AigEdge.{AigEdge}
use Rattle.aig_circuit.specs.declared.node.AigLatch.{AigLatch}
use Rattle.aig_circuit.specs.declared.node.AigNode.{AigNode}
use Rattle.aig_circuit.specs.declared.node.AigNodeType.TheVariants.{And}
use Rattle.aig_circuit.proofs.Words.{Circuit, IsFanin, edge_to, kind_at}
use Rattle.aig_circuit.specs.Edges.{ReferTo}
use Rattle.aig_bounded.specs.Depths.{AreDepths, AreRead, HasNextDepth, HaveNoDepth}
use Rattle.aig_bounded.specs.Exact.{IsRead}
use Rattle.aig_bounded.specs.Exact.IsRead.{bad, constraint, operand, next}
use Rattle.aig_bounded.specs.Steps.{is_read}

-- a depth that is set, of a node that is read so
pub AreRead-set : (c : Circuit) (last : ℕ) (ds : List ℕ) (m v : ℕ) → m < length ds
    → IsRead c v m → AreRead c last ds → AreRead c last (set ds m v)
AreRead-set c last ds m v within is are n h low = by (cases_lt n m) (cases_lt m n)
  where
    long : length (set ds m v) ≡ length ds
    long = length-set ds m v

    other : n ≢ m → IsRead c (slice_index (set ds m v) n) n
    other ne =
        let same = get_or-set_other ds m n v 0 ne in
        subst (λ d. IsRead c d n) (sym same) (are n (omega (arith, h, long)) (omega (arith, low, same)))

    by : (n < m) ⊎ (m ≤ n) → (m < n) ⊎ (n ≤ m) → IsRead c (slice_index (set ds m v) n) n
    by (inl less) more = other (omega arith)
    by (inr not_less) (inl more) = other (omega arith)
    by (inr not_less) (inr not_more) =
        let one : m ≡ n = omega arith in
        subst (λ k. IsRead c (slice_index (set ds m v) k) k) one
        (subst (λ d. IsRead c d m) (sym (get_or-set_same ds m v 0 within)) is)

-- what is read is read by more steps too
IsRead-later : (c : Circuit) {d n : ℕ} → IsRead c d n → (e : ℕ) → d ≤ e → IsRead c e n
IsRead-later c (bad h) e l = bad h
IsRead-later c (constraint h) e l = constraint h
IsRead-later c (operand h f) e l = operand (IsRead-later c h e l) f
IsRead-later c (next h f) zero l = absurd (omega arith)
IsRead-later c (next h f) (suc e) l = next (IsRead-later c h e (omega arith)) f

-- the nodes of these edges have no depth
none_at : (es : List AigEdge) (ds : List ℕ) (n : ℕ) → HaveNoDepth es ds → ReferTo es n
    → slice_index ds n ≡ 0
none_at es ds n none (k, h, is) =
    let d = edge_to 0 false in
    let within : k < length es = omega (arith, length-map es (λ (e : AigEdge). e.node_id)) in
    let node : (get_or es k d).node_id ≡ n = sym (get_or-map (λ (e : AigEdge). e.node_id) es k d n within) ∙ is in
    ap (slice_index ds) (sym node) ∙ none k d within

module _ (c : Circuit) (last : ℕ) (ds : List ℕ) (are : AreDepths c last ds) where
  shallow : {d n : ℕ} → IsRead c d n → d ≤ last → slice_index ds n ≤ d
  shallow {d} {n} (bad h) l = omega (arith, none_at c.properties.bads ds n are.bads h)
  shallow {d} {n} (constraint h) l = omega (arith, none_at c.properties.constraints ds n are.constraints h)
  shallow (operand {n = n} {m = m} h f) l =
      let low = shallow h l in
      omega (arith, are.settled.operands n m f (omega (arith, low, l)), low)
  shallow (next {n = n} {m = m} h (latch, (k, within, is), from, to)) l =
      let low = shallow h (omega arith) in
      let settled = subst (λ x. HasNextDepth x last ds) is (are.settled.next k latch within) in
      let here = ap (slice_index ds) from in
      omega (arith, settled (omega (arith, low, here, l)), low, here, ap (slice_index ds) to)

  -- a node is read in so many steps exactly where it is no deeper
  pub reads : (d n : ℕ) → d ≤ last → n < length c.nodes → IsTrue (is_read ds d n) ↔ IsRead c d n
  reads d n l h = (forth, back)
    where
      forth : IsTrue (is_read ds d n) → IsRead c d n
      forth t =
          let low = leb-true (slice_index ds n) d t in
          IsRead-later c (are.read n (omega (arith, h, are.count)) (omega (arith, low, l))) d low

      back : IsRead c d n → IsTrue (is_read ds d n)
      back r = le-leb (slice_index ds n) d (shallow r l)

-- ---- what is read of what is read

-- an operand of a gate that is read
pub operand_read : (c : Circuit) (last : ℕ) (ds : List ℕ) (nodes : List AigNode) → c.nodes ≡ nodes
    → (id : ℕ) (a b : AigEdge) → id < length ds → kind_at nodes id ≡ Some (And a b)
    → AreRead c last ds → (m : ℕ) → (m ≡ a.node_id) ⊎ (m ≡ b.node_id) → slice_index ds id ≤ last
    → IsRead c (slice_index ds id) m
operand_read c last ds nodes same id a b within kind read m is low =
    operand (read id within low) (subst (λ ns. IsFanin ns id m) (sym same) (a, b, kind, is))

-- the next edge of a latch that is read
pub next_read : (c : Circuit) (last : ℕ) (ds : List ℕ) (latch : AigLatch) → Contains c.latchs latch
    → (input node : ℕ) → input ≡ latch.input → node ≡ latch.next.node_id → input < length ds
    → AreRead c last ds → slice_index ds input + 1 ≤ last → IsRead c (slice_index ds input + 1) node
next_read c last ds latch has input node is_input is_node within read low =
    subst (λ d. IsRead c d node) (sym (add-one (slice_index ds input)))
    (next (read input within (omega arith)) (latch, has, is_input, is_node))

refers : (es : List AigEdge) (k : ℕ) (d : AigEdge) → k < length es → ReferTo es (get_or es k d).node_id
refers es k d h = (
  k,
  omega (arith, h, length-map es (λ (e : AigEdge). e.node_id)),
  get_or-map (λ (e : AigEdge). e.node_id) es k d (get_or es k d).node_id h,
)

-- what the properties name is read at once
pub bads_read : (c : Circuit) → All (λ e. IsRead c 0 e.node_id) c.properties.bads
bads_read c k d h = bad (refers c.properties.bads k d h)

pub constraints_read : (c : Circuit) → All (λ e. IsRead c 0 e.node_id) c.properties.constraints
constraints_read c k d h = constraint (refers c.properties.constraints k d h)

-- and nothing is, where no depth is known
pub AreRead-none : (c : Circuit) (last count most : ℕ) → last < most
    → AreRead c last (replicate count most)
AreRead-none c last count most low n h deep =
    absurd (omega (arith, low, deep, at count n (omega (arith, h, length-replicate count most))))
  where
    at : (count n : ℕ) → n < count → slice_index (replicate count most) n ≡ most
    at zero n h = absurd (omega arith)
    at (suc count) zero h = refl
    at (suc count) (suc n) h = at count n (omega arith)
