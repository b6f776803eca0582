-- A circuit with inputs and latches more is one, with no free leaf where the old one had none.
use Rattle.aig_base.proofs.Words.{◌≡◌, ◌≢◌, ◌⊎◌, ℕ, zero, suc, ◌+◌, ◌-◌, ◌<◌, ◌≤◌, Option, Some, None, IsTrue, List, [], ◌∷◌, ◌++◌, length, get_or, refl, sym, ap, subst, ◌∙◌, inl, inr, arith, All, AllPairs, Contains, contains_key, false≢true, get, is_some, All-append, All-cons, All-nil, All-contains, All-weaker, Contains-get_or, Contains-append_cases, Contains-append_left, Contains-append_right, cases_lt, map-append}
use Rattle.aig_circuit.specs.declared.edge.AigEdge.{AigEdge}
use Rattle.aig_circuit.specs.declared.node.AigLatch.{AigLatch}
use Rattle.aig_circuit.specs.declared.node.AigNodeType.TheVariants.{And, Leaf}
use Rattle.aig_circuit.proofs.Words.{Circuit, IsCircuit, IsClosed, IsInRange, IsLatch, IsLeaf, latch_leaves, HasConstantInit, AllProperties}
use Rattle.aig_circuit.proofs.Building.{Grows-kept, Grows-longer}
use Rattle.aig_circuit.proofs.Circuits.{AllPairs-append, init_grown, latch_leaves-leaves}
use Rattle.aig_circuit.proofs.Trees.{kind_at-within}
use Rattle.aig_live.specs.Live.{false_latches}
use Rattle.aig_live.specs.Extended.{IsExtended, row_from}
use Rattle.aig_live.specs.Names.{with_row}
use Rattle.aig_live.proofs.Added.{false_latches-at, false_latches-long}
use Rattle.aig_live.proofs.Rows.{get-with_row, get-with_row_other, none_past}

-- ---- numbers in a row

row_long : (n count : ℕ) → length (row_from n count) ≡ count
row_long n zero = refl
row_long n (suc count) = ap suc (row_long (n + 1) count)

row_at : (n count k d : ℕ) → k < count → get_or (row_from n count) k d ≡ n + k
row_at n zero k d h = absurd (omega (arith, h))
row_at n (suc count) zero d h = omega arith
row_at n (suc count) (suc k) d h = row_at (n + 1) count k d (omega (arith, h)) ∙ omega arith

-- they are not below the first, and below the first past them
pub row_low : (n count : ℕ) → All (λ m. n ≤ m) (row_from n count)
row_low n count k d h =
    let low : k < count = omega (arith, h, row_long n count) in
    omega (arith, row_at n count k d low)

row_high : (n count : ℕ) → All (λ m. m < n + count) (row_from n count)
row_high n count k d h =
    let low : k < count = omega (arith, h, row_long n count) in
    omega (arith, row_at n count k d low, low)

row_distinct : (n count : ℕ) → AllPairs (λ a b. a ≢ b) (row_from n count)
row_distinct n count i j d h l e =
    let long = row_long n count in
    let first = row_at n count i d (omega (arith, h, l, long)) in
    let second = row_at n count j d (omega (arith, l, long)) in
    omega (arith, h, first, second, e)

row_has : (n count m : ℕ) → n ≤ m → m < n + count → Contains (row_from n count) m
row_has n count m low high =
    let k = m - n in
    let within : k < count = omega (arith, low, high) in
    let at : get_or (row_from n count) k 0 ≡ m = row_at n count k 0 within ∙ omega (arith, low) in
    subst (Contains (row_from n count)) at
    (Contains-get_or (row_from n count) k 0 (omega (arith, within, row_long n count)))

leaves_row : (leaf : ℕ) (es : List AigEdge)
    → latch_leaves (false_latches leaf es) ≡ row_from leaf (length es)
leaves_row leaf [] = refl
leaves_row leaf (e ∷ es) = ap (λ ls. leaf ∷ ls) (leaves_row (leaf + 1) es)

-- low numbers and a row past them are distinct
distinct_past : (xs : List ℕ) (n count : ℕ) → AllPairs (λ a b. a ≢ b) xs → All (λ m. m < n) xs
    → AllPairs (λ a b. a ≢ b) (xs ++ row_from n count)
distinct_past xs n count pairs low =
    AllPairs-append (λ a b. a ≢ b) xs (row_from n count) pairs (row_distinct n count)
    (λ k d h i e l same. omega (arith, low k d h, row_low n count i e l, same))

module _ (inputs : ℕ) (nexts : List AigEdge) (bad : AigEdge) (texts : List (Option (List ℕ)))
    (c new : Circuit) (is : IsCircuit c) (ext : IsExtended inputs nexts bad texts c new) where
  pub names_are : new.names ≡ with_row c.names (length c.nodes) texts
  names_are = ap (λ (m : Circuit). m.names) ext.rest

  -- an old node keeps its name
  pub old_named : (m : ℕ) → m < length c.nodes → get new.names m ≡ get c.names m
  old_named m low = ap (λ ns. get ns m) names_are
      ∙ get-with_row_other c.names (length c.nodes) texts m (λ k h e. omega (arith, low, e))

  -- a leaf that is added has its own
  pub added_named : (k : ℕ) (d : Option (List ℕ)) → k < length texts
      → get new.names (length c.nodes + k) ≡ get_or texts k d
  added_named k d h = ap (λ ns. get ns (length c.nodes + k)) names_are
      ∙ get-with_row c.names (length c.nodes) texts (none_past c is) k d h

  -- and no other node has one
  pub past_named : (m : ℕ) → length c.nodes + length texts ≤ m → get new.names m ≡ None
  past_named m high = ap (λ ns. get ns m) names_are
      ∙ get-with_row_other c.names (length c.nodes) texts m (λ k h e. omega (arith, high, h, e))
      ∙ none_past c is m (omega (arith, high))

  pub inputs_are : new.inputs ≡ c.inputs ++ row_from (length c.nodes) inputs
  inputs_are = ap (λ (m : Circuit). m.inputs) ext.rest

  pub latchs_are : new.latchs ≡ c.latchs ++ false_latches (length c.nodes + inputs) nexts
  latchs_are = ap (λ (m : Circuit). m.latchs) ext.rest

  pub leaves_are : latch_leaves new.latchs
      ≡ latch_leaves c.latchs ++ row_from (length c.nodes + inputs) (length nexts)
  leaves_are = ap latch_leaves latchs_are
      ∙ map-append (λ (l : AigLatch). l.input) c.latchs
      (false_latches (length c.nodes + inputs) nexts)
      ∙ ap (λ ls. latch_leaves c.latchs ++ ls) (leaves_row (length c.nodes + inputs) nexts)

  longer : length c.nodes ≤ length new.nodes
  longer = Grows-longer c.nodes new.nodes ext.nodes

  kept_leaf : (m : ℕ) → IsLeaf c.nodes m → IsLeaf new.nodes m
  kept_leaf m leaf = Grows-kept c.nodes new.nodes ext.nodes m
      (kind_at-within c.nodes m Leaf leaf) ∙ leaf

  low_inputs : All (λ m. m < length c.nodes) c.inputs
  low_inputs = All-weaker (IsLeaf c.nodes) (λ m. m < length c.nodes)
      (λ m leaf. kind_at-within c.nodes m Leaf leaf) c.inputs is.inputs

  low_latches : All (λ m. m < length c.nodes) (latch_leaves c.latchs)
  low_latches = All-weaker (IsLeaf c.nodes) (λ m. m < length c.nodes)
      (λ m leaf. kind_at-within c.nodes m Leaf leaf) (latch_leaves c.latchs)
      (latch_leaves-leaves c is)

  old_latchs : All (IsLatch new.nodes) c.latchs
  old_latchs k d h =
      let latch = is.latchs k d h in
      record {
        leaf = kept_leaf (get_or c.latchs k d).input latch.leaf;
        next = omega (arith, latch.next, longer);
        init = init_grown c.nodes new.nodes (get_or c.latchs k d).init longer latch.init;
      }

  new_latchs : All (IsLatch new.nodes) (false_latches (length c.nodes + inputs) nexts)
  new_latchs k d h =
      let leaf = length c.nodes + inputs in
      let low : k < length nexts = omega (arith, h, false_latches-long leaf nexts) in
      subst (IsLatch new.nodes) (sym (false_latches-at leaf nexts k d d.next low))
      (record {
        leaf = ext.leaves (leaf + k) (omega arith) (omega (arith, low));
        next = ext.nexts_there k d.next low;
        init = let some : 0 < length new.nodes = omega (arith, ext.longer, low) in some;
      })

  -- a leaf of a latch is none of an input
  latch_apart : (m : ℕ) → Contains (latch_leaves c.latchs ++ row_from (length c.nodes + inputs)
      (length nexts)) m
      → ¬ Contains (c.inputs ++ row_from (length c.nodes) inputs) m
  latch_apart m latch input =
      by (Contains-append_cases (latch_leaves c.latchs) (row_from (length c.nodes + inputs)
      (length nexts)) m latch)
      (Contains-append_cases c.inputs (row_from (length c.nodes) inputs) m input)
    where
      old_apart : Contains (latch_leaves c.latchs) m → ¬ Contains c.inputs m
      old_apart has = All-contains (λ n. ¬ Contains c.inputs n) (latch_leaves c.latchs) m is.apart has

      by : Contains (latch_leaves c.latchs) m
          ⊎ Contains (row_from (length c.nodes + inputs) (length nexts)) m
          → Contains c.inputs m ⊎ Contains (row_from (length c.nodes) inputs) m → ⊥
      by (inl own) (inl old) = old_apart own old
      by (inl own) (inr added) = omega (
        arith,
        All-contains (λ n. n < length c.nodes) (latch_leaves c.latchs) m low_latches own,
        All-contains (λ n. length c.nodes ≤ n) (row_from (length c.nodes) inputs) m
            (row_low (length c.nodes) inputs) added,
      )
      by (inr past) (inl old) = omega (
        arith,
        All-contains (λ n. n < length c.nodes) c.inputs m low_inputs old,
        All-contains (λ n. length c.nodes + inputs ≤ n) (row_from (length c.nodes + inputs)
            (length nexts)) m (row_low (length c.nodes + inputs) (length nexts)) past,
      )
      by (inr past) (inr added) = omega (
        arith,
        All-contains (λ n. n < length c.nodes + inputs) (row_from (length c.nodes) inputs) m
            (row_high (length c.nodes) inputs) added,
        All-contains (λ n. length c.nodes + inputs ≤ n) (row_from (length c.nodes + inputs)
            (length nexts)) m (row_low (length c.nodes + inputs) (length nexts)) past,
      )

  new_named : (m : ℕ) → IsTrue (contains_key new.names m)
      → (m < length c.nodes + length texts) ⊎ (length c.nodes + length texts ≤ m)
      → m < length new.nodes
  new_named m has (inl low) = omega (arith, low, ext.named, ext.longer)
  new_named m has (inr high) = absurd (false≢true (sym (ap is_some (past_named m high)) ∙ has))

  pub IsCircuit-extended : IsCircuit new
  IsCircuit-extended = record {
    nodes = ext.nodes.sound;
    inputs = subst (All (IsLeaf new.nodes)) (sym inputs_are)
        (All-append (IsLeaf new.nodes) c.inputs (row_from (length c.nodes) inputs)
        (All-weaker (IsLeaf c.nodes) (IsLeaf new.nodes) kept_leaf c.inputs is.inputs)
        (λ k d h. ext.leaves (get_or (row_from (length c.nodes) inputs) k d)
        (row_low (length c.nodes) inputs k d h)
        (omega (arith, row_high (length c.nodes) inputs k d h))));
    inputs_distinct = subst (AllPairs (λ a b. a ≢ b)) (sym inputs_are)
        (distinct_past c.inputs (length c.nodes) inputs is.inputs_distinct low_inputs);
    latchs = subst (All (IsLatch new.nodes)) (sym latchs_are)
        (All-append (IsLatch new.nodes) c.latchs (false_latches (length c.nodes + inputs) nexts)
        old_latchs new_latchs);
    latchs_distinct = subst (AllPairs (λ a b. a ≢ b)) (sym leaves_are)
        (distinct_past (latch_leaves c.latchs) (length c.nodes + inputs) (length nexts)
        is.latchs_distinct
        (All-weaker (λ m. m < length c.nodes) (λ m. m < length c.nodes + inputs)
        (λ m h. omega (arith, h)) (latch_leaves c.latchs) low_latches));
    apart = subst (All (λ m. ¬ Contains new.inputs m)) (sym leaves_are)
        (subst (λ ins. All (λ m. ¬ Contains ins m) (latch_leaves c.latchs ++ row_from
        (length c.nodes + inputs) (length nexts))) (sym inputs_are)
        (λ k d h. latch_apart (get_or (latch_leaves c.latchs ++ row_from (length c.nodes + inputs)
        (length nexts)) k d)
        (Contains-get_or (latch_leaves c.latchs ++ row_from (length c.nodes + inputs)
        (length nexts)) k d h)));
    properties = subst (AllProperties {E = AigEdge} (IsInRange new.nodes)) (sym (ap (λ (m :
        Circuit). m.properties) ext.rest))
        (record {
          outputs = All-nil (IsInRange new.nodes);
          bads = All-cons (IsInRange new.nodes) bad [] ext.bad_there (All-nil
              (IsInRange new.nodes));
          constraints = All-weaker (IsInRange c.nodes) (IsInRange new.nodes) (λ e h. omega
              (arith, h, longer)) c.properties.constraints is.properties.constraints;
          justice = All-nil (All (IsInRange new.nodes));
          fairness = All-nil (IsInRange new.nodes);
        });
    named = λ m h. new_named m h (cases_lt m (length c.nodes + length texts));
  }

  -- ---- leaves

  pub IsClosed-extended : IsClosed c → IsClosed new
  IsClosed-extended closed m leaf = by (cases_lt m (length c.nodes))
      (cases_lt m (length c.nodes + inputs))
      (cases_lt m (length c.nodes + (inputs + length nexts)))
    where
      no_gate : (a b : AigEdge) → Some (And a b) ≡ Some Leaf → ⊥
      no_gate a b e = cc

      in_inputs : Contains (c.inputs ++ row_from (length c.nodes) inputs) m
          → Contains (new.inputs ++ latch_leaves new.latchs) m
      in_inputs has = Contains-append_left new.inputs (latch_leaves new.latchs) m
          (subst (λ ins. Contains ins m) (sym inputs_are) has)

      in_latches : Contains (latch_leaves c.latchs ++ row_from (length c.nodes + inputs)
          (length nexts)) m
          → Contains (new.inputs ++ latch_leaves new.latchs) m
      in_latches has = Contains-append_right new.inputs (latch_leaves new.latchs) m (subst
          (λ ls. Contains ls m) (sym leaves_are) has)

      old : m < length c.nodes → Contains (new.inputs ++ latch_leaves new.latchs) m
      old low = elim (Contains-append_cases c.inputs (latch_leaves c.latchs) m (closed m (sym
          (Grows-kept c.nodes new.nodes ext.nodes m low) ∙ leaf))) [
            | inl has ↦ in_inputs (Contains-append_left c.inputs (row_from (length c.nodes) inputs)
                m has)
            | inr has ↦ in_latches (Contains-append_left (latch_leaves c.latchs) (row_from
                (length c.nodes + inputs) (length nexts)) m has)
          ]

      by : (m < length c.nodes) ⊎ (length c.nodes ≤ m)
          → (m < length c.nodes + inputs) ⊎ (length c.nodes + inputs ≤ m)
          → (m < length c.nodes + (inputs + length nexts)) ⊎ (length c.nodes +
          (inputs + length nexts) ≤ m)
          → Contains (new.inputs ++ latch_leaves new.latchs) m
      by (inl low) second third = old low
      by (inr high) (inl low) third = in_inputs (Contains-append_right c.inputs (row_from
          (length c.nodes) inputs) m (row_has (length c.nodes) inputs m high low))
      by (inr high) (inr past) (inl low) = in_latches (Contains-append_right
          (latch_leaves c.latchs) (row_from (length c.nodes + inputs) (length nexts)) m
          (row_has (length c.nodes + inputs) (length nexts) m past (omega (arith, low))))
      by (inr high) (inr past) (inr last) =
          let gate = ext.gates m last (kind_at-within new.nodes m Leaf leaf) in
          absurd (no_gate gate.0 gate.1 (sym gate.2 ∙ leaf))

  -- the added latches start with a constant
  pub constant_starts : All HasConstantInit c.latchs → All HasConstantInit new.latchs
  constant_starts all = subst (All HasConstantInit) (sym latchs_are)
      (All-append HasConstantInit c.latchs (false_latches (length c.nodes + inputs) nexts) all
      (λ k d h.
      let leaf = length c.nodes + inputs in
      let low : k < length nexts = omega (arith, h, false_latches-long leaf nexts) in
      subst HasConstantInit (sym (false_latches-at leaf nexts k d d.next low)) refl))
