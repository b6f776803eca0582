-- The runs of a miter, and what its safety says.
use Rattle.aig_base.proofs.Words.{◌≡◌, ◌≢◌, ◌↔◌, ◌⊎◌, ℕ, zero, suc, ◌<◌, ◌≤◌, Bool, true, false, Some, List, [], ◌∷◌, length, map, take, get_or, refl, sym, ap, subst, ◌∙◌, arith, inl, inr, append-nil, length-append, IsTrue, All, slice_get, AllZip, cases_lt, false≢true, map-append, take_all, Any-from_list_any, list_any_at, same_Some, slice_get-get_or, slice_get_within}
use Rattle.std.proofs.lemmas.List.Elements.{All-append, All-map, All-nil, All-weaker, AllZip-get_or}
use Rattle.aig_circuit.specs.declared.edge.AigEdge.{AigEdge}
use Rattle.aig_circuit.proofs.Words.{Grows, Circuit, IsCircuit, IsInRange, IsLeaf, Properties, no_properties, renumbered_edge, IsRun, IsInitial, edge_value}
use Rattle.aig_circuit.proofs.Lists.{All-first, All-from_map, All-second}
use Rattle.aig_change.specs.Runs.{IsAllowedRun}
use Rattle.aig_runs.specs.CircuitQueries.{IsCircuitWitness}
use Rattle.aig_runs.specs.Safety.{IsCircuitSafeAt}
use Rattle.aig_join.specs.Joined.{CanShare, joined, number_in_joint, shared_of_first, shared_of_second}
use Rattle.aig_join.specs.Pairs.{AgreeOnShared, JoinsRuns, MeetsConstraints}
use Rattle.aig_join.specs.Miter.{AreEqualAt, CompareEqual, ComparesRuns, HaveSameCounts, HaveSameInputs, IsMiter, compared, moved_compared}
use Rattle.aig_join.proofs.Differing.{All-at, DifferInSteps-count, DifferInSteps-there, differ-at}
use Rattle.aig_join.proofs.Grown.{IsCircuit-over_gates, constraints-agree, grown, run-agrees, runs-grown, start-agrees, starts-grown, value-agrees}
use Rattle.aig_join.proofs.Joined.{IsCircuit-joined, JoinsRuns-joined, edge_moved, first_value, longer, second_value}

slice_get-map : {X Y : Type 0} (f : X → Y) (xs : List X) (j : ℕ) (x : X) → slice_get xs j ≡ Some x
    → slice_get (map f xs) j ≡ Some (f x)
slice_get-map f [] j x at = cc
slice_get-map f (y ∷ xs) zero x at = ap (λ z. Some (f z)) (same_Some _ _ at)
slice_get-map f (y ∷ xs) (suc j) x at = slice_get-map f xs j x at

same-or-not : (p q : Bool) → (p ≡ q) ⊎ (p ≢ q)
same-or-not true true = inl refl
same-or-not true false = inr (λ e. absurd (false≢true (sym e)))
same-or-not false true = inr (λ e. absurd (false≢true e))
same-or-not false false = inl refl

-- pairs of entries are the same, or some pair differs
same-or-differ : (f g : AigEdge → Bool) (es fs : List AigEdge) → length es ≡ length fs
    → AllZip (λ d e. f d ≡ g e) es fs ⊎ ((j : ℕ) × (d : AigEdge) × (e : AigEdge)
    × (slice_get es j ≡ Some d) × (slice_get fs j ≡ Some e) × (f d ≢ g e))
same-or-differ f g [] [] same = inl tt
same-or-differ f g [] (e ∷ fs) same = absurd (omega (arith, same))
same-or-differ f g (d ∷ es) [] same = absurd (omega (arith, same))
same-or-differ f g (d ∷ es) (e ∷ fs) same = elim (same-or-not (f d) (g e)) [
  | inr differ ↦ inr (zero, d, e, refl, refl, differ)
  | inl here ↦ elim (same-or-differ f g es fs (omega (arith, same))) [
    | inl rest ↦ inl (here, rest)
    | inr r ↦ inr (suc r.0, r.1, r.2, r.3, r.4, r.5)
  ]
]

module _ (a b m : Circuit) (is_a : IsCircuit a) (is_b : IsCircuit b) (counts : HaveSameCounts a b)
    (miters : IsMiter a b m) where
  pub can : CanShare 0 a b
  can = record {
    inputs = (let e = counts.inputs in omega arith);
    first_latches = omega arith;
    second_latches = omega arith;
  }

  abbrev pub both : Circuit
  both = joined 0 a b

  abbrev pub number : ℕ → ℕ
  number = number_in_joint 0 a b

  is_both : IsCircuit both
  is_both = IsCircuit-joined 0 a b is_a is_b can

  pairs : JoinsRuns 0 a b both number
  pairs = JoinsRuns-joined 0 a b is_a is_b can

  grows : Grows both.nodes m.nodes
  grows = miters.gates.grows

  abbrev properties : Properties AigEdge
  properties = record no_properties {
    bads = m.properties.bads;
    constraints =
        both.properties.constraints;
  }

  abbrev whole : Circuit
  whole = grown both is_both m.nodes grows properties

  the_miter : whole ≡ m
  the_miter = sym miters.rest

  -- it is a circuit
  pub IsCircuit-miter : IsCircuit m
  IsCircuit-miter = subst IsCircuit the_miter (IsCircuit-over_gates both is_both m.nodes grows
      properties (record {
        outputs = All-nil (IsInRange m.nodes);
        bads = DifferInSteps-there both.nodes (compared a) (moved_compared a b)
            m.properties.bads m.nodes miters.steps;
        constraints = All-weaker (IsInRange both.nodes) (IsInRange m.nodes)
            (λ e h. let longer = grows.longer in omega arith) both.properties.constraints
            is_both.properties.constraints;
        justice = All-nil (All (IsInRange m.nodes));
        fairness = All-nil (IsInRange m.nodes);
      }))

  -- ---- the shared inputs

  inputs-first : shared_of_first 0 a b ≡ a.inputs
  inputs-first = append-nil (take (length a.inputs) a.inputs)
      ∙ take_all (length a.inputs) a.inputs (omega arith)

  inputs-second : shared_of_second 0 a b ≡ b.inputs
  inputs-second = append-nil (take (length a.inputs) b.inputs)
      ∙ take_all (length a.inputs) b.inputs (let e = counts.inputs in omega arith)

  to_inputs : (x y : ℕ → Bool) → AgreeOnShared 0 a b x y → HaveSameInputs a b x y
  to_inputs x y h = subst (λ (ms : List ℕ). AllZip (λ m n. x m ≡ y n) ms b.inputs) inputs-first
      (subst (λ (ns : List ℕ). AllZip (λ m n. x m ≡ y n) (shared_of_first 0 a b) ns) inputs-second
      h)

  from_inputs : (x y : ℕ → Bool) → HaveSameInputs a b x y → AgreeOnShared 0 a b x y
  from_inputs x y h = subst (λ (ns : List ℕ). AllZip (λ m n. x m ≡ y n) (shared_of_first 0 a b) ns)
      (sym inputs-second) (subst (λ (ms : List ℕ). AllZip (λ m n. x m ≡ y n) ms b.inputs)
      (sym inputs-first) h)

  -- ---- values

  pub value-first : (z : ℕ → Bool) (e : AigEdge) → IsInRange a.nodes e → edge_value m.nodes z e
      ≡ edge_value a.nodes z e
  value-first z e h = grows.values z e (let long = longer 0 a b is_a is_b can in omega arith)
      ∙ first_value 0 a b is_a is_b can z e h

  value-second : (z : ℕ → Bool) (e : AigEdge) → IsInRange b.nodes e
      → edge_value m.nodes z (renumbered_edge number e) ≡ edge_value b.nodes (λ n. z (number n)) e
  value-second z e h = grows.values z (renumbered_edge number e)
      (edge_moved 0 a b is_a is_b can e h) ∙ second_value 0 a b is_a is_b can z e h

  constraints-miter : (z : ℕ → Bool) → MeetsConstraints m z
      ↔ (MeetsConstraints a z × MeetsConstraints b (λ n. z (number n)))
  constraints-miter z = subst (λ (c : Circuit). MeetsConstraints c z
      ↔ (MeetsConstraints a z × MeetsConstraints b (λ n. z (number n)))) the_miter (
        λ all. (
          λ k d h. subst IsTrue (value-first z (get_or a.properties.constraints k d)
              (is_a.properties.constraints k d h))
              (All-first (λ e. IsTrue (edge_value m.nodes z e)) a.properties.constraints
              (map (renumbered_edge number) b.properties.constraints) all k d h),
          λ k d h. subst IsTrue (value-second z (get_or b.properties.constraints k d)
              (is_b.properties.constraints k d h))
              (All-from_map (renumbered_edge number) (λ e. IsTrue (edge_value m.nodes z e))
              b.properties.constraints
              (All-second (λ e. IsTrue (edge_value m.nodes z e)) a.properties.constraints
              (map (renumbered_edge number) b.properties.constraints) all) k d h),
        ),
        λ two. All-append (λ e. IsTrue (edge_value m.nodes z e)) a.properties.constraints
            (map (renumbered_edge number) b.properties.constraints)
            (λ k d h. subst IsTrue (sym (value-first z (get_or a.properties.constraints k d)
            (is_a.properties.constraints k d h))) (two.0 k d h))
            (All-map (λ e. IsTrue (edge_value m.nodes z e)) (renumbered_edge number)
            b.properties.constraints
            (λ k d h. subst IsTrue (sym (value-second z (get_or b.properties.constraints k d)
            (is_b.properties.constraints k d h))) (two.1 k d h))),
      )

  -- what is compared is there
  compared-there : All (IsInRange a.nodes) (compared a)
  compared-there = All-append (IsInRange a.nodes) a.properties.outputs a.properties.bads
      is_a.properties.outputs is_a.properties.bads

  compared-also : All (IsInRange b.nodes) (compared b)
  compared-also = All-append (IsInRange b.nodes) b.properties.outputs b.properties.bads
      is_b.properties.outputs is_b.properties.bads

  abbrev moved : List AigEdge → List AigEdge
  moved es = map (renumbered_edge number) es

  compared-wide : All (IsInRange both.nodes) (compared a)
  compared-wide = All-append (IsInRange both.nodes) a.properties.outputs a.properties.bads
      (All-first (IsInRange both.nodes) a.properties.outputs (moved b.properties.outputs)
      is_both.properties.outputs)
      (All-first (IsInRange both.nodes) a.properties.bads (moved b.properties.bads)
      is_both.properties.bads)

  compared-moved : All (IsInRange both.nodes) (moved_compared a b)
  compared-moved = All-append (IsInRange both.nodes) (moved b.properties.outputs)
      (moved b.properties.bads)
      (All-second (IsInRange both.nodes) a.properties.outputs (moved b.properties.outputs)
      is_both.properties.outputs)
      (All-second (IsInRange both.nodes) a.properties.bads (moved b.properties.bads)
      is_both.properties.bads)

  -- each edge that is compared of b has its edge in the joint circuit
  moved-at : (j : ℕ) (f : AigEdge) → slice_get (compared b) j ≡ Some f
      → slice_get (moved_compared a b) j ≡ Some (renumbered_edge number f)
  moved-at j f at = subst (λ (es : List AigEdge). slice_get es j ≡ Some (renumbered_edge number f))
      (map-append (renumbered_edge number) b.properties.outputs b.properties.bads)
      (slice_get-map (renumbered_edge number) (compared b) j f at)

  bads-miter : (z : ℕ → Bool) (j : ℕ) (e f d : AigEdge) → slice_get (compared a) j ≡ Some e
      → slice_get (compared b) j ≡ Some f → slice_get m.properties.bads j ≡ Some d
      → IsTrue (edge_value m.nodes z d) ↔ (edge_value a.nodes z e
      ≢ edge_value b.nodes (λ n. z (number n)) f)
  bads-miter z j e f d at_e at_f at_d =
      let low = All-at (IsInRange a.nodes) (compared a) compared-there j e at_e in
      let also = All-at (IsInRange b.nodes) (compared b) compared-also j f at_f in
      let here = differ-at both.nodes (compared a) (moved_compared a b) m.properties.bads
      m.nodes is_both.nodes compared-wide compared-moved miters.steps z j e
      (renumbered_edge number f) d at_e (moved-at j f at_f) at_d in
      subst (λ v. IsTrue (edge_value m.nodes z d) ↔ (edge_value a.nodes z e ≢ v))
      (second_value 0 a b is_a is_b can z f also)
      (subst (λ v. IsTrue (edge_value m.nodes z d)
      ↔ (v ≢ edge_value both.nodes z (renumbered_edge number f)))
      (first_value 0 a b is_a is_b can z e low) here)

  -- as many edges are compared of both
  compared-count : length (compared a) ≡ length (compared b)
  compared-count =
      let one = length-append a.properties.outputs a.properties.bads in
      let two = length-append b.properties.outputs b.properties.bads in
      omega (arith, counts.outputs, counts.bads)

  then-both : {P Q R : Type 0} → P ↔ Q → Q ↔ R → P ↔ R
  then-both pq qr = (λ p. qr.0 (pq.0 p), λ r. pq.1 (qr.1 r))

  -- ---- the law

  pub ComparesRuns-miter : ComparesRuns a b m number
  ComparesRuns-miter = record {
    runs = λ last z. then-both (subst (λ (c : Circuit). IsRun c last z ↔ IsRun both last z)
        the_miter (runs-grown both is_both m.nodes grows properties last z)) (pairs.runs last z);
    starts = λ z. then-both (subst (λ (c : Circuit). IsInitial c z ↔ IsInitial both z) the_miter
        (starts-grown both is_both m.nodes grows properties z)) (pairs.starts z);
    inputs = λ z. to_inputs z (λ n. z (number n)) (pairs.shared z);
    each = λ x y same. pairs.each x y (from_inputs x y same);
    constraints = constraints-miter;
    count = DifferInSteps-count both.nodes (compared a) (moved_compared a b) m.properties.bads
        m.nodes miters.steps;
    bads = bads-miter;
  }

  -- ---- safety

  law : ComparesRuns a b m number
  law = ComparesRuns-miter

  -- a run of the miter of two runs
  module _ (k : ℕ) (x y : ℕ → ℕ → Bool) (inputs : (t : ℕ) → t ≤ k → HaveSameInputs a b (x t) (y t))
    where
      pub pick : (t : ℕ) → (z : ℕ → Bool) × (t ≤ k → ((n : ℕ) → IsLeaf a.nodes n → z n ≡ x t n)
          × ((n : ℕ) → IsLeaf b.nodes n → z (number n) ≡ y t n))
      pick t = elim (cases_lt k t) [
        | inl past ↦ (x t, λ h. absurd (omega arith))
        | inr low ↦ (let r = law.each (x t) (y t) (inputs t low) in (r.0, λ h. (r.1, r.2)))
      ]

      abbrev pub paired : ℕ → ℕ → Bool
      paired t = (pick t).0

      pub first-same : (t n : ℕ) → t ≤ k → IsLeaf a.nodes n → x t n ≡ paired t n
      first-same t n h leaf = sym (((pick t).1 h).0 n leaf)

      pub second-same : (t n : ℕ) → t ≤ k → IsLeaf b.nodes n → y t n ≡ paired t (number n)
      second-same t n h leaf = sym (((pick t).1 h).1 n leaf)

      pub differing-is_witness : IsAllowedRun a k x → IsAllowedRun b k y → (j : ℕ) (e f : AigEdge)
          → slice_get (compared a) j ≡ Some e → slice_get (compared b) j ≡ Some f
          → edge_value a.nodes (x k) e ≢ edge_value b.nodes (y k) f → IsCircuitWitness m k paired
      differing-is_witness first second j e f at_e at_f differ =
          let theirs : ℕ → ℕ → Bool = λ t n. paired t (number n) in
          let start_a = start-agrees a is_a (x 0) (paired 0)
          (λ n leaf. first-same 0 n (omega arith) leaf) first.from_start.start in
          let start_b = start-agrees b is_b (y 0) (theirs 0)
          (λ n leaf. second-same 0 n (omega arith) leaf) second.from_start.start in
          let low : j < length m.properties.bads = omega
          (arith, law.count, slice_get_within (compared a) j e at_e) in
          let at_d = slice_get-get_or m.properties.bads j e low in
          let value_a : edge_value a.nodes (x k) e
          ≡ edge_value a.nodes (paired k) e = value-agrees a is_a (x k) (paired k)
          (λ n leaf. first-same k n (omega arith) leaf) e in
          let value_b : edge_value b.nodes (y k) f
          ≡ edge_value b.nodes (theirs k) f = value-agrees b is_b (y k) (theirs k)
          (λ n leaf. second-same k n (omega arith) leaf) f in
          let other : edge_value a.nodes (paired k) e
          ≢ edge_value b.nodes (theirs k) f = λ same. differ (value_a ∙ same ∙ sym value_b) in
          record {
            is_run = (law.runs k paired).1 (
              run-agrees a is_a k x paired
                  (λ t n h leaf. first-same t n h leaf) first.from_start.run,
              run-agrees b is_b k y
                  theirs (λ t n h leaf. second-same t n h leaf) second.from_start.run,
            );
            start = (law.starts (paired 0)).1 (start_a, start_b);
            constraints = λ t h. (law.constraints (paired t)).1 (
              constraints-agree a is_a (x t) (paired t) (λ n leaf. first-same t n h leaf)
                  (first.allowed t h),
              constraints-agree b is_b (y t) (theirs t) (λ n leaf. second-same t n h leaf)
                  (second.allowed t h),
            );
            bad = list_any_at (edge_value m.nodes (paired k)) m.properties.bads j e low
                ((law.bads (paired k) j e f (get_or m.properties.bads j e) at_e at_f at_d).1 other);
          }

  -- two allowed runs have equal outputs at step k, unless the pair of them is a witness
  pub equal-unless : (k : ℕ) (x y : ℕ → ℕ → Bool)
      (inputs : (t : ℕ) → t ≤ k → HaveSameInputs a b (x t) (y t)) → IsAllowedRun a k x
      → IsAllowedRun b k y → ¬ IsCircuitWitness m k (paired k x y inputs)
      → CompareEqual a b (x k) (y k)
  equal-unless k x y inputs first second none = elim (same-or-differ (edge_value a.nodes (x k))
      (edge_value b.nodes (y k)) (compared a) (compared b) compared-count) [
        | inl same ↦ same
        | inr r ↦ absurd (none (differing-is_witness k x y inputs first second r.0 r.1 r.2 r.3 r.4
            r.5))
      ]

  safe-equal : (k : ℕ) → IsCircuitSafeAt m k → AreEqualAt a b k
  safe-equal k safe x y first second inputs = equal-unless k x y inputs first second
      (λ w. safe (paired k x y inputs, w))

  -- a witness is two allowed runs whose outputs differ at step k
  pub witness-differs : (k : ℕ) (z : ℕ → ℕ → Bool) → IsCircuitWitness m k z
      → IsAllowedRun a k z × IsAllowedRun b k (λ t n. z t (number n))
      × ¬ CompareEqual a b (z k) (λ n. z k (number n))
  witness-differs k z w =
      let theirs : ℕ → ℕ → Bool = λ t n. z t (number n) in
      let runs = (law.runs k z).0 w.is_run in
      let starts = (law.starts (z 0)).0 w.start in
      let found = Any-from_list_any (edge_value m.nodes (z k)) m.properties.bads w.bad in
      let j = found.0 in
      let d = found.1 in
      let low_a : j < length (compared a) = (let l = found.2 in omega (arith, law.count)) in
      let low_b : j < length (compared b) = omega (arith, compared-count) in
      let at_d : slice_get m.properties.bads j
      ≡ Some d = slice_get-get_or m.properties.bads j d found.2 ∙ ap Some found.3 in
      let differ = (law.bads (z k) j (get_or (compared a) j d) (get_or (compared b) j d) d
      (slice_get-get_or (compared a) j d low_a) (slice_get-get_or (compared b) j d low_b) at_d).0
      found.4 in (
        record {
          from_start = record { run = runs.0; start = starts.0 };
          allowed = λ t h. ((law.constraints (z t)).0 (w.constraints t h)).0;
        },
        record {
          from_start = record { run = runs.1; start = starts.1 };
          allowed = λ t h. ((law.constraints (z t)).0 (w.constraints t h)).1;
        },
        λ same. differ (AllZip-get_or
            (λ e f. edge_value a.nodes (z k) e ≡ edge_value b.nodes (theirs k) f)
            (compared a) (compared b) j d d same low_a),
      )

  equal-safe : (k : ℕ) → AreEqualAt a b k → IsCircuitSafeAt m k
  equal-safe k equal (z, w) =
      let apart = witness-differs k z w in
      apart.2 (equal z (λ t n. z t (number n)) apart.0 apart.1 (λ t h. law.inputs (z t)))

  -- the miter is safe exactly where the outputs are equal
  pub safe-is_equal : (k : ℕ) → IsCircuitSafeAt m k ↔ AreEqualAt a b k
  safe-is_equal k = (safe-equal k, equal-safe k)
