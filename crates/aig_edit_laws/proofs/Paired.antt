-- Two circuits merged have a witness where one of them has one, and the other an allowed run.
use Rattle.aig_base.proofs.Words.{◌≡◌, ◌↔◌, ◌⊎◌, ℕ, ◌+◌, Bool, true, false, ◌||◌, Option, Some, None, List, [], ◌∷◌, length, map, IsTrue, get_or, refl, sym, ap, ◌∙◌, inl, inr, All, IfSome, list_any, All-append, All-cons, All-head, All-map, All-nil, All-tail, list_any-append}
use Rattle.aig_circuit.specs.declared.edge.AigEdge.{AigEdge}
use Rattle.aig_circuit.proofs.Words.{Circuit, IsCircuit, IsInRange, IsLeaf, renumbered_edge, edge_value}
use Rattle.aig_circuit.proofs.Lists.{All-first, All-from_map, All-second}
use Rattle.aig_change.specs.Merge.{PairsRuns, merged, shifted}
use Rattle.aig_change.specs.Runs.{IsAllowedRun}
use Rattle.aig_runs.specs.CircuitQueries.{HasCircuitWitness, IsCircuitWitness}
use Rattle.aig_edit_laws.specs.Shown.{HasCircuitRun}
use Rattle.aig_edit_laws.proofs.Folded.{FixesValues}

-- ---- leaf values that agree

module _ (fixes : FixesValues) (c : Circuit) (is : IsCircuit c) (k : ℕ) (x z : ℕ → ℕ → Bool) (agree : (t n : ℕ) → IsLeaf c.nodes n → z t n ≡ x t n) where
  same : (t : ℕ) (e : AigEdge) → IsInRange c.nodes e → edge_value c.nodes (z t) e ≡ edge_value c.nodes (x t) e
  same t e there = fixes c (z t) (x t) is (agree t) e there

  init_same : (leaf : ℕ) (o : Option AigEdge) → IfSome o (IsInRange c.nodes) → z 0 leaf ≡ x 0 leaf
      → IfSome o (λ e. edge_value c.nodes (x 0) e ≡ x 0 leaf) → IfSome o (λ e. edge_value c.nodes (z 0) e ≡ z 0 leaf)
  init_same leaf (Some e) there at h = same 0 e there ∙ h ∙ sym at
  init_same leaf None there at h = tt

  any_same : (t : ℕ) (es : List AigEdge) → All (IsInRange c.nodes) es
      → list_any (edge_value c.nodes (z t)) es ≡ list_any (edge_value c.nodes (x t)) es
  any_same t [] all = refl
  any_same t (e ∷ es) all =
      ap (λ b. b || list_any (edge_value c.nodes (z t)) es) (same t e (All-head (IsInRange c.nodes) e es all))
      ∙ ap (λ b. edge_value c.nodes (x t) e || b) (any_same t es (All-tail (IsInRange c.nodes) e es all))

  allowed_agrees : IsAllowedRun c k x → IsAllowedRun c k z
  allowed_agrees a = record {
    from_start = record {
      run = λ t h i d l.
          let latch = get_or c.latchs i d in
          agree (t + 1) latch.input (is.latchs i d l).leaf ∙ a.from_start.run t h i d l ∙ sym (same t latch.next (is.latchs i d l).next);
      start = λ i d l.
          let latch = get_or c.latchs i d in
          init_same latch.input latch.init (is.latchs i d l).init (agree 0 latch.input (is.latchs i d l).leaf) (a.from_start.start i d l);
    };
    allowed = λ t h i d l. same t (get_or c.properties.constraints i d) (is.properties.constraints i d l) ∙ a.allowed t h i d l;
  }

-- a witness is an allowed run with some bad edge
allowed_of : (c : Circuit) (k : ℕ) (x : ℕ → ℕ → Bool) → IsCircuitWitness c k x → IsAllowedRun c k x
allowed_of c k x w = record { from_start = record { run = w.is_run; start = w.start }; allowed = w.constraints }

witness_of : (c : Circuit) (k : ℕ) (x : ℕ → ℕ → Bool) → IsAllowedRun c k x → IsTrue (list_any (edge_value c.nodes (x k)) c.properties.bads)
    → IsCircuitWitness c k x
witness_of c k x a bad = record { is_run = a.from_start.run; start = a.from_start.start; constraints = a.allowed; bad = bad }

-- ---- both

one_holds : (a b : Bool) → IsTrue (a || b) → IsTrue a ⊎ IsTrue b
one_holds true b h = inl refl
one_holds false b h = inr h

first_holds : (a b : Bool) → IsTrue a → IsTrue (a || b)
first_holds true b h = refl
first_holds false b h = cc

second_holds : (a b : Bool) → IsTrue b → IsTrue (a || b)
second_holds true b h = refl
second_holds false b h = h

module _ (fixes : FixesValues) (first second : Circuit) (is : IsCircuit first) (other : IsCircuit second) (pairs : PairsRuns first second (merged first second) (shifted (length first.nodes))) where
  abbrev joint : Circuit
  joint = merged first second

  abbrev number : ℕ → ℕ
  number = shifted (length first.nodes)

  -- leaf values of the second circuit
  abbrev under : (ℕ → ℕ → Bool) → ℕ → ℕ → Bool
  under z t n = z t (number n)

  value : (z : ℕ → Bool) (e : AigEdge) → IsInRange first.nodes e → edge_value joint.nodes z e ≡ edge_value first.nodes z e
  value z e there = sym (pairs.first_values z (e ∷ []) (All-cons (IsInRange first.nodes) e [] there (All-nil (IsInRange first.nodes)))).0

  moved : (z : ℕ → Bool) (e : AigEdge) → edge_value joint.nodes z (renumbered_edge number e) ≡ edge_value second.nodes (λ n. z (number n)) e
  moved z e = sym (pairs.second_values z (e ∷ [])).0

  any_first : (z : ℕ → Bool) (es : List AigEdge) → All (IsInRange first.nodes) es
      → list_any (edge_value joint.nodes z) es ≡ list_any (edge_value first.nodes z) es
  any_first z [] all = refl
  any_first z (e ∷ es) all =
      ap (λ b. b || list_any (edge_value joint.nodes z) es) (value z e (All-head (IsInRange first.nodes) e es all))
      ∙ ap (λ b. edge_value first.nodes z e || b) (any_first z es (All-tail (IsInRange first.nodes) e es all))

  any_second : (z : ℕ → Bool) (es : List AigEdge)
      → list_any (edge_value joint.nodes z) (map (renumbered_edge number) es) ≡ list_any (edge_value second.nodes (λ n. z (number n))) es
  any_second z [] = refl
  any_second z (e ∷ es) =
      ap (λ b. b || list_any (edge_value joint.nodes z) (map (renumbered_edge number) es)) (moved z e)
      ∙ ap (λ b. edge_value second.nodes (λ n. z (number n)) e || b) (any_second z es)

  bads_are : (z : ℕ → Bool) → list_any (edge_value joint.nodes z) joint.properties.bads
      ≡ (list_any (edge_value first.nodes z) first.properties.bads || list_any (edge_value second.nodes (λ n. z (number n))) second.properties.bads)
  bads_are z =
      list_any-append (edge_value joint.nodes z) first.properties.bads (map (renumbered_edge number) second.properties.bads)
      ∙ ap (λ b. b || list_any (edge_value joint.nodes z) (map (renumbered_edge number) second.properties.bads)) (any_first z first.properties.bads is.properties.bads)
      ∙ ap (λ b. list_any (edge_value first.nodes z) first.properties.bads || b) (any_second z second.properties.bads)

  module _ (k : ℕ) (z : ℕ → ℕ → Bool) where
    abbrev IsTrueAt : ℕ → AigEdge → Type 0
    IsTrueAt t e = IsTrue (edge_value joint.nodes (z t) e)

    allowed_both : IsAllowedRun joint k z → IsAllowedRun first k z × IsAllowedRun second k (under z)
    allowed_both a =
        let runs = (pairs.runs k z).0 a.from_start.run in
        let starts = (pairs.starts (z 0)).0 a.from_start.start in (
          record {
            from_start = record { run = runs.0; start = starts.0 };
            allowed = λ t h i d l. sym (value (z t) (get_or first.properties.constraints i d) (is.properties.constraints i d l))
                ∙ All-first (IsTrueAt t) first.properties.constraints (map (renumbered_edge number) second.properties.constraints) (a.allowed t h) i d l;
          },
          record {
            from_start = record { run = runs.1; start = starts.1 };
            allowed = λ t h i d l. sym (moved (z t) (get_or second.properties.constraints i d))
                ∙ All-from_map (renumbered_edge number) (IsTrueAt t) second.properties.constraints
                (All-second (IsTrueAt t) first.properties.constraints (map (renumbered_edge number) second.properties.constraints) (a.allowed t h)) i d l;
          },
        )

    allowed_joint : IsAllowedRun first k z → IsAllowedRun second k (under z) → IsAllowedRun joint k z
    allowed_joint a b = record {
      from_start = record { run = (pairs.runs k z).1 (a.from_start.run, b.from_start.run); start = (pairs.starts (z 0)).1 (a.from_start.start, b.from_start.start) };
      allowed = λ t h. All-append (IsTrueAt t) first.properties.constraints (map (renumbered_edge number) second.properties.constraints)
          (λ i d l. value (z t) (get_or first.properties.constraints i d) (is.properties.constraints i d l) ∙ a.allowed t h i d l)
          (All-map (IsTrueAt t) (renumbered_edge number) second.properties.constraints
          (λ i d l. moved (z t) (get_or second.properties.constraints i d) ∙ b.allowed t h i d l));
    }

  module _ (k : ℕ) where
    forth : HasCircuitWitness joint k
        → (HasCircuitWitness first k × HasCircuitRun second k) ⊎ (HasCircuitRun first k × HasCircuitWitness second k)
    forth (z, w) =
        let both = allowed_both k z (allowed_of joint k z w) in
        elim (one_holds (list_any (edge_value first.nodes (z k)) first.properties.bads) (list_any (edge_value second.nodes (under z k)) second.properties.bads) (sym (bads_are (z k)) ∙ w.bad)) [
          | inl bad ↦ inl ((z, witness_of first k z both.0 bad), (under z, both.1))
          | inr bad ↦ inr ((z, both.0), (under z, witness_of second k (under z) both.1 bad))
        ]

    -- leaf values of both
    abbrev paired : (ℕ → ℕ → Bool) → (ℕ → ℕ → Bool) → ℕ → ℕ → Bool
    paired x y t = (pairs.each (x t) (y t)).0

    paired_first : (x y : ℕ → ℕ → Bool) (t n : ℕ) → IsLeaf first.nodes n → paired x y t n ≡ x t n
    paired_first x y t n leaf = (pairs.each (x t) (y t)).1 n leaf

    paired_second : (x y : ℕ → ℕ → Bool) (t n : ℕ) → IsLeaf second.nodes n → under (paired x y) t n ≡ y t n
    paired_second x y t n leaf = (pairs.each (x t) (y t)).2 n leaf

    allowed_pair : (x y : ℕ → ℕ → Bool) → IsAllowedRun first k x → IsAllowedRun second k y → IsAllowedRun joint k (paired x y)
    allowed_pair x y a b = allowed_joint k (paired x y)
        (allowed_agrees fixes first is k x (paired x y) (paired_first x y) a)
        (allowed_agrees fixes second other k y (under (paired x y)) (paired_second x y) b)

    back : (HasCircuitWitness first k × HasCircuitRun second k) ⊎ (HasCircuitRun first k × HasCircuitWitness second k)
        → HasCircuitWitness joint k
    back (inl ((x, w), (y, b))) =
        let z = paired x y in
        let bad = any_same fixes first is k x z (paired_first x y) k first.properties.bads is.properties.bads ∙ w.bad in (
          z,
          witness_of joint k z (allowed_pair x y (allowed_of first k x w) b)
              (bads_are (z k) ∙ first_holds (list_any (edge_value first.nodes (z k)) first.properties.bads) (list_any (edge_value second.nodes (under z k)) second.properties.bads) bad),
        )
    back (inr ((x, a), (y, w))) =
        let z = paired x y in
        let bad = any_same fixes second other k y (under z) (paired_second x y) k second.properties.bads other.properties.bads ∙ w.bad in (
          z,
          witness_of joint k z (allowed_pair x y a (allowed_of second k y w))
              (bads_are (z k) ∙ second_holds (list_any (edge_value first.nodes (z k)) first.properties.bads) (list_any (edge_value second.nodes (under z k)) second.properties.bads) bad),
        )

    pub merged_witnesses : HasCircuitWitness joint k
        ↔ ((HasCircuitWitness first k × HasCircuitRun second k) ⊎ (HasCircuitRun first k × HasCircuitWitness second k))
    merged_witnesses = (forth, back)
