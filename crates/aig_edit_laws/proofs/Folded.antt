-- A circuit whose constraints were joined to its first bad edge has the witnesses of the old one,
-- where it had no constraint, or at most one bad edge.
use Rattle.aig_base.proofs.Words.{◌≡◌, ℕ, ◌≤◌, ◌⊎◌, ◌↔◌, Bool, true, false, ◌||◌, List, [], ◌∷◌, length, drop, IsTrue, get_or, refl, sym, ap, subst, ◌∙◌, inl, inr, arith, All, slice_get, list_any, false≢true, All-head, All-nil, All-tail}
use Rattle.aig_circuit.specs.declared.edge.AigEdge.{AigEdge}
use Rattle.aig_circuit.proofs.Words.{Circuit, IsCircuit, IsInRange, IsLeaf, edge_value}
use Rattle.aig_change.specs.Changes.{FoldsConstraints}
use Rattle.aig_change.specs.Runs.{ConstraintsHoldUpTo, IsRunFromInitial}
use Rattle.aig_edit_laws.specs.Reduction.{HaveSameWitnesses}
use Rattle.std.proofs.Math.Bool.{or-true}
use Rattle.aig_circuit.proofs.Building.{Grows-leaf}
use Rattle.aig_runs.specs.CircuitQueries.{HasCircuitWitness}

-- no constraint is left out where only the first bad edge gets them
abbrev AreJoined : Circuit → Type 0
AreJoined c = (c.properties.constraints ≡ []) ⊎ (length c.properties.bads ≤ 1)

or_cases : (a b : Bool) → IsTrue (a || b) → IsTrue a ⊎ IsTrue b
or_cases true b is = inl refl
or_cases false b is = inr is

-- the values of edges depend on those of leaves alone
abbrev pub FixesValues : Type 0
FixesValues = (c : Circuit) (x y : ℕ → Bool) → IsCircuit c
    → ((n : ℕ) → IsLeaf c.nodes n → x n ≡ y n)
    → (e : AigEdge) → IsInRange c.nodes e → edge_value c.nodes x e ≡ edge_value c.nodes y e

module _ (fixes : FixesValues) (old new : Circuit) (is : IsCircuit old) (folds : FoldsConstraints old new) where
  -- an edge of the old circuit keeps its value
  value : (x : ℕ → Bool) (e : AigEdge) → IsInRange old.nodes e
      → edge_value new.nodes x e ≡ edge_value old.nodes x e
  value x e there =
      let longer = Grows-leaf old.nodes is.nodes in
      folds.nodes.grows.values x e (omega (arith, there, longer.longer)) ∙ longer.values x e there

  any_value : (x : ℕ → Bool) (es : List AigEdge) → All (IsInRange old.nodes) es
      → list_any (edge_value new.nodes x) es ≡ list_any (edge_value old.nodes x) es
  any_value x [] all = refl
  any_value x (e ∷ es) all =
      ap (λ b. b || list_any (edge_value new.nodes x) es)
      (value x e (All-head (IsInRange old.nodes) e es all))
      ∙ ap (λ b. edge_value old.nodes x e || b)
      (any_value x es (All-tail (IsInRange old.nodes) e es all))

  -- a run from an initial state shows the new bad edges exactly where it shows the old ones under the
  -- constraints
  module _ (k : ℕ) (z : ℕ → ℕ → Bool) (run : IsRunFromInitial new k z) where
    -- the constraints hold where a bad edge but the first one does
    others_held : AreJoined old → (e : AigEdge) (es : List AigEdge) → e ∷ es ≡ old.properties.bads
        → IsTrue (list_any (edge_value old.nodes (z k)) es) → ConstraintsHoldUpTo old k z
    others_held (inl none) e es at bad =
        λ t h. subst (All (λ (c : AigEdge). IsTrue (edge_value old.nodes (z t) c))) (sym none)
        (All-nil _)
    others_held (inr few) e [] at bad = absurd (false≢true bad)
    others_held (inr few) e (d ∷ es) at bad =
        absurd (omega (arith, subst (λ (l : List AigEdge). length l ≤ 1) (sym at) few))

    at_first : (e f : AigEdge) (es fs : List AigEdge) → e ∷ es ≡ old.properties.bads
        → f ∷ fs ≡ new.properties.bads
        → IsTrue (edge_value new.nodes (z k) f)
        ↔ (IsTrue (edge_value old.nodes (z k) e) × ConstraintsHoldUpTo old k z)
    at_first e f es fs at to = folds.bads.first k z run k e f (omega arith)
        (ap (λ (l : List AigEdge). slice_get l 0) (sym at))
        (ap (λ (l : List AigEdge). slice_get l 0) (sym to))

    -- all bad edges but the first one stay
    others_same : (e f : AigEdge) (es fs : List AigEdge) → e ∷ es ≡ old.properties.bads
        → f ∷ fs ≡ new.properties.bads
        → list_any (edge_value new.nodes (z k)) fs ≡ list_any (edge_value old.nodes (z k)) es
    others_same e f es fs at to =
        let same : fs ≡ es = ap (drop 1) to ∙ folds.bads.others ∙ ap (drop 1) (sym at) in
        let all = subst (All (IsInRange old.nodes)) (sym at) is.properties.bads in
        ap (list_any (edge_value new.nodes (z k))) same
        ∙ any_value (z k) es (All-tail (IsInRange old.nodes) e es all)

    shown : AreJoined old → (es fs : List AigEdge) → es ≡ old.properties.bads
        → fs ≡ new.properties.bads
        → length fs ≡ length es → IsTrue (list_any (edge_value new.nodes (z k)) fs)
        → IsTrue (list_any (edge_value old.nodes (z k)) es) × ConstraintsHoldUpTo old k z
    shown joined [] [] at to same bad = absurd (false≢true bad)
    shown joined [] (f ∷ fs) at to same bad = absurd (omega (arith, same))
    shown joined (e ∷ es) [] at to same bad = absurd (false≢true bad)
    shown joined (e ∷ es) (f ∷ fs) at to same bad =
        let rest = λ (v : Bool). v || list_any (edge_value old.nodes (z k)) es in
        elim (or_cases (edge_value new.nodes (z k) f) (list_any (edge_value new.nodes (z k)) fs) bad) [
          | inl first ↦ (
              let held = (at_first e f es fs at to).0 first in
              (ap rest held.0, held.1))
          | inr other ↦ (
              let old_other = sym (others_same e f es fs at to) ∙ other in (
                ap (λ v. edge_value old.nodes (z k) e || v) old_other ∙ or-true (edge_value old.nodes (z k) e),
                others_held joined e es at old_other,
              ))
        ]

    shows : (es fs : List AigEdge) → es ≡ old.properties.bads → fs ≡ new.properties.bads
        → length fs ≡ length es → IsTrue (list_any (edge_value old.nodes (z k)) es)
        → ConstraintsHoldUpTo old k z → IsTrue (list_any (edge_value new.nodes (z k)) fs)
    shows [] fs at to same bad held = absurd (false≢true bad)
    shows (e ∷ es) [] at to same bad held = absurd (omega (arith, same))
    shows (e ∷ es) (f ∷ fs) at to same bad held =
        elim (or_cases (edge_value old.nodes (z k) e) (list_any (edge_value old.nodes (z k)) es) bad) [
          | inl first ↦ ap (λ v. v || list_any (edge_value new.nodes (z k)) fs) ((at_first e f es fs at to).1 (first, held))
          | inr other ↦ ap (λ v. edge_value new.nodes (z k) f || v) (others_same e f es fs at to ∙ other)
              ∙ or-true (edge_value new.nodes (z k) f)
        ]

  module _ (joined : AreJoined old) (k : ℕ) where
    back : HasCircuitWitness new k → HasCircuitWitness old k
    back s =
        let z = s.0 in
        let w = s.1 in
        let run : IsRunFromInitial new k z = record { run = w.is_run; start = w.start } in
        let cut = folds.runs.cut k z run in
        let bad = shown k z run joined old.properties.bads new.properties.bads refl refl folds.bads.count w.bad in
        (z, record { is_run = cut.run; start = cut.start; constraints = bad.1; bad = bad.0 })

    -- leaf values that agree give an edge of the old circuit one value
    alike : (x z : ℕ → Bool) → ((n : ℕ) → IsLeaf old.nodes n → z n ≡ x n) → (e : AigEdge) → IsInRange old.nodes e
        → edge_value old.nodes z e ≡ edge_value old.nodes x e
    alike x z agree e there = fixes old z x is agree e there

    any_alike : (x z : ℕ → Bool) → ((n : ℕ) → IsLeaf old.nodes n → z n ≡ x n) → (es : List AigEdge)
        → All (IsInRange old.nodes) es
        → list_any (edge_value old.nodes z) es ≡ list_any (edge_value old.nodes x) es
    any_alike x z agree [] all = refl
    any_alike x z agree (e ∷ es) all =
        ap (λ b. b || list_any (edge_value old.nodes z) es) (alike x z agree e (All-head (IsInRange old.nodes) e es all))
        ∙ ap (λ b. edge_value old.nodes x e || b) (any_alike x z agree es (All-tail (IsInRange old.nodes) e es all))

    forth : HasCircuitWitness old k → HasCircuitWitness new k
    forth s =
        let x = s.0 in
        let w = s.1 in
        let longer = folds.runs.extended k x (record { run = w.is_run; start = w.start }) in
        let z = longer.0 in
        let agree = longer.2 in
        let held : ConstraintsHoldUpTo old k z =
        λ t h i d l. alike (x t) (z t) (λ n leaf. agree t n h leaf) (get_or old.properties.constraints i d) (is.properties.constraints i d l) ∙ w.constraints t h i d l in
        let bad = any_alike (x k) (z k) (λ n leaf. agree k n (omega arith) leaf) old.properties.bads is.properties.bads ∙ w.bad in (
          z,
          record {
            is_run = longer.1.run;
            start = longer.1.start;
            constraints = λ t h. subst (All (λ (e : AigEdge). IsTrue (edge_value new.nodes (z t) e))) (sym folds.constraints) (All-nil _);
            bad = shows k z longer.1 old.properties.bads new.properties.bads refl refl folds.bads.count
                bad held;
          },
        )

  pub folded_witnesses : AreJoined old → HaveSameWitnesses old new
  folded_witnesses joined k = (forth joined k, back joined k)
