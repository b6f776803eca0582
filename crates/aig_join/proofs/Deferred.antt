-- A miter of circuits whose constraints are compared, too: what its safety says.
use Rattle.aig_base.proofs.Words.{◌≡◌, ◌↔◌, ℕ, ◌≤◌, Bool, true, false, ◌&&◌, List, [], ◌∷◌, ◌++◌, length, get_or, refl, sym, ap, subst, ◌∙◌, arith, AllZip, and-true, length-append}
use Rattle.std.proofs.Math.Bool.{and-false}
use Rattle.std.proofs.lemmas.Bool.Decides.{same_from_decides}
use Rattle.aig_circuit.specs.declared.edge.AigEdge.{AigEdge}
use Rattle.aig_circuit.proofs.Words.{Circuit, IsCircuit, IsLeaf, edge_value}
use Rattle.aig_circuit.proofs.Lists.{AllZip-weaker}
use Rattle.aig_change.specs.Runs.{IsAllowedRun}
use Rattle.aig_change.proofs.Grown.{all_hold, all_hold-same}
use Rattle.aig_change.proofs.Lists.{AllZip-weaker as AllZip-weaker_where}
use Rattle.aig_runs.specs.Safety.{IsCircuitSafeAt}
use Rattle.aig_join.specs.Alike.{IsMiterFrom}
use Rattle.aig_join.specs.Constraints.{AreEqualConstrainedAt, DefersConstraints, StartSo}
use Rattle.aig_join.specs.Miter.{CompareEqual, HaveSameCounts, HaveSameInputs, compared}
use Rattle.aig_join.specs.Starts.{Register, circuit_registers, partners}
use Rattle.aig_join.specs.declared.starts.Starts.{Starts}
use Rattle.aig_join.specs.declared.starts.Starts.TheVariants.{Alike, Apart}
use Rattle.aig_join.proofs.AlikeRuns.{alike-agrees, partners-are, registers-leaves, safe-is_equal_alike}
use Rattle.aig_join.proofs.ClosedRegisters.{start-closed}
use Rattle.aig_join.proofs.DeferredCircuit.{added_latch, all-value, allowed-extended, allowed-forth, compared-is, compared-values, deferred-registers, meets-all}
use Rattle.aig_join.proofs.Grown.{value-agrees}
use Rattle.aig_join.proofs.Miters.{safe-is_equal}
use Rattle.aig_join.proofs.Partners.{register}
pub use Rattle.aig_join.proofs.DeferredCircuit.{deferred-circuit, deferred-counts}

-- ---- edges that are joined with one

-- values with one more are the same where that is false
and-same : (p v w : Bool) → (p ≡ true → v ≡ w) → (v && p) ≡ (w && p)
and-same true v w same = ap (λ b. b && true) (same refl)
and-same false v w same = and-false v ∙ sym (and-false w)

-- one that is true changes nothing
and-plain : (v p : Bool) → p ≡ true → v ≡ (v && p)
and-plain v p is = sym (and-true v) ∙ ap (λ b. v && b) (sym is)

module _ (f g joint_f joint_g : AigEdge → Bool) (p q : Bool) where
  abbrev Joint : AigEdge → AigEdge → Type 0
  Joint e d = joint_f d ≡ (f e && p)

  abbrev Other : AigEdge → AigEdge → Type 0
  Other e d = joint_g d ≡ (g e && q)

  -- edges that are the same where p is true, are the same joined with p
  joint-same : p ≡ q → (es fs ds us : List AigEdge) → length es ≡ length fs → AllZip Joint es ds
      → AllZip Other fs us → (p ≡ true → AllZip (λ e e'. f e ≡ g e') es fs)
      → AllZip (λ d u. joint_f d ≡ joint_g u) ds us
  joint-same same [] [] [] [] count first second equal = tt
  joint-same same [] [] [] (u ∷ us) count first second equal = absurd second
  joint-same same [] [] (d ∷ ds) us count first second equal = absurd first
  joint-same same [] (e' ∷ fs) ds us count first second equal = absurd (omega (arith, count))
  joint-same same (e ∷ es) [] ds us count first second equal = absurd (omega (arith, count))
  joint-same same (e ∷ es) (e' ∷ fs) [] us count first second equal = absurd first
  joint-same same (e ∷ es) (e' ∷ fs) (d ∷ ds) [] count first second equal = absurd second
  joint-same same (e ∷ es) (e' ∷ fs) (d ∷ ds) (u ∷ us) count first second equal = (
    first.0 ∙ and-same p (f e) (g e') (λ is. (equal is).0) ∙ ap (λ b. g e' && b) same
        ∙ sym second.0,
    joint-same same es fs ds us (omega (arith, count)) first.1 second.1 (λ is. (equal is).1),
  )

  -- and they are the same where these are and both are true
  parts-same : p ≡ true → q ≡ true → (es fs ds us : List AigEdge) → AllZip Joint es ds
      → AllZip Other fs us → AllZip (λ d u. joint_f d ≡ joint_g u) ds us
      → AllZip (λ e e'. f e ≡ g e') es fs
  parts-same is also [] [] ds us first second both = tt
  parts-same is also [] (e' ∷ fs) [] [] first second both = absurd second
  parts-same is also [] (e' ∷ fs) [] (u ∷ us) first second both = absurd both
  parts-same is also [] (e' ∷ fs) (d ∷ ds) us first second both = absurd first
  parts-same is also (e ∷ es) fs [] us first second both = absurd first
  parts-same is also (e ∷ es) [] (d ∷ ds) [] first second both = absurd both
  parts-same is also (e ∷ es) [] (d ∷ ds) (u ∷ us) first second both = absurd second
  parts-same is also (e ∷ es) (e' ∷ fs) (d ∷ ds) [] first second both = absurd second
  parts-same is also (e ∷ es) (e' ∷ fs) (d ∷ ds) (u ∷ us) first second both = (
    and-plain (f e) p is ∙ sym first.0 ∙ both.0 ∙ second.0 ∙ sym (and-plain (g e') q also),
    parts-same is also es fs ds us first.1 second.1 both.1,
  )

-- ---- values that agree on leaves

module _ (a b : Circuit) (is_a : IsCircuit a) (is_b : IsCircuit b) (x y v w : ℕ → Bool)
    (first : (n : ℕ) → IsLeaf a.nodes n → x n ≡ v n)
    (second : (n : ℕ) → IsLeaf b.nodes n → y n ≡ w n) where
  -- registers that start so do under them
  start-agrees : (starts : Starts)
      → StartSo starts (circuit_registers a) (circuit_registers b) x y
      → StartSo starts (circuit_registers a) (circuit_registers b) v w
  start-agrees Apart start = start
  start-agrees (Alike matching) start =
      let ours = circuit_registers a in
      let theirs = circuit_registers b in
      alike-agrees a.nodes x y v w first (partners matching ours theirs) theirs
      (λ i d h. second (get_or theirs i d).place (registers-leaves b is_b i d h))
      (partners-are matching a.nodes ours theirs (registers-leaves a is_a)) start

  -- inputs that are the same are so
  inputs-agree : HaveSameInputs a b x y → HaveSameInputs a b v w
  inputs-agree same =
      AllZip-weaker_where (λ m n. x m ≡ y n) (λ m n. v m ≡ w n) (IsLeaf a.nodes) (IsLeaf b.nodes)
      (λ m n there also here. sym (first m there) ∙ here ∙ second n also) a.inputs b.inputs
      is_a.inputs is_b.inputs same

  -- and so are outputs and bad edges
  compared-agree : CompareEqual a b x y → CompareEqual a b v w
  compared-agree same =
      AllZip-weaker (λ e f. edge_value a.nodes x e ≡ edge_value b.nodes y f)
      (λ e f. edge_value a.nodes v e ≡ edge_value b.nodes w f)
      (λ e f here. sym (value-agrees a is_a x v first e) ∙ here ∙ value-agrees b is_b y w second f)
      (compared a) (compared b) same

-- ---- miters with registers that start so

-- on allowed runs with the same inputs whose registers start so, outputs and bad edges are the same
-- at step k
abbrev pub AreEqualStartedAt : Starts → Circuit → Circuit → ℕ → Type 0
AreEqualStartedAt starts a b k =
    (x y : ℕ → ℕ → Bool) → IsAllowedRun a k x → IsAllowedRun b k y
    → StartSo starts (circuit_registers a) (circuit_registers b) (x 0) (y 0)
    → ((t : ℕ) → t ≤ k → HaveSameInputs a b (x t) (y t)) → CompareEqual a b (x k) (y k)

-- the miter is safe exactly where they are
pub safe-is_equal_started : (starts : Starts) (a b m : Circuit) (k : ℕ) → IsCircuit a → IsCircuit b
    → HaveSameCounts a b → IsMiterFrom starts a b m
    → IsCircuitSafeAt m k ↔ AreEqualStartedAt starts a b k
safe-is_equal_started Apart a b m k is_a is_b counts miters =
    let law = safe-is_equal a b m is_a is_b counts miters k in (
      λ safe x y first second start inputs. law.0 safe x y first second inputs,
      λ equal. law.1 (λ x y first second inputs. equal x y first second tt inputs),
    )
safe-is_equal_started (Alike matching) a b m k is_a is_b counts miters =
    safe-is_equal_alike matching a b m k is_a is_b counts miters

-- ---- two circuits whose constraints are deferred

module _ (starts : Starts) (a b c d : Circuit) (k : ℕ) (is_a : IsCircuit a) (is_b : IsCircuit b)
    (counts : HaveSameCounts a b) (first : DefersConstraints a c) (second : DefersConstraints b d)
  where
    abbrev StartOld : (ℕ → Bool) → (ℕ → Bool) → Type 0
    StartOld x y = StartSo starts (circuit_registers a) (circuit_registers b) x y

    -- registers start so exactly where the old ones do
    starts-same : (x y : ℕ → Bool)
        → StartSo starts (circuit_registers c) (circuit_registers d) x y ↔ StartOld x y
    starts-same x y =
        let r = register a.names (added_latch a c first) in
        let s = register b.names (added_latch b d second) in
        subst (λ (rs : List Register). StartSo starts rs (circuit_registers d) x y ↔ StartOld x y)
        (sym (deferred-registers a c first))
        (subst (λ (rs : List Register). StartSo starts (circuit_registers a ++ r ∷ []) rs x y
        ↔ StartOld x y) (sym (deferred-registers b d second))
        (start-closed starts (circuit_registers a) (circuit_registers b) r s refl refl x y))

    -- and so are inputs
    inputs-forth : (x y : ℕ → Bool) → HaveSameInputs c d x y → HaveSameInputs a b x y
    inputs-forth x y same =
        subst (λ (ns : List ℕ). AllZip (λ m n. x m ≡ y n) a.inputs ns)
        (ap (λ (e : Circuit). e.inputs) second.rest)
        (subst (λ (ms : List ℕ). AllZip (λ m n. x m ≡ y n) ms d.inputs)
        (ap (λ (e : Circuit). e.inputs) first.rest) same)

    inputs-back : (x y : ℕ → Bool) → HaveSameInputs a b x y → HaveSameInputs c d x y
    inputs-back x y same =
        subst (λ (ms : List ℕ). AllZip (λ m n. x m ≡ y n) ms d.inputs)
        (sym (ap (λ (e : Circuit). e.inputs) first.rest))
        (subst (λ (ns : List ℕ). AllZip (λ m n. x m ≡ y n) a.inputs ns)
        (sym (ap (λ (e : Circuit). e.inputs) second.rest)) same)

    -- ---- what is compared

    abbrev ours : List AigEdge
    ours = first.outputs ++ c.properties.bads

    abbrev theirs : List AigEdge
    theirs = second.outputs ++ d.properties.bads

    as-many : length (compared a) ≡ length (compared b)
    as-many =
        let one = length-append a.properties.outputs a.properties.bads in
        let two = length-append b.properties.outputs b.properties.bads in
        omega (arith, counts.outputs, counts.bads)

    module _ (x y : ℕ → Bool) where
      abbrev Equal : AigEdge → AigEdge → Type 0
      Equal e f = edge_value c.nodes x e ≡ edge_value d.nodes y f

      -- the ands of the constraints are the same, and what is joined with them
      all-parts : CompareEqual c d x y → (all_hold a x ≡ all_hold b y) × AllZip Equal ours theirs
      all-parts same =
          let both : AllZip Equal (first.all ∷ ours) (second.all ∷ theirs) =
          subst (λ (es : List AigEdge). AllZip Equal es (second.all ∷ theirs))
          (compared-is a c is_a first)
          (subst (λ (es : List AigEdge). AllZip Equal (compared c) es)
          (compared-is b d is_b second) same) in (
            sym (all-value a c is_a first x) ∙ both.0 ∙ all-value b d is_b second y,
            both.1,
          )

      -- and where they are true, what is compared of the old ones is the same
      compared-forth : CompareEqual c d x y → all_hold a x ≡ true → CompareEqual a b x y
      compared-forth same met =
          let parts = all-parts same in
          parts-same (edge_value a.nodes x) (edge_value b.nodes y) (edge_value c.nodes x)
          (edge_value d.nodes y) (all_hold a x) (all_hold b y) met (sym parts.0 ∙ met)
          (compared a) (compared b) ours theirs (compared-values a c is_a first x)
          (compared-values b d is_b second y) parts.1

      compared-back : all_hold a x ≡ all_hold b y
          → (all_hold a x ≡ true → CompareEqual a b x y) → CompareEqual c d x y
      compared-back same equal =
          let rest : AllZip Equal ours theirs =
          joint-same (edge_value a.nodes x) (edge_value b.nodes y) (edge_value c.nodes x)
          (edge_value d.nodes y) (all_hold a x) (all_hold b y) same (compared a) (compared b) ours
          theirs as-many (compared-values a c is_a first x) (compared-values b d is_b second y)
          equal in
          let head : Equal first.all second.all =
          all-value a c is_a first x ∙ same ∙ sym (all-value b d is_b second y) in
          subst (λ (es : List AigEdge). AllZip Equal es (compared d))
          (sym (compared-is a c is_a first))
          (subst (λ (es : List AigEdge). AllZip Equal (first.all ∷ ours) es)
          (sym (compared-is b d is_b second)) (head, rest))

    -- ---- runs

    equal-forth : AreEqualStartedAt starts c d k → AreEqualConstrainedAt starts a b k
    equal-forth equal x y run other start inputs met =
        let one = allowed-extended a c is_a first k x run (λ t h. (met t h).0) in
        let two = allowed-extended b d is_b second k y other (λ t h. (met t h).1) in
        let z = one.0 in
        let w = two.0 in
        let ours_same : (t : ℕ) → t ≤ k → (n : ℕ) → IsLeaf a.nodes n → z t n ≡ x t n =
        λ t h n there. one.2 t n h there in
        let theirs_same : (t : ℕ) → t ≤ k → (n : ℕ) → IsLeaf b.nodes n → w t n ≡ y t n =
        λ t h n there. two.2 t n h there in
        let first_step : 0 ≤ k = omega arith in
        let last : k ≤ k = omega arith in
        let start_old : StartOld (z 0) (w 0) =
        start-agrees a b is_a is_b (x 0) (y 0) (z 0) (w 0)
        (λ n there. sym (ours_same 0 first_step n there)) (λ n there. sym (theirs_same 0 first_step n there))
        starts start in
        let same : CompareEqual c d (z k) (w k) =
        equal z w one.1 two.1 ((starts-same (z 0) (w 0)).1 start_old)
        (λ t h. inputs-back (z t) (w t) (inputs-agree a b is_a is_b (x t) (y t) (z t) (w t)
        (λ n there. sym (ours_same t h n there)) (λ n there. sym (theirs_same t h n there))
        (inputs t h))) in
        let hold_a : all_hold a (z k) ≡ all_hold a (x k) =
        all_hold-same a is_a (z k) (x k) (ours_same k last) in
        let hold_b : all_hold b (w k) ≡ all_hold b (y k) =
        all_hold-same b is_b (w k) (y k) (theirs_same k last) in
        let hold : all_hold a (x k) ≡ all_hold b (y k) =
        sym hold_a ∙ (all-parts (z k) (w k) same).0 ∙ hold_b in (
          (
            λ meets. (meets-all b (y k)).1 (sym hold ∙ (meets-all a (x k)).0 meets),
            λ meets. (meets-all a (x k)).1 (hold ∙ (meets-all b (y k)).0 meets),
          ),
          λ meets. compared-agree a b is_a is_b (z k) (w k) (x k) (y k) (ours_same k last)
              (theirs_same k last)
              (compared-forth (z k) (w k) same (hold_a ∙ (meets-all a (x k)).0 meets)),
        )

    equal-back : AreEqualConstrainedAt starts a b k → AreEqualStartedAt starts c d k
    equal-back equal z w run other start inputs =
        let one = allowed-forth a c is_a first k z run in
        let two = allowed-forth b d is_b second k w other in
        let same = equal z w one.0 two.0 ((starts-same (z 0) (w 0)).0 start)
        (λ t h. inputs-forth (z t) (w t) (inputs t h)) (λ t h. (one.1 t h, two.1 t h)) in
        let hold : all_hold a (z k) ≡ all_hold b (w k) =
        same_from_decides {P = all_hold a (z k) ≡ true} (all_hold a (z k)) (all_hold b (w k))
        (λ h. h, λ h. h) (
          λ h. (meets-all a (z k)).0 (same.0.1 ((meets-all b (w k)).1 h)),
          λ h. (meets-all b (w k)).0 (same.0.0 ((meets-all a (z k)).1 h)),
        ) in
        compared-back (z k) (w k) hold (λ h. same.1 ((meets-all a (z k)).1 h))

-- the miter of two circuits whose constraints are deferred is safe exactly where the constraints of
-- the old ones, and all else where these are met, are equal
pub deferred-compare : (starts : Starts) (a b c d m : Circuit) (k : ℕ) → IsCircuit a → IsCircuit b
    → HaveSameCounts a b → DefersConstraints a c → DefersConstraints b d → IsMiterFrom starts c d m
    → IsCircuitSafeAt m k ↔ AreEqualConstrainedAt starts a b k
deferred-compare starts a b c d m k is_a is_b counts first second miters =
    let law = safe-is_equal_started starts c d m k (deferred-circuit a c is_a first)
    (deferred-circuit b d is_b second) (deferred-counts a b c d counts first second) miters in (
      λ safe. equal-forth starts a b c d k is_a is_b counts first second (law.0 safe),
      λ equal. law.1 (equal-back starts a b c d k is_a is_b counts first second equal),
    )
