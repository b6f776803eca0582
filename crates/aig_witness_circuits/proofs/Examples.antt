-- Witness circuits that are none.
use Rattle.aig_witness_circuits.proofs.Words.{◌≡◌, ℕ, zero, suc, ◌∙◌, ap, ◌==◌, Bool, true, false, not, Option, Some, None, IfSome, List, [], ◌∷◌, refl, sym, arith, All, All-cons, All-nil, false≢true, ne_eqb, AigEdge, AigLatch, False, Leaf, Circuit, IsInitial, edge_to, edge_value, no_properties, only_false, root, IsCircular, Agrees, AllOwn, BaseHolds, CanStart, IsMove, IsOwn, IsSharing, TakesNext, PropertyHolds, ResetHolds, Sharing, Starts, StepHolds, TransitionHolds, IsInOrder}
use Rattle.aig_circuit.specs.Tree.{node_value, tree_of}

-- a latch whose leaf is node 1
abbrev latch : AigEdge → Option AigEdge → AigLatch
latch next init = record { input = 1; next = next; init = init }

-- a circuit of this latch alone, with these bad edges
abbrev one_latch : AigEdge → Option AigEdge → List AigEdge → Circuit
one_latch next init bads = record only_false {
  nodes = record { node_id = 0; typ = False } ∷ record { node_id = 1; typ = Leaf } ∷ [];
  latchs = latch next init ∷ [];
  properties = record no_properties { bads = bads };
}

-- its leaf, the inverse, and the constant false
abbrev leaf : AigEdge
leaf = edge_to 1 false

abbrev turned : AigEdge
turned = edge_to 1 true

abbrev never : AigEdge
never = edge_to 0 false

abbrev low : ℕ → Bool
low n = false

abbrev high : ℕ → Bool
high n = true

-- the latch is shared
abbrev shared : Sharing
shared = (1, 1) ∷ []

agrees : (x : ℕ → Bool) → Agrees shared x x
agrees x = All-cons (λ p. x p.0 ≡ x p.1) (1, 1) [] refl (All-nil _)

moves : (next : AigEdge) (bads : List AigEdge) (y z : ℕ → Bool)
    → TakesNext (one_latch next None bads) y z (latch next None)
    → IsMove (one_latch next None bads) y z
moves next bads y z e =
    All-cons (TakesNext (one_latch next None bads) y z) (latch next None) [] e (All-nil _)

starts : (next : AigEdge) (bads : List AigEdge) (y : ℕ → Bool)
    → IsInitial (one_latch next None bads) y
starts next bads y =
    All-cons (λ l. IfSome l.init (λ e. edge_value (one_latch next None bads).nodes y e ≡ y l.input))
    (latch next None) [] tt (All-nil _)

good : (nodes : Circuit) (x : ℕ → Bool) → edge_value nodes.nodes x leaf ≡ false
    → All (λ e. edge_value nodes.nodes x e ≡ false) (leaf ∷ [])
good c x e = All-cons (λ e. edge_value c.nodes x e ≡ false) leaf [] e (All-nil _)

-- no latch is the witness circuit's own
none_own : (P : AigLatch → Type 0) (next : AigEdge) (init : Option AigEdge)
    → AllOwn shared P (latch next init ∷ [])
none_own P next init =
    All-cons (λ l. IsOwn shared l.input → P l) (latch next init) []
    (λ own. absurd (own (0, omega arith, refl))) (All-nil _)

-- a latch that starts open has not that of one that starts with 0
no_reset : ResetHolds shared (one_latch leaf None []) (one_latch leaf (Some never) []) → ⊥
unfolding node_value tree_of
no_reset holds =
    let start = holds high high (agrees high) (starts leaf [] high) (All-nil _)
    (none_own (Starts (one_latch leaf (Some never) []) high) leaf (Some never)) in
    let same : false ≡ true = start.0 0 (latch leaf None) (omega arith) in
    false≢true same

-- a latch that turns doesn't stay
no_transition : TransitionHolds shared (one_latch turned None []) (one_latch leaf None []) → ⊥
unfolding node_value tree_of
no_transition holds =
    let moved = holds low high low high (agrees low) (agrees high) (moves turned [] low high refl)
    (All-nil _) (All-nil _) (All-nil _)
    (none_own (TakesNext (one_latch leaf None []) low high) leaf None) in
    let same : true ≡ false = moved.0 0 (latch leaf None) (omega arith) in
    false≢true (sym same)

-- a bad edge of the model that the witness circuit hasn't
no_property : PropertyHolds shared (one_latch leaf None (leaf ∷ [])) (one_latch leaf None []) → ⊥
unfolding node_value tree_of
no_property holds =
    let is_good = holds high high (agrees high) (All-nil _) (All-nil _) (All-nil _) in
    let same : true ≡ false = is_good 0 leaf (omega arith) in
    false≢true (sym same)

-- a bad state at the start
no_base : BaseHolds (one_latch leaf None (leaf ∷ [])) → ⊥
unfolding node_value tree_of
no_base holds =
    let is_good = holds high (starts leaf (leaf ∷ []) high) (All-nil _) in
    let same : true ≡ false = is_good 0 leaf (omega arith) in
    false≢true (sym same)

-- a good state before a bad one
no_step : StepHolds (one_latch turned None (leaf ∷ [])) → ⊥
unfolding node_value tree_of
no_step holds =
    let is_good = holds low high (good (one_latch turned None (leaf ∷ [])) low refl)
    (moves turned (leaf ∷ []) low high refl) (All-nil _) (All-nil _) in
    let same : true ≡ false = is_good 0 leaf (omega arith) in
    false≢true (sym same)

-- one leaf that stands for two
no_sharing : IsSharing ((1, 1) ∷ (2, 1) ∷ []) → ⊥
no_sharing sharing = sharing 0 1 0 (omega arith) (omega arith) refl

-- ---- a latch of its own that starts with its own inverse

not_itself : (b : Bool) → not b ≡ b → ⊥
not_itself true e = false≢true e
not_itself false e = false≢true (sym e)

-- it can't
no_start : CanStart [] (one_latch leaf (Some turned) []) → ⊥
unfolding node_value tree_of
no_start can =
    let z = can low in
    let same : not (z.0 1) ≡ z.0 1 =
    z.2 0 (latch leaf None) (omega arith) (λ has. absurd (omega (arith, has.1))) in
    not_itself (z.0 1) same

-- and stands in no order
no_order : IsInOrder (one_latch leaf (Some turned) []) (latch leaf (Some turned) ∷ []) → ⊥
unfolding node_value tree_of
no_order order =
    let one : ℕ → Bool = λ n. n == 1 in
    let same : true ≡ false =
    order.1 low one (λ n apart. sym (ne_eqb n 1 (λ e. apart (0, omega arith, sym e)))) in
    false≢true (sym same)

-- its reset goes round in a circle
turned_circle : IsCircular [] (one_latch leaf (Some turned) [])
turned_circle = (
  1,
  turned,
  (
    latch leaf (Some turned),
    (0, omega arith, refl),
    (λ has. absurd (omega (arith, has.1))),
    refl,
    refl,
  ),
  root (0, omega arith, refl),
)

-- that of an open latch doesn't, nor that of one that is shared
no_open_circle : ¬ IsCircular [] (one_latch leaf None [])
no_open_circle (n, e, (l, (zero, low, is), own, same, init), walk) =
    let none : ◌≡◌ {A = Option AigEdge} None (Some e) =
    ap (λ (x : AigLatch). x.init) is ∙ init in
    cc
no_open_circle (n, e, (l, (suc k, low, is), own, same, init), walk) =
    absurd (omega (arith, low))

no_shared_circle : ¬ IsCircular shared (one_latch leaf (Some turned) [])
no_shared_circle (n, e, (l, (zero, low, is), own, same, init), walk) =
    own (0, omega arith, ap (λ (x : AigLatch). x.input) is)
no_shared_circle (n, e, (l, (suc k, low, is), own, same, init), walk) =
    absurd (omega (arith, low))
