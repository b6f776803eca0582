-- A latch that is added and holds where all constraints held at all steps before.
use Rattle.aig_base.proofs.Words.{◌≡◌, ◌↔◌, ◌≢◌, ℕ, zero, suc, ◌+◌, ◌<◌, ◌≤◌, Bool, true, cond, eqb, not, ◌&&◌, Some, List, [], ◌∷◌, ◌++◌, length, get_or, refl, sym, ap, subst, ◌∙◌, arith, inl, inr, add-one, and_from, and_parts, cases_lt, eq-eqb, ne_eqb, All-push}
use Rattle.std.specs.Prelude.{All, IsTrue, drop, slice_get}
use Rattle.std.proofs.lemmas.List.Sums.{AllPass-from_list_all, list_all-from_AllPass}
use Rattle.aig_circuit.specs.declared.edge.AigEdge.{AigEdge}
use Rattle.aig_circuit.specs.declared.node.AigNodeType.TheVariants.{Leaf}
use Rattle.aig_circuit.proofs.Words.{edge_value, Circuit, IsCircuit, IsLeaf, AgreeOnLeaves}
use Rattle.aig_circuit.proofs.Trees.{kind_at-within, node_value-false}
use Rattle.aig_change.specs.Changes.{JoinsConstraints, constraints_held_latch}
use Rattle.aig_change.specs.Runs.{AreOldRuns, ConstraintsHoldUpTo, IsRunFromInitial}
use Rattle.aig_change.proofs.Grown.{AddsLeaf, Begins, Follows, all_hold, all_hold-same, begins_back, begins_forth, follows_back, follows_forth}
use Rattle.aig_circuit.proofs.Lists.{All-first, All-second}

-- A latch is added whose next value is the and of its own and of all constraints.
pub record AddsHeld (old new : Circuit) (leaf : ℕ) (next : AigEdge) : Type 0 where
  pub nodes : AddsLeaf old.nodes new.nodes leaf
  pub latchs : new.latchs ≡ old.latchs ++ constraints_held_latch leaf next ∷ []
  pub value : (x : ℕ → Bool) → edge_value new.nodes x next ≡ (x leaf && all_hold old x)

-- whether all constraints held at all steps before
pub held_before : Circuit → (ℕ → ℕ → Bool) → ℕ → Bool
held_before c x zero = true
held_before c x (suc t) = held_before c x t && all_hold c (x t)

-- the last of the steps up to t is t
up_to : (P : ℕ → Type 0) (t : ℕ) → ((s : ℕ) → s < t → P s) → P t → (s : ℕ) → s ≤ t → P s
up_to P t before here s h = elim (cases_lt s t) [
  | inl low ↦ before s low
  | inr high ↦ let same : t ≡ s = omega arith in subst P same here
]

-- it says what its name does
pub held_forth : (c : Circuit) (x : ℕ → ℕ → Bool) (t : ℕ) → held_before c x t ≡ true → (s : ℕ) → s < t → all_hold c (x s) ≡ true
unfolding held_before
held_forth c x zero h s lt = absurd (omega arith)
held_forth c x (suc t) h s lt =
    let both = and_parts (held_before c x t) (all_hold c (x t)) h in
    up_to (λ s. all_hold c (x s) ≡ true) t (held_forth c x t both.0) both.1 s (omega arith)

pub held_back : (c : Circuit) (x : ℕ → ℕ → Bool) (t : ℕ) → ((s : ℕ) → s < t → all_hold c (x s) ≡ true) → held_before c x t ≡ true
unfolding held_before
held_back c x zero all = refl
held_back c x (suc t) all = and_from (held_before c x t) (all_hold c (x t)) (held_back c x t (λ s lt. all s (omega arith))) (all t (omega arith))

-- it depends on the old leaves at the steps before alone
held_before-same : (c : Circuit) → IsCircuit c → (last : ℕ) (x z : ℕ → ℕ → Bool) → AgreeOnLeaves c last x z → (t : ℕ) → t ≤ last → held_before c x t ≡ held_before c z t
unfolding held_before
held_before-same c is last x z agree zero h = refl
held_before-same c is last x z agree (suc t) h =
    ap (λ b. b && all_hold c (x t)) (held_before-same c is last x z agree t (omega arith))
    ∙ ap (λ b. held_before c z t && b) (all_hold-same c is (x t) (z t) (λ n leaf. agree t n (omega arith) leaf))

module _ (old new : Circuit) (leaf : ℕ) (next : AigEdge) (is : IsCircuit old) (adds : AddsHeld old new leaf next) where
  -- ---- runs of the new circuit

  module _ (last : ℕ) (z : ℕ → ℕ → Bool) (run : IsRunFromInitial new last z) where
    follows : (t : ℕ) → t < last → All (Follows new.nodes (z t) (z (t + 1))) (old.latchs ++ constraints_held_latch leaf next ∷ [])
    follows t h = subst (All (Follows new.nodes (z t) (z (t + 1)))) adds.latchs (run.run t h)

    begins : All (Begins new.nodes (z 0)) (old.latchs ++ constraints_held_latch leaf next ∷ [])
    begins = subst (All (Begins new.nodes (z 0))) adds.latchs run.start

    starts_true : z 0 leaf ≡ true
    starts_true =
        sym (All-second (Begins new.nodes (z 0)) old.latchs (constraints_held_latch leaf next ∷ []) begins 0 (constraints_held_latch leaf next) (omega arith))
        ∙ ap not (node_value-false new.nodes (z 0) 0 adds.nodes.grows.sound.false_first)

    moves_on : (t : ℕ) → t < last → z (suc t) leaf ≡ (z t leaf && all_hold old (z t))
    moves_on t h =
        subst (λ k. z k leaf ≡ (z t leaf && all_hold old (z t))) (add-one t)
        (All-second (Follows new.nodes (z t) (z (t + 1))) old.latchs (constraints_held_latch leaf next ∷ []) (follows t h) 0 (constraints_held_latch leaf next) (omega arith) ∙ adds.value (z t))

    -- the added latch holds where all constraints held at all steps before
    pub leaf_held : (t : ℕ) → t ≤ last → z t leaf ≡ held_before old z t
    unfolding held_before
    leaf_held zero h = starts_true
    leaf_held (suc t) h = moves_on t (omega arith) ∙ ap (λ b. b && all_hold old (z t)) (leaf_held t (omega arith))

    pub cut_run : IsRunFromInitial old last z
    cut_run = record {
      run = λ t h. follows_forth old new.nodes is adds.nodes.grows (z t) (z (t + 1)) (All-first (Follows new.nodes (z t) (z (t + 1))) old.latchs (constraints_held_latch leaf next ∷ []) (follows t h));
      start = λ k d h. begins_forth old new.nodes is adds.nodes.grows (z 0) (get_or old.latchs k d).input (get_or old.latchs k d).init (is.latchs k d h).init
          (All-first (Begins new.nodes (z 0)) old.latchs (constraints_held_latch leaf next ∷ []) begins k d h);
    }

    -- an edge that joins an old one with the latch's next one holds where the old one does and all constraints held up to this step
    pub joined : (t : ℕ) → t ≤ last → (e f : AigEdge) → ((x : ℕ → Bool) → edge_value new.nodes x f ≡ (edge_value new.nodes x next && edge_value old.nodes x e))
        → IsTrue (edge_value new.nodes (z t) f) ↔ (IsTrue (edge_value old.nodes (z t) e) × ConstraintsHoldUpTo old t z)
    joined t h e f value = (
      λ holds.
          let both = and_parts (edge_value new.nodes (z t) next) (edge_value old.nodes (z t) e) (sym (value (z t)) ∙ holds) in
          let held = and_parts (z t leaf) (all_hold old (z t)) (sym (adds.value (z t)) ∙ both.0) in
          let before = held_forth old z t (sym (leaf_held t h) ∙ held.0) in
          (both.1, λ s le. AllPass-from_list_all (edge_value old.nodes (z s)) old.properties.constraints (up_to (λ s. all_hold old (z s) ≡ true) t before held.1 s le)),
      λ p.
          let all : (s : ℕ) → s ≤ t → all_hold old (z s) ≡ true = λ s le. list_all-from_AllPass (edge_value old.nodes (z s)) old.properties.constraints (p.1 s le) in
          let held : z t leaf ≡ true = leaf_held t h ∙ held_back old z t (λ s lt. all s (omega arith)) in
          value (z t) ∙ and_from (edge_value new.nodes (z t) next) (edge_value old.nodes (z t) e) (adds.value (z t) ∙ and_from (z t leaf) (all_hold old (z t)) held (all t (omega arith))) p.0,
    )

  -- ---- runs of the old circuit

  abbrev pub extended_by : (ℕ → ℕ → Bool) → ℕ → ℕ → Bool
  extended_by x t n = cond (eqb n leaf) (held_before old x t) (x t n)

  extended_leaf : (x : ℕ → ℕ → Bool) (t : ℕ) → extended_by x t leaf ≡ held_before old x t
  extended_leaf x t = ap (λ b. cond b (held_before old x t) (x t leaf)) (eq-eqb leaf leaf refl)

  extended_old : (x : ℕ → ℕ → Bool) (t n : ℕ) → IsLeaf old.nodes n → extended_by x t n ≡ x t n
  extended_old x t n h =
      let differ : n ≢ leaf = λ e. absurd (omega (arith, e, kind_at-within old.nodes n Leaf h, adds.nodes.past)) in
      ap (λ b. cond b (held_before old x t) (x t n)) (ne_eqb n leaf differ)

  module _ (last : ℕ) (x : ℕ → ℕ → Bool) (run : IsRunFromInitial old last x) where
    extended_follows : (t : ℕ) → t < last → All (Follows new.nodes (extended_by x t) (extended_by x (t + 1))) (old.latchs ++ constraints_held_latch leaf next ∷ [])
    unfolding held_before
    extended_follows t h = All-push (Follows new.nodes (extended_by x t) (extended_by x (t + 1))) old.latchs (constraints_held_latch leaf next)
        (follows_back old new.nodes is adds.nodes.grows (extended_by x t) (x t) (extended_old x t) (extended_by x (t + 1)) (x (t + 1)) (extended_old x (t + 1)) (run.run t h))
        (extended_leaf x (t + 1) ∙ ap (held_before old x) (add-one t)
        ∙ ap (λ b. b && all_hold old (x t)) (sym (extended_leaf x t))
        ∙ ap (λ b. extended_by x t leaf && b) (sym (all_hold-same old is (extended_by x t) (x t) (extended_old x t)))
        ∙ sym (adds.value (extended_by x t)))

    extended_begins : All (Begins new.nodes (extended_by x 0)) (old.latchs ++ constraints_held_latch leaf next ∷ [])
    unfolding held_before
    extended_begins = All-push (Begins new.nodes (extended_by x 0)) old.latchs (constraints_held_latch leaf next)
        (λ k d h. begins_back old new.nodes is adds.nodes.grows (extended_by x 0) (x 0) (extended_old x 0) (get_or old.latchs k d).input (is.latchs k d h).leaf (get_or old.latchs k d).init (is.latchs k d h).init (run.start k d h))
        (ap not (node_value-false new.nodes (extended_by x 0) 0 adds.nodes.grows.sound.false_first) ∙ sym (extended_leaf x 0))

    pub extended_run : IsRunFromInitial new last (extended_by x)
    extended_run = record {
      run = λ t h. subst (All (Follows new.nodes (extended_by x t) (extended_by x (t + 1)))) (sym adds.latchs) (extended_follows t h);
      start = subst (All (Begins new.nodes (extended_by x 0))) (sym adds.latchs) extended_begins;
    }

  -- runs from an initial state are the old ones
  pub AreOldRuns-held : AreOldRuns old new (IsRunFromInitial new) (IsRunFromInitial old)
  AreOldRuns-held = record {
    cut = cut_run;
    extended = λ last x run. (extended_by x, extended_run last x run, λ t n h leaf. extended_old x t n leaf);
    one = λ last y z run other agree t n h there. elim (adds.nodes.only n there) [
      | inl old_leaf ↦ agree t n h old_leaf
      | inr same ↦ subst (λ m. y t m ≡ z t m) (sym same) (leaf_held last y run t h ∙ held_before-same old is last y z agree t h ∙ sym (leaf_held last z other t h))
    ];
  }

  -- ---- properties

  -- the first edge is joined with the latch's next one
  pub JoinsConstraints-held : (edges joint : List AigEdge) → drop 1 joint ≡ drop 1 edges → length joint ≡ length edges
      → ((e f : AigEdge) → slice_get edges 0 ≡ Some e → slice_get joint 0 ≡ Some f → (x : ℕ → Bool) → edge_value new.nodes x f ≡ (edge_value new.nodes x next && edge_value old.nodes x e))
      → JoinsConstraints old new edges joint
  JoinsConstraints-held edges joint others count value = record {
    others = others;
    count = count;
    first = λ last z run t e f h is_e is_f. joined last z run t h e f (value e f is_e is_f);
  }
