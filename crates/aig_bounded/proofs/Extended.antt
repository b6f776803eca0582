-- Nodes of a question that gates or a leaf are added to.
use Rattle.aig_base.proofs.Words.{◌≡◌, ◌≢◌, ◌⊎◌, ℕ, ◌+◌, ◌<◌, ◌≤◌, Bool, List, [], ◌∷◌, ◌++◌, length, length-append, get_or, refl, sym, ap, subst, ◌∙◌, inl, inr, arith, All, AllPairs, Contains, cases_lt, same_Some, All-push, All-weaker, Contains-append_left, Contains-append_right, all_pairs_push}
use Rattle.aig_circuit.specs.declared.edge.AigEdge.{AigEdge}
use Rattle.aig_circuit.specs.declared.node.AigNode.{AigNode}
use Rattle.aig_circuit.specs.declared.node.AigNodeType.TheVariants.{And, Leaf}
use Rattle.aig_circuit.proofs.Words.{AreNodes, Circuit, IsLeaf, Grows, with_node}
use Rattle.aig_circuit.proofs.Building.{AddsGates-itself, AddsGates-then, Grows-itself, Grows-kept, Grows-leaf, Grows-then}
use Rattle.aig_circuit.proofs.Trees.{kind_at-last, kind_at-within}
use Rattle.aig_bounded.specs.declared.frames.Frames.{Frames}
use Rattle.aig_bounded.specs.declared.place.Place.{Place}
use Rattle.aig_bounded.specs.Gates.{HasGates}
use Rattle.aig_bounded.proofs.Sharing.{HasGates-leaf}
use Rattle.aig_bounded.specs.Question.{IsPlace, ReadsPlaces}
use Rattle.aig_bounded.specs.Frames.{AddsAnds, AreFrames, AreShared, Extends, IsBefore, Opens}

-- ---- what inputs read

-- the same inputs at the same places read the same
reads_same : (is js : List ℕ) (ps qs : List Place) (y : ℕ → Bool) (run : ℕ → ℕ → Bool) → js ≡ is
    → qs ≡ ps → ReadsPlaces js qs y run → ReadsPlaces is ps y run
reads_same is js ps qs y run inputs places reads =
    subst (λ l. ReadsPlaces l ps y run) inputs (subst (λ l. ReadsPlaces js l y run) places reads)

-- one input more
pub reads_push : (is : List ℕ) (ps : List Place) (n : ℕ) (p : Place) (y : ℕ → Bool)
    (run : ℕ → ℕ → Bool) → length ps ≡ length is
    → ReadsPlaces (is ++ n ∷ []) (ps ++ p ∷ []) y run
    → ReadsPlaces is ps y run × (y n ≡ run p.step p.leaf)
reads_push [] [] n p y run h reads = (tt, reads.0)
reads_push [] (q ∷ ps) n p y run h reads = absurd (omega arith)
reads_push (i ∷ is) [] n p y run h reads = absurd (omega arith)
reads_push (i ∷ is) (q ∷ ps) n p y run h reads =
    let rest = reads_push is ps n p y run (omega arith) reads.1 in
    ((reads.0, rest.0), rest.1)

-- ---- extensions

pub Extends-itself : (f : Frames) → AreNodes f.nodes.items → Extends f f
Extends-itself f sound = record {
  limit = refl;
  grows = Grows-itself f.nodes.items sound;
  reads = λ y run reads. reads;
}

pub Extends-then : (old mid new : Frames) → Extends old mid → Extends mid new → Extends old new
Extends-then old mid new p q = record {
  limit = q.limit ∙ p.limit;
  grows = Grows-then old.nodes.items mid.nodes.items new.nodes.items p.grows q.grows;
  reads = λ y run reads. p.reads y run (q.reads y run reads);
}

pub Extends-ands : (old new : Frames) → AddsAnds old new → Extends old new
Extends-ands old new adds = record {
  limit = adds.limit;
  grows = adds.nodes.grows;
  reads = λ y run reads. reads_same old.inputs.items new.inputs.items old.places.items new.places.items y run adds.inputs adds.places reads;
}

-- the extension by a leaf, and what it reads
pub opened_reads : (old new : Frames) (place : Place) (e : AigEdge) (y : ℕ → Bool)
    (run : ℕ → ℕ → Bool) → length old.places.items ≡ length old.inputs.items
    → Opens old new place e → ReadsPlaces new.inputs.items new.places.items y run
    → ReadsPlaces old.inputs.items old.places.items y run
    × (y (length old.nodes.items) ≡ run place.step place.leaf)
opened_reads old new place e y run count opens reads =
    reads_push old.inputs.items old.places.items (length old.nodes.items) place y run count
    (reads_same (old.inputs.items ++ length old.nodes.items ∷ []) new.inputs.items (old.places.items ++ place ∷ []) new.places.items y run opens.inputs opens.places reads)

pub Extends-opens : (c : Circuit) (t n : ℕ) (old new : Frames) (place : Place) (e : AigEdge)
    → AreFrames c t n old → Opens old new place e → Extends old new
Extends-opens c t n old new place e are opens = record {
  limit = opens.limit;
  grows = subst (Grows old.nodes.items) (sym opens.nodes) (Grows-leaf old.nodes.items are.shared.gates.sound);
  reads = λ y run reads. (opened_reads old new place e y run are.count opens reads).0;
}

-- ---- gates more

-- a leaf more leaves all gates in the table
pub AreShared-opened : (old new : Frames) → new.nodes.items ≡ with_node old.nodes.items Leaf
    → new.gates ≡ old.gates → new.limit ≡ old.limit → length old.nodes.items < old.limit
    → AreShared old → AreShared new
AreShared-opened old new nodes gates limit low shared = record {
  gates = subst (HasGates new.nodes.items) (sym gates) (subst (λ l. HasGates l old.gates) (sym nodes) (HasGates-leaf old.nodes.items old.gates (Grows-leaf old.nodes.items shared.gates.sound) shared.gates));
  few = omega (arith, ap length nodes, length-append old.nodes.items (record { node_id = length old.nodes.items; typ = Leaf } ∷ []), low, limit);
  small = omega (arith, limit, shared.small);
}

pub AddsAnds-itself : (f : Frames) → AreShared f → AddsAnds f f
AddsAnds-itself f shared = record {
  nodes = AddsGates-itself f.nodes.items shared.gates.sound;
  limit = refl;
  shared = shared;
  inputs = refl;
  places = refl;
}

-- the limit stays too
pub AddsAnds-then : (old mid new : Frames) → AddsAnds old mid → AddsAnds mid new → AddsAnds old new
AddsAnds-then old mid new p q = record {
  nodes = AddsGates-then old.nodes.items mid.nodes.items new.nodes.items p.nodes q.nodes;
  limit = q.limit ∙ p.limit;
  shared = q.shared;
  inputs = q.inputs ∙ p.inputs;
  places = q.places ∙ p.places;
}

leaf_is_no_gate : (a b : AigEdge) → Leaf ≡ And a b → ⊥
leaf_is_no_gate a b e = cc

pub AreFrames-ands : (c : Circuit) (t n : ℕ) (old new : Frames) → AreFrames c t n old
    → AddsAnds old new → AreFrames c t n new
AreFrames-ands c t n old new are adds = record {
  shared = adds.shared;
  inputs = subst (All (IsLeaf new.nodes.items)) (sym adds.inputs) (All-weaker (IsLeaf old.nodes.items) (IsLeaf new.nodes.items) kept old.inputs.items are.inputs);
  rising = subst (AllPairs (λ m n. m < n)) (sym adds.inputs) are.rising;
  closed = λ m leaf. subst (λ l. Contains l m) (sym adds.inputs) (are.closed m (back m leaf (cases_lt m (length old.nodes.items))));
  count = ap length adds.places ∙ are.count ∙ sym (ap length adds.inputs);
  places = subst (All (IsPlace c)) (sym adds.places) are.places;
  distinct = subst (AllPairs (λ p q. p ≢ q)) (sym adds.places) are.distinct;
  before = subst (All (IsBefore t n)) (sym adds.places) are.before;
}
  where
    kept : (m : ℕ) → IsLeaf old.nodes.items m → IsLeaf new.nodes.items m
    kept m leaf = Grows-kept old.nodes.items new.nodes.items adds.nodes.grows m (kind_at-within old.nodes.items m Leaf leaf) ∙ leaf

    back : (m : ℕ) → IsLeaf new.nodes.items m
        → (m < length old.nodes.items) ⊎ (length old.nodes.items ≤ m) → IsLeaf old.nodes.items m
    back m leaf (inl low) = sym (Grows-kept old.nodes.items new.nodes.items adds.nodes.grows m low) ∙ leaf
    back m leaf (inr high) =
        let gate = adds.nodes.gates m high (kind_at-within new.nodes.items m Leaf leaf) in
        absurd (leaf_is_no_gate gate.0 gate.1 (same_Some _ _ (sym leaf ∙ gate.2)))

-- ---- a leaf more

module _ (c : Circuit) (t n : ℕ) (old new : Frames) (e : AigEdge) (are : AreFrames c t n old)
    (opens : Opens old new (record { step = t; leaf = n }) e)
    (is : IsPlace c (record { step = t; leaf = n })) where
  abbrev place : Place
  place = record { step = t; leaf = n }

  abbrev nodes : List AigNode
  nodes = with_node old.nodes.items Leaf

  abbrev grows : Grows old.nodes.items nodes
  grows = Grows-leaf old.nodes.items are.shared.gates.sound

  leaf_kept : (m : ℕ) → IsLeaf old.nodes.items m → IsLeaf nodes m
  leaf_kept m leaf = Grows-kept old.nodes.items nodes grows m (kind_at-within old.nodes.items m Leaf leaf) ∙ leaf

  low : (k d : ℕ) → k < length old.inputs.items
      → get_or old.inputs.items k d < length old.nodes.items
  low k d h = kind_at-within old.nodes.items (get_or old.inputs.items k d) Leaf (are.inputs k d h)

  closed : (m : ℕ) → IsLeaf nodes m
      → (m < length old.nodes.items) ⊎ (length old.nodes.items ≤ m)
      → Contains (old.inputs.items ++ length old.nodes.items ∷ []) m
  closed m leaf (inl less) =
      Contains-append_left old.inputs.items (length old.nodes.items ∷ []) m
      (are.closed m (sym (Grows-kept old.nodes.items nodes grows m less) ∙ leaf))
  closed m leaf (inr more) =
      let within = kind_at-within nodes m Leaf leaf in
      let same : length old.nodes.items ≡ m = omega (arith, within, length-append old.nodes.items (record { node_id = length old.nodes.items; typ = Leaf } ∷ [])) in
      Contains-append_right old.inputs.items (length old.nodes.items ∷ []) m (0, omega arith, same)

  apart : (k : ℕ) (d : Place) → k < length old.places.items → get_or old.places.items k d ≢ place
  apart k d h same = by (are.before k d h)
    where
      by : IsBefore t n (get_or old.places.items k d) → ⊥
      by (inl less) = omega (arith, less, ap (λ (p : Place). p.step) same)
      by (inr both) = omega (arith, both.1, ap (λ (p : Place). p.leaf) same)

  later : (p : Place) → IsBefore t n p → IsBefore t (n + 1) p
  later p (inl less) = inl less
  later p (inr both) = inr (both.0, omega (arith, both.1))

  pub AreFrames-opens : AreFrames c t (n + 1) new
  AreFrames-opens = record {
    shared = opens.shared;
    inputs = subst (λ l. All (IsLeaf l) new.inputs.items) (sym opens.nodes) (subst (All (IsLeaf nodes)) (sym opens.inputs) (All-push (IsLeaf nodes) old.inputs.items (length old.nodes.items) (All-weaker (IsLeaf old.nodes.items) (IsLeaf nodes) leaf_kept old.inputs.items are.inputs) (kind_at-last old.nodes.items _)));
    rising = subst (AllPairs (λ m n. m < n)) (sym opens.inputs) (all_pairs_push (λ m n. m < n) old.inputs.items (length old.nodes.items) are.rising low);
    closed = λ m leaf. subst (λ l. Contains l m) (sym opens.inputs) (closed m (subst (λ l. IsLeaf l m) opens.nodes leaf) (cases_lt m (length old.nodes.items)));
    count = ap length opens.places ∙ more ∙ sym (ap length opens.inputs);
    places = subst (All (IsPlace c)) (sym opens.places) (All-push (IsPlace c) old.places.items place are.places is);
    distinct = subst (AllPairs (λ p q. p ≢ q)) (sym opens.places) (all_pairs_push (λ p q. p ≢ q) old.places.items place are.distinct apart);
    before = subst (All (IsBefore t (n + 1))) (sym opens.places) (All-push (IsBefore t (n + 1)) old.places.items place (All-weaker (IsBefore t n) (IsBefore t (n + 1)) later old.places.items are.before) (inr (refl, omega arith)));
  }
    where
      more : length (old.places.items ++ place ∷ [])
          ≡ length (old.inputs.items ++ length old.nodes.items ∷ [])
      more = length-append old.places.items (place ∷ []) ∙ ap (λ k. k + 1) are.count ∙ sym (length-append old.inputs.items (length old.nodes.items ∷ []))

-- ---- further on

later_before : (c : Circuit) (t u m n : ℕ) (f : Frames)
    → ((p : Place) → IsBefore t m p → IsBefore u n p) → AreFrames c t m f → AreFrames c u n f
later_before c t u m n f later are = record {
  shared = are.shared;
  inputs = are.inputs;
  rising = are.rising;
  closed = are.closed;
  count = are.count;
  places = are.places;
  distinct = are.distinct;
  before = All-weaker (IsBefore t m) (IsBefore u n) later f.places.items are.before;
}

-- before the next node
pub AreFrames-next_node : (c : Circuit) (t n : ℕ) (f : Frames) → AreFrames c t n f
    → AreFrames c t (n + 1) f
AreFrames-next_node c t n f are = later_before c t t n (n + 1) f later are
  where
    later : (p : Place) → IsBefore t n p → IsBefore t (n + 1) p
    later p (inl less) = inl less
    later p (inr both) = inr (both.0, omega (arith, both.1))

-- before the next step
pub AreFrames-next_step : (c : Circuit) (t n : ℕ) (f : Frames) → AreFrames c t n f
    → AreFrames c (t + 1) 0 f
AreFrames-next_step c t n f are = later_before c t (t + 1) n 0 f later are
  where
    later : (p : Place) → IsBefore t n p → IsBefore (t + 1) 0 p
    later p (inl less) = inl (omega arith)
    later p (inr both) = inl (omega (arith, both.0))
