-- The pairs that both lists of leaves give by their names.
use Rattle.aig_witness_circuits.proofs.Words.{◌≡◌, ℕ, ◌<◌, Bool, false, Option, List, [], ◌++◌, length, map, get_or, sym, ap, subst, ◌∙◌, arith, inl, inr, All, Contains, All-contains, Contains-append_left, Contains-append_right, cases_lt, false≢true, get_or_past, Leaf, latch_leaves-leaves, kind_at-within, Circuit, IsCircuit, IsLeaf, latch_leaves, is_in-back, is_in-there, Contains-map_back, Sharing, AddsNamed, IsAt, IsRefused, Marks, AreNamed, IsFault, IsFor, IsNamed, Names, SharesByName}
use Rattle.aig_witness_circuits.specs.declared.sharing.error.SharingError.{SharingError}
use Rattle.aig_witness_circuits.specs.declared.sharing.error.SharingError.TheVariants as errors

-- ---- marks

-- a marked node is one of the list
pub at_has : (marks : List Bool) (ns : List ℕ) → Marks marks ns → (n : ℕ) → IsAt marks n
    → Contains ns n
at_has marks ns are n at = elim (cases_lt n (length marks)) [
  | inl low ↦ is_in-back ns n (sym (are n low) ∙ at)
  | inr past ↦ absurd (false≢true (sym (get_or_past marks n false past) ∙ at))
]

-- and the other way round
pub has_at : (marks : List Bool) (ns : List ℕ) → Marks marks ns → (n : ℕ) → n < length marks
    → Contains ns n → IsAt marks n
has_at marks ns are n within has = are n within ∙ is_in-there ns n has

-- a marked node has a mark
pub at_within : (marks : List Bool) (n : ℕ) → IsAt marks n → n < length marks
at_within marks n at = elim (cases_lt n (length marks)) [
  | inl low ↦ low
  | inr past ↦ absurd (false≢true (sym (get_or_past marks n false past) ∙ at))
]

-- leaves of a list that has all that are marked
weaker : (node : ℕ → Option ℕ) (names : Names) (ns : List ℕ) (P Q : ℕ → Type 0) (pairs : Sharing)
    → ((n : ℕ) → P n → Q n) → AreNamed node names ns P pairs → AreNamed node names ns Q pairs
weaker node names ns P Q pairs each are = record {
  each = λ k d h.
      let p = are.each k d h in
      (p.0, each (get_or pairs k d).0 p.1, p.2);
  all = are.all;
}

-- the names of pairs that were found
pub pairs_named : (node : ℕ → Option ℕ) (names : Names) (ns : List ℕ) (P : ℕ → Type 0)
    (pairs : Sharing) (marks : List Bool) → AddsNamed node names ns P [] pairs marks
    → All (λ p. IsNamed (IsFor node p.0) names p.1) pairs
pairs_named node names ns P pairs marks adds =
    subst (All (λ p. IsNamed (IsFor node p.0) names p.1)) (sym adds.pairs)
    (λ k d h. (adds.named.each k d h).0)

-- they are of these leaves
pub pairs_among : (node : ℕ → Option ℕ) (names : Names) (ns : List ℕ) (P : ℕ → Type 0)
    (pairs : Sharing) (marks : List Bool) → AddsNamed node names ns P [] pairs marks → (n : ℕ)
    → Contains (map (λ (p : ℕ × ℕ). p.1) pairs) n → Contains ns n
pairs_among node names ns P pairs marks adds n has =
    let found = Contains-map_back (λ (p : ℕ × ℕ). p.1) pairs n has in
    subst (Contains ns) found.2
    (All-contains (λ (p : ℕ × ℕ). IsNamed (IsFor node p.0) names p.1 × P p.0 × Contains ns p.1)
    adds.added found.0 adds.named.each (subst (λ l. Contains l found.0) adds.pairs found.1)).2

module _ (node : ℕ → Option ℕ) (model witness : Circuit) (is_model : IsCircuit model)
    (is_witness : IsCircuit witness) (inputs latches : List Bool)
    (of_inputs : Marks inputs model.inputs)
    (of_latches : Marks latches (latch_leaves model.latchs))
    (inputs_long : length inputs ≡ length model.nodes)
    (latches_long : length latches ≡ length model.nodes) where
  -- the leaves of both kinds have marks
  input_at : (n : ℕ) → Contains model.inputs n → IsAt inputs n
  input_at n has =
      let leaf = All-contains (IsLeaf model.nodes) model.inputs n is_model.inputs has in
      let low : n < length model.nodes = kind_at-within model.nodes n Leaf leaf in
      has_at inputs model.inputs of_inputs n (omega arith) has

  latch_at : (n : ℕ) → Contains (latch_leaves model.latchs) n → IsAt latches n
  latch_at n has =
      let leaf = All-contains (IsLeaf model.nodes) (latch_leaves model.latchs) n
      (latch_leaves-leaves model is_model) has in
      let low : n < length model.nodes = kind_at-within model.nodes n Leaf leaf in
      has_at latches (latch_leaves model.latchs) of_latches n (omega arith) has

  -- why no pair of inputs is made
  pub input_fault : (e : SharingError)
      → IsRefused node witness.names witness.inputs (IsAt inputs) [] e
      → IsFault node model witness e
  input_fault errors.Memory refused = tt
  input_fault (errors.Unknown n) refused =
      inl (refused.0, (refused.1.0, λ m has. refused.1.1 m (input_at m has)))
  input_fault (errors.Twice n) refused =
      let r = refused.1 in (
        Contains-append_left witness.inputs (latch_leaves witness.latchs) n refused.0,
        (
          r.0,
          r.1,
          Contains-append_left witness.inputs (latch_leaves witness.latchs) r.1
              (elim r.5 [ inl none ↦ absurd (omega (arith, none.1)) | inr has ↦ has ]),
          r.4,
          r.3,
          r.2,
        ),
      )

  module _ (first : Sharing) (one : List Bool)
      (adds : AddsNamed node witness.names witness.inputs (IsAt inputs) [] first one) where
    -- and why no pair of latches
    pub latch_fault : (e : SharingError)
        → IsRefused node witness.names (latch_leaves witness.latchs) (IsAt latches) first e
        → IsFault node model witness e
    latch_fault errors.Memory refused = tt
    latch_fault (errors.Unknown n) refused =
        inr (refused.0, (refused.1.0, λ m has. refused.1.1 m (latch_at m has)))
    latch_fault (errors.Twice n) refused =
        let r = refused.1 in (
          Contains-append_right witness.inputs (latch_leaves witness.latchs) n refused.0,
          (
            r.0,
            r.1,
            elim r.5 [
              | inl before ↦
                  Contains-append_left witness.inputs (latch_leaves witness.latchs) r.1
                  (pairs_among node witness.names witness.inputs (IsAt inputs) first one adds r.1
                  before)
              | inr has ↦
                  Contains-append_right witness.inputs (latch_leaves witness.latchs) r.1 has
            ],
            r.4,
            r.3,
            r.2,
          ),
        )

    -- latches' leaves are in none of the pairs of inputs
    pub latches_apart : All (λ n. ¬ Contains (map (λ (p : ℕ × ℕ). p.1) first) n)
        (latch_leaves witness.latchs)
    latches_apart k d h has =
        is_witness.apart k d h
        (pairs_among node witness.names witness.inputs (IsAt inputs) first one adds
        (get_or (latch_leaves witness.latchs) k d) has)

    -- all pairs
    pub shares_by_name : (second : Sharing) (two : List Bool)
        → AddsNamed node witness.names (latch_leaves witness.latchs) (IsAt latches) first second two
        → SharesByName node model witness second
    shares_by_name second two more = record {
      inputs = adds.added;
      latches = more.added;
      pairs = more.pairs ∙ ap (λ l. l ++ more.added) adds.pairs;
      named_inputs = weaker node witness.names witness.inputs (IsAt inputs) (Contains model.inputs)
          adds.added (at_has inputs model.inputs of_inputs) adds.named;
      named_latches = weaker node witness.names (latch_leaves witness.latchs) (IsAt latches)
          (Contains (latch_leaves model.latchs)) more.added
          (at_has latches (latch_leaves model.latchs) of_latches) more.named;
      once = more.once;
      sharing = more.sharing;
    }
