-- The circuit of a question, and what it means that all are never true.
use Rattle.aig_witness_circuits.proofs.Words.{AigEdge, AigLatch, AigNode, All, All-cons, All-nil, All-same, All-weaker, AreCircuits, AreNodes, AsksIf, Bool, CanShareLeaves, CanStart, Circuit, Condition, Contains, False, Holds, IfSome, IsCertificate, IsCircuit, IsCircuit-only_false, IsCircuitSafeAt, IsInRange, IsLatch, IsLeaf, IsNeverTrue, IsSharing, IsTrue, List, Made, Sharing, [], ap, append-nil, arith, asked_of, contains_key, edge_value, false, false≢true, following-are, following-distinct, following-have, get-empty, is_some, list_any, made_in, model_leaf, nat_cmp, question_of, refl, subst, sym, true, with_bad, with_node, ℕ, ◌||◌, ◌↔◌, ◌∙◌, ◌∷◌, ◌≡◌, ◌≤◌}
use Rattle.aig_unroll.specs.Places.{leaves_after}
use Rattle.aig_witness_circuits.specs.declared.condition.Condition.TheVariants.{Base, Property, Reset, Step, Transition}
use Rattle.aig_witness_circuits.proofs.Deciding.{decided}
use Rattle.aig_witness_circuits.proofs.Reading.{AsksWhether}
use Rattle.aig_witness_circuits.proofs.Tracking.{safe}

is_circuit : (nodes : List AigNode) (bad : AigEdge) → AreNodes nodes → IsInRange nodes bad
    → IsCircuit (with_bad (made_in nodes bad))
is_circuit nodes bad are there = record {
  nodes = are;
  inputs = All-weaker (λ n. IsLeaf nodes n × (0 ≤ n)) (IsLeaf nodes) (λ n h. h.0)
      (leaves_after 0 nodes) (following-are nodes are 0);
  inputs_distinct = following-distinct nodes are 0;
  latchs = All-nil (IsLatch nodes);
  latchs_distinct = λ i j d h l. absurd (omega (arith, l));
  apart = All-nil (λ n. ¬ Contains (leaves_after 0 nodes) n);
  properties = record {
    outputs = All-nil (IsInRange nodes);
    bads = All-cons (IsInRange nodes) bad [] there (All-nil (IsInRange nodes));
    constraints = All-nil (IsInRange nodes);
    justice = All-nil (All (IsInRange nodes));
    fairness = All-nil (IsInRange nodes);
  };
  named = λ n h. absurd (nothing_named n h);
}
  where
    nothing_named : (n : ℕ) → IsTrue (contains_key (with_bad (made_in nodes bad)).names n) → ⊥
    nothing_named n h = absurd (false≢true (sym (ap is_some (get-empty nat_cmp n)) ∙ h))

-- it asks what its edge does
pub asks_if : (claim : Type 0) (made : Made) → AsksWhether claim made
    → AsksIf claim (with_bad made)
asks_if claim made asks = record {
  circuit = is_circuit made.nodes made.edge asks.sound asks.there;
  closed = λ n leaf.
      subst (λ l. Contains l n) (sym (append-nil (leaves_after 0 made.nodes)))
      (following-have made.nodes asks.sound 0 n leaf (omega arith));
  edge = made.edge;
  rest = refl;
  asks = asks.asks;
}

-- so does each condition's question
pub question_asks : (condition : Condition) (shared : Sharing) (model witness : Circuit)
    → AreCircuits condition model witness → CanShareLeaves shared model witness
    → AsksIf (Holds condition shared model witness)
    (question_of condition (model_leaf shared) model witness)
question_asks condition shared model witness are can =
    asks_if (Holds condition shared model witness)
    (asked_of condition (with_node [] False) (model_leaf shared) model witness)
    (decided condition shared model witness are can (with_node [] False) IsCircuit-only_false.nodes)

-- a claim for whose question no values make the edge true
abbrev pub IsShown : Type 0 → Type 0
IsShown claim = (q : Circuit) × (asks : AsksIf claim q) × IsNeverTrue q asks.edge

-- it holds
pub shown_holds : (claim : Type 0) → IsShown claim → claim
shown_holds claim shown = shown.1.asks.1 shown.2

-- where all are so, the witness circuit certifies the model
pub shown_certify : (shared : Sharing) (model witness : Circuit) → IsSharing shared
    → CanStart shared witness
    → ((condition : Condition) → IsShown (Holds condition shared model witness))
    → IsCertificate shared model witness
shown_certify shared model witness sharing can shown = record {
  sharing = sharing;
  can_start = can;
  reset = shown_holds (Holds Reset shared model witness) (shown Reset);
  transition = shown_holds (Holds Transition shared model witness) (shown Transition);
  property = shown_holds (Holds Property shared model witness) (shown Property);
  base = shown_holds (Holds Base shared model witness) (shown Base);
  step = shown_holds (Holds Step shared model witness) (shown Step);
}

-- the question is safe at its first step exactly where the claim holds
pub safe_where_holds : (claim : Type 0) (q : Circuit) → AsksIf claim q
    → claim ↔ IsCircuitSafeAt q 0
safe_where_holds claim q asks = (
  λ holds witness.
      let bad = sym (ap (list_any (edge_value q.nodes (witness.0 0))) bads) ∙ witness.1.bad in
      let never = ap (λ b. b || false) (asks.asks.0 holds (witness.0 0)) in
      false≢true (sym never ∙ bad),
  λ safe. asks.asks.1 (λ z. by safe z (edge_value q.nodes z asks.edge) refl),
)
  where
    bads : q.properties.bads ≡ asks.edge ∷ []
    bads = ap (λ (c : Circuit). c.properties.bads) asks.rest

    by : IsCircuitSafeAt q 0 → (z : ℕ → Bool) (b : Bool) → edge_value q.nodes z asks.edge ≡ b
        → edge_value q.nodes z asks.edge ≡ false
    by safe z false is = is
    by safe z true is = absurd (safe (
      λ t. z,
      record {
        is_run = λ t h. absurd (omega (arith, h));
        start = All-same P q.latchs [] (ap (λ (c : Circuit). c.latchs) asks.rest) (All-nil P);
        constraints = λ t h.
            All-same Q q.properties.constraints []
            (ap (λ (c : Circuit). c.properties.constraints) asks.rest) (All-nil Q);
        bad = ap (list_any (edge_value q.nodes z)) bads ∙ ap (λ b. b || false) is;
      },
    ))
      where
        P : AigLatch → Type 0
        P latch = IfSome latch.init (λ e. edge_value q.nodes z e ≡ z latch.input)

        Q : AigEdge → Type 0
        Q e = IsTrue (edge_value q.nodes z e)
