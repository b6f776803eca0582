-- Lists of pairs that say the same of each leaf.
use Rattle.aig_witness_circuits.proofs.Words.{All, All-append, All-contains, All-same, All-weaker, Contains, Contains-append_left, Contains-append_right, IsFor, IsLiteralOf, IsNamed, List, Names, None, Option, Shares, SharesByName, Sharing, Some, ap, false≢true, inl, inr, is_in-there, is_none, map, map-append, model_leaf, not, refl, same_Some, sharing_prefix, subst, sym, ℕ, ◌++◌, ◌∙◌, ◌≡◌}
use Rattle.aig_circuit.specs.Circuit.{Circuit, latch_leaves}
use Rattle.aig_witness_circuits.proofs.Adding.{form_of}
use Rattle.aig_witness_circuits.proofs.First.{first_of-found, model_leaf-first, stands_where_shared}
use Rattle.aig_witness_circuits.proofs.Saying.{one_leaf}

-- what follows the prefix
pub same_digits : (a b : List ℕ) → sharing_prefix ++ a ≡ sharing_prefix ++ b → a ≡ b
same_digits a b same = cc

-- a name has the literal of one node
one_node : (node : ℕ → Option ℕ) (names : Names) (n m k : ℕ) → IsNamed (IsFor node m) names n
    → IsNamed (IsFor node k) names n → m ≡ k
one_node node names n m k one other =
    let texts = same_Some _ _ (sym one.1 ∙ other.1) in
    let digits = same_digits one.2.0 other.2.0 (sym one.2.1 ∙ texts ∙ other.2.1) in
    one_leaf node m k one.2.0 one.2.2 (subst (IsLiteralOf node k) (sym digits) other.2.2)

-- the leaves that pairs have
abbrev leaves_in : Sharing → List ℕ
leaves_in pairs = map (λ (p : ℕ × ℕ). p.1) pairs

module _ (node : ℕ → Option ℕ) (model witness : Circuit) (t : Sharing)
    (is_t : SharesByName node model witness t) where
  -- a leaf whose name has the form is among them
  named_there : (inputs latches : Sharing) → t ≡ inputs ++ latches → (n : ℕ)
      → Contains (leaves_in inputs ++ leaves_in latches) n → Contains (leaves_in t) n
  named_there inputs latches is n has =
      subst (λ l. Contains (leaves_in l) n) (sym is)
      (subst (λ l. Contains l n) (sym (map-append (λ (p : ℕ × ℕ). p.1) inputs latches)) has)

  abbrev IsThere : ℕ × ℕ → Type 0
  IsThere p = IsNamed (IsFor node p.0) witness.names p.1 × Contains (leaves_in t) p.1

  there : (s : Sharing) → SharesByName node model witness s → All IsThere s
  there s is_s =
      All-same IsThere s (is_s.inputs ++ is_s.latches) is_s.pairs
      (All-append IsThere is_s.inputs is_s.latches
      (All-weaker
      (λ (p : ℕ × ℕ). IsNamed (IsFor node p.0) witness.names p.1 × Contains model.inputs p.0
      × Contains witness.inputs p.1) IsThere
      (λ p h. (
        h.0,
        named_there is_t.inputs is_t.latches is_t.pairs p.1
            (Contains-append_left (leaves_in is_t.inputs) (leaves_in is_t.latches) p.1
            (is_t.named_inputs.all p.1 h.2 (form_of node witness.names p.0 p.1 h.0))),
      )) is_s.inputs is_s.named_inputs.each)
      (All-weaker
      (λ (p : ℕ × ℕ). IsNamed (IsFor node p.0) witness.names p.1
      × Contains (latch_leaves model.latchs) p.0 × Contains (latch_leaves witness.latchs) p.1)
      IsThere
      (λ p h. (
        h.0,
        named_there is_t.inputs is_t.latches is_t.pairs p.1
            (Contains-append_right (leaves_in is_t.inputs) (leaves_in is_t.latches) p.1
            (is_t.named_latches.all p.1 h.2 (form_of node witness.names p.0 p.1 h.0))),
      )) is_s.latches is_s.named_latches.each))

  -- where a leaf stands for one by a list, its name says so, and it stands for one by t
  stands : (s : Sharing) → SharesByName node model witness s → (n m : ℕ) → model_leaf s n ≡ Some m
      → IsThere (m, n)
  stands s is_s n m is =
      let found = first_of-found (λ (p : ℕ × ℕ). p.1) (λ p. p.0) s n m
      (sym (model_leaf-first s n) ∙ is) in
      subst (λ k. IsThere (k, n)) found.3
      (subst (λ k. IsThere (found.0.0, k)) found.2
      (All-contains IsThere s found.0 (there s is_s) found.1))

-- it isn't none where the leaf is among those of the list
not_none : (t : Sharing) (n : ℕ) → Contains (leaves_in t) n → model_leaf t n ≡ None → ⊥
not_none t n has is =
    false≢true
    (sym (ap not (is_in-there (leaves_in t) n has))
    ∙ sym (stands_where_shared t n)
    ∙ ap is_none is)

-- by their names
named_alike : (node : ℕ → Option ℕ) (model witness : Circuit) (s t : Sharing)
    → SharesByName node model witness s → SharesByName node model witness t → (n : ℕ)
    → model_leaf s n ≡ model_leaf t n
named_alike node model witness s t is_s is_t n = by (model_leaf s n) (model_leaf t n) refl refl
  where
    by : (a b : Option ℕ) → model_leaf s n ≡ a → model_leaf t n ≡ b
        → model_leaf s n ≡ model_leaf t n
    by None None is_a is_b = is_a ∙ sym is_b
    by None (Some k) is_a is_b =
        absurd (not_none s n (stands node model witness s is_s t is_t n k is_b).1 is_a)
    by (Some m) None is_a is_b =
        absurd (not_none t n (stands node model witness t is_t s is_s n m is_a).1 is_b)
    by (Some m) (Some k) is_a is_b =
        is_a
        ∙ ap Some
        (one_node node witness.names n m k (stands node model witness t is_t s is_s n m is_a).0
        (stands node model witness s is_s t is_t n k is_b).0)
        ∙ sym is_b

-- or by order
pub shared_alike : (node : ℕ → Option ℕ) (model witness : Circuit) (s t : Sharing)
    → Shares node model witness s → Shares node model witness t → (n : ℕ)
    → model_leaf s n ≡ model_leaf t n
shared_alike node model witness s t (inl p) (inl q) n = named_alike node model witness s t p.1 q.1 n
shared_alike node model witness s t (inl p) (inr q) n = absurd (p.0 q.0)
shared_alike node model witness s t (inr p) (inl q) n = absurd (q.0 p.0)
shared_alike node model witness s t (inr p) (inr q) n = ap (λ l. model_leaf l n) (p.1 ∙ sym q.1)
