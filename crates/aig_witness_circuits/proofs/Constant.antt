-- Constant resets stand in an order.
use Rattle.aig_witness_circuits.proofs.Words.{AigEdge, AigLatch, All, All-filter, All-tail, AllPairs, AllPairs-filter, Bool, Circuit, Contains, Contains-get_or, Contains-map_back, HasConstantInit, IfSome, IsCircuit, IsInOrder, IsIndependent, IsStratified, List, None, Option, Sharing, Some, [], ap, arith, edge_value, false, filter_passes, get_or, inverted_if, latch_leaves, node_value, node_value-false, own_among, suc, sym, ℕ, ◌∙◌, ◌∷◌, ◌≡◌, ◌≢◌}
use Rattle.aig_witness_circuits.proofs.First.{apart_from_map}
use Rattle.aig_witness_circuits.proofs.Owned.{filter_each, is_own, owns, passes}

-- the latches have different leaves
abbrev pub AreApart : List AigLatch → Type 0
AreApart latchs = AllPairs (λ a b. a.input ≢ b.input) latchs

module _ (c : Circuit) (is : IsCircuit c) where
  -- a constant depends on no leaf
  constant : (leaves : List ℕ) (init : Option AigEdge) → IfSome init (λ e. e.node_id ≡ 0)
      → IfSome init (IsIndependent c leaves)
  constant leaves None zero_node = tt
  constant leaves (Some e) zero_node = λ y z same. value y ∙ sym (value z)
    where
      value : (x : ℕ → Bool) → edge_value c.nodes x e ≡ inverted_if e.compl false
      value x =
          ap (λ n. inverted_if e.compl (node_value c.nodes x n)) zero_node
          ∙ ap (inverted_if e.compl) (node_value-false c.nodes x 0 is.nodes.false_first)

  in_order : (latchs : List AigLatch) → AreApart latchs → All HasConstantInit latchs
      → IsInOrder c latchs
  in_order [] apart constants = tt
  in_order (latch ∷ later) apart constants = (
    λ has.
        let found = Contains-map_back (λ (l : AigLatch). l.input) later latch.input has in
        let place = found.1 in
        let first : latch.input ≢ (get_or later place.0 found.0).input =
        apart 0 (suc place.0) found.0 (omega arith) (omega (arith, place.1)) in
        first (sym (ap (λ (l : AigLatch). l.input) place.2 ∙ found.2)),
    constant (latch_leaves (latch ∷ later)) latch.init (constants 0 latch (omega arith)),
    in_order later
        (λ i j d lt less. apart (suc i) (suc j) d (omega (arith, lt)) (omega (arith, less)))
        (All-tail HasConstantInit latch later constants),
  )

-- the latches of a circuit have different leaves
pub latches_apart : (c : Circuit) → IsCircuit c → AreApart c.latchs
latches_apart c is = apart_from_map (λ (l : AigLatch). l.input) c.latchs is.latchs_distinct

-- so have those of its own
pub own_apart : (shared : Sharing) (c : Circuit) → IsCircuit c
    → AreApart (own_among shared c.latchs)
own_apart shared c is =
    AllPairs-filter (λ (a : AigLatch) b. a.input ≢ b.input) (is_own shared) c.latchs
    (latches_apart c is)

-- latches whose resets are constant or open, in their own order
pub constant_are_stratified : (shared : Sharing) (c : Circuit) → IsCircuit c
    → All HasConstantInit c.latchs → IsStratified shared c
constant_are_stratified shared c is constants = record {
  order = own_among shared c.latchs;
  in_order = in_order c is (own_among shared c.latchs) (own_apart shared c is)
      (All-filter (is_own shared) HasConstantInit c.latchs constants);
  own = λ k d h.
      owns shared (get_or (own_among shared c.latchs) k d)
      (filter_passes (is_own shared) c.latchs k d h);
  all = λ k d h own.
      filter_each (is_own shared) (Contains (own_among shared c.latchs)) c.latchs
      (λ i e l. Contains-get_or (own_among shared c.latchs) i e l) k d h
      (passes shared (get_or c.latchs k d) own);
}
