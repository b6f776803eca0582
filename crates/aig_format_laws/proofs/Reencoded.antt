-- A circuit that has a written form has one when it is re-encoded.
use Rattle.aig_base.proofs.Words.{◌≡◌, ℕ, ◌<◌, ◌^◌, Option, Some, None, List, ◌++◌, length, map, refl, sym, ap, subst, ◌∙◌, arith, All, Contains, IfSome, IsSomeAnd, option_map, entries, get, get-entries, get-from_entries, nat_cmp_total, length-map, All-contains, All-map, All-weaker, Contains-get_or}
use Rattle.aig_circuit.specs.declared.edge.AigEdge.{AigEdge}
use Rattle.aig_circuit.specs.declared.node.AigNodeType.TheVariants.{Leaf}
use Rattle.aig_circuit.specs.declared.node.AigLatch.{AigLatch}
use Rattle.aig_circuit.proofs.Words.{Circuit, IsCircuit, IsLeaf, latch_leaves, new_number, order_of, reencoded, renumbered_edge, renumbered_latch, HasConstantInit}
use Rattle.aig_circuit.proofs.Circuits.{AreLeaves-of_circuit}
use Rattle.aig_circuit.proofs.Trees.{kind_at-within}
use Rattle.aig_format.specs.declared.FileKind.TheVariants.{Binary}
use Rattle.aig_format.proofs.Words.{IsReadAgain, file_of, AreTexts, HasLineFeed, IsWritable, list_lengths, named_nodes}
use Rattle.aig_renumber.proofs.Circuits.{leaves-map}
use Rattle.aig_renumber.proofs.Names.{found_back, names_in_circuit}
use Rattle.aig_renumber.proofs.NodesInOrder.{number-apart}
use Rattle.aig_renumber.proofs.Order.{Numbers-order}
use Rattle.aig_renumber.proofs.Placed.{AreAsLong-reencoded, IsCircuit-reencoded, IsClosed-reencoded, IsReencoded-reencoded}
use Rattle.aig_renumber.proofs.Places.{Contains-map_back}
use Rattle.aig_format_laws.proofs.Placed.{Placed-circuit}
use Rattle.aig_format_laws.proofs.Written.{is_read_again}

-- an initial edge that is constant stays so
start-renumbered : (c : Circuit) (l : AigLatch) → HasConstantInit l → HasConstantInit (renumbered_latch (new_number c) l)
start-renumbered c l plain = by_init l.init plain
  where
    by_init : (o : Option AigEdge) → IfSome o (λ e. e.node_id ≡ 0) → IfSome (option_map (renumbered_edge (new_number c)) o) (λ e. e.node_id ≡ 0)
    by_init (Some e) zeroth = ap (new_number c) zeroth
    by_init None zeroth = tt

module _ (c : Circuit) (is : IsCircuit c) (w : IsWritable c) where
  -- a name that the re-encoded circuit writes is one that the circuit writes
  named : (m : ℕ) → Contains (named_nodes (reencoded c)) m → ¬ HasLineFeed (reencoded c).names m
  named m has feed = by_name (get (reencoded c).names m) refl feed
    where
      by_name : (o : Option (List ℕ)) → get (reencoded c).names m ≡ o → IsSomeAnd o (λ name. Contains name 10) → ⊥
      by_name None found feed = feed
      by_name (Some name) found feed =
          let old = found_back (λ n. n < length c.nodes) (new_number c) (entries c.names) m name (names_in_circuit (λ n. n < length c.nodes) c.names is.named) (sym (get-from_entries nat_cmp_total _ m) ∙ found) in
          let leaf = Contains-map_back (new_number c) (c.inputs ++ latch_leaves c.latchs) m (subst (λ (ns : List ℕ). Contains ns m) (leaves-map (new_number c) c) has) in
          let same : old.0 ≡ leaf.0 = number-apart c.nodes (λ n. n < length c.nodes) (order_of c) (new_number c) (Numbers-order c is w.closed) old.0 leaf.0 old.1 (kind_at-within c.nodes leaf.0 Leaf (All-contains (IsLeaf c.nodes) (named_nodes c) leaf.0 (AreLeaves-of_circuit c is).leaves leaf.1)) (old.2 ∙ sym leaf.2) in
          All-contains (λ n. ¬ HasLineFeed c.names n) (named_nodes c) leaf.0 w.names leaf.1
          (subst (λ o. IsSomeAnd o (λ text. Contains text 10)) (sym (ap (get c.names) (sym same) ∙ get-entries c.names old.0 ∙ old.3)) feed)

  as_long : list_lengths (reencoded c) ≡ list_lengths c
  as_long =
      let number = new_number c in
      let edge = renumbered_edge number in
      let p = c.properties in
      rw (length-map c.inputs number, length-map c.latchs (renumbered_latch number), length-map p.outputs edge, length-map p.bads edge, length-map p.constraints edge, length-map p.justice (map edge), length-map p.fairness edge) refl

  pub IsWritable-reencoded : IsWritable (reencoded c)
  IsWritable-reencoded = record {
    closed = IsClosed-reencoded c is w.closed;
    start = All-map HasConstantInit (renumbered_latch (new_number c)) c.latchs (All-weaker HasConstantInit (λ l. HasConstantInit (renumbered_latch (new_number c) l)) (start-renumbered c) c.latchs w.start);
    names = λ k d h. named _ (Contains-get_or (named_nodes (reencoded c)) k d h);
    small = record {
      nodes = let same = (AreAsLong-reencoded c is w.closed).nodes in omega (arith, w.small.nodes);
      lists = subst (All (λ n. n < 2 ^ 32)) (sym as_long) w.small.lists;
      sets = All-map (λ (set : List AigEdge). length set < 2 ^ 32) (map (renumbered_edge (new_number c))) c.properties.justice
          (All-weaker (λ (set : List AigEdge). length set < 2 ^ 32) (λ (set : List AigEdge). length (map (renumbered_edge (new_number c)) set) < 2 ^ 32)
          (λ set h. omega (arith, length-map set (renumbered_edge (new_number c)))) c.properties.justice w.small.sets);
    };
  }

-- the binary form of a circuit is read again as its re-encoding
pub binary_is_read_again : (c : Circuit) → IsCircuit c → IsWritable c → AreTexts (reencoded c).names → IsReadAgain (reencoded c) (file_of Binary (reencoded c))
binary_is_read_again c is w texts =
    let circuit = IsCircuit-reencoded c is w.closed in
    let writable = IsWritable-reencoded c is w in
    is_read_again Binary (reencoded c) circuit writable texts (Placed-circuit (reencoded c) circuit writable (IsReencoded-reencoded c is w.closed))
