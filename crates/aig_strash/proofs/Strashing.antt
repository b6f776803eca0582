-- The strashed circuit is a circuit, and keeps the runs.
use Rattle.aig_base.proofs.Words.{◌≡◌, ◌≢◌, ℕ, ◌<◌, Bool, true, false, cond, None, length, map, get_or, sym, ap, subst, IsTrue, Contains, is_some, contains_key, get, get-retain_keys, false≢true, All-filter, All-weaker, AllPairs-filter, exact_unsigned}
use Rattle.aig_circuit.specs.declared.node.AigNodeType.TheVariants.{Leaf}
use Rattle.aig_circuit.proofs.Words.{Circuit, IsCircuit, IsLeaf, latch_leaves, is_in, only_kept, KeepsRuns}
use Rattle.aig_circuit.proofs.Trees.{kind_at-within}
use Rattle.aig_renumber.proofs.Circuits.{IsCircuit-renumbered, KeepsRuns-renumbered, SpeaksOf-nodes}
use Rattle.aig_renumber.proofs.Kept.{is_in-there}
use Rattle.aig_renumber.proofs.Places.{filter-back, filter_all}
use Rattle.aig_strash.specs.Exchange.{image_of, kept_nodes}
use Rattle.aig_strash.specs.Strash.{strashed}
use Rattle.aig_strash.proofs.Alike.{Merges-kept}
use Rattle.aig_strash.proofs.Firsts.{first-leaf, kept-from}

module _ (c : Circuit) (is : IsCircuit c) where
  abbrev pub kept : ℕ → Bool
  kept = is_in (kept_nodes c.nodes)

  -- the circuit without the names of merged gates
  abbrev pub cut : Circuit
  cut = only_kept (kept_nodes c.nodes) c

  -- a number that has a name still had one
  named_before : (n : ℕ) → IsTrue (contains_key cut.names n) → IsTrue (contains_key c.names n)
  named_before n has = by_test (kept n) (subst (λ o. IsTrue (is_some o)) (get-retain_keys c.names kept n (λ k e. let same : n ≡ k = exact_unsigned n k e in ap kept (sym same))) has)
    where
      by_test : (b : Bool) → IsTrue (is_some (cond b (get c.names n) None)) → IsTrue (contains_key c.names n)
      by_test true h = h
      by_test false h = absurd (false≢true h)

  pub IsCircuit-cut : IsCircuit cut
  IsCircuit-cut = record {
    nodes = is.nodes;
    inputs = All-filter kept (IsLeaf c.nodes) c.inputs is.inputs;
    inputs_distinct = AllPairs-filter (λ m n. m ≢ n) kept c.inputs is.inputs_distinct;
    latchs = is.latchs;
    latchs_distinct = is.latchs_distinct;
    apart = All-weaker (λ n. ¬ Contains c.inputs n) (λ n. ¬ Contains cut.inputs n) (λ n not has. not (filter-back kept c.inputs n has).0) (latch_leaves c.latchs) is.apart;
    properties = is.properties;
    named = λ n has. is.named n (named_before n has);
  }

  -- all leaves are kept, so every input is
  pub inputs-strashed : (strashed c).inputs ≡ map (image_of c.nodes) c.inputs
  inputs-strashed = ap (map (image_of c.nodes)) (filter_all kept c.inputs (λ k d h.
      let leaf = is.inputs k d h in
      is_in-there (kept_nodes c.nodes) (get_or c.inputs k d) (kept-from c.nodes is.nodes (get_or c.inputs k d) (kind_at-within c.nodes (get_or c.inputs k d) Leaf leaf) (first-leaf c.nodes is.nodes (get_or c.inputs k d) leaf))))

  pub IsCircuit-strashed : IsCircuit (strashed c)
  IsCircuit-strashed = IsCircuit-renumbered cut (λ n. n < length c.nodes) (kept_nodes c.nodes) (image_of c.nodes) (Merges-kept c.nodes is.nodes) IsCircuit-cut (SpeaksOf-nodes cut IsCircuit-cut)

  KeepsRuns-cut : KeepsRuns cut (strashed c) (image_of c.nodes)
  KeepsRuns-cut = KeepsRuns-renumbered cut (λ n. n < length c.nodes) (kept_nodes c.nodes) (image_of c.nodes) (Merges-kept c.nodes is.nodes) IsCircuit-cut (SpeaksOf-nodes cut IsCircuit-cut) (λ n h. h)

  pub KeepsRuns-strashed : KeepsRuns c (strashed c) (image_of c.nodes)
  KeepsRuns-strashed =
      let after = KeepsRuns-cut in
      record {
        runs = after.runs;
        starts = after.starts;
        properties = after.properties;
        next = after.next;
        initial = after.initial;
        each = after.each;
      }
