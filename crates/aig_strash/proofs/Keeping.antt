-- Representatives and their numbers, and what the strashed circuit has of the kept nodes.
use Rattle.aig_base.proofs.Words.{◌≡◌, ℕ, ◌<◌, Bool, true, false, cond, Some, None, List, length, get_or, refl, sym, ap, ◌∙◌, nat_cmp, FinMap, contains_key, entries, get, get-entries, get-from_entries, get-retain_keys, retain_keys, nat_cmp_total, exact_unsigned, false≢true}
use Rattle.std.specs.Prelude.{IsTrue, is_some}
use Rattle.aig_circuit.proofs.Words.{Circuit, IsCircuit, renumbered_kind}
use Rattle.aig_circuit.proofs.Trees.{kind_at-there}
use Rattle.aig_renumber.proofs.Kept.{is_in-back, is_in-there}
use Rattle.aig_renumber.proofs.Names.{find-number, names_in_circuit}
use Rattle.aig_renumber.proofs.NodesInOrder.{kind_at-number, length-nodes_in_order}
use Rattle.aig_strash.specs.Exchange.{representative_of, image_of, kept_nodes}
use Rattle.aig_strash.specs.Strash.{KeepsRepresentatives, NumbersRepresentatives, strashed}
use Rattle.aig_strash.proofs.Alike.{Merges-kept}
use Rattle.aig_strash.proofs.Firsts.{first-is, image-back, kept-from, kept-is, kept-within}
use Rattle.aig_strash.proofs.Gates.{first-other}
use Rattle.aig_strash.proofs.Numbered.{image-count}
use Rattle.aig_strash.proofs.Strashing.{inputs-strashed, kept}

module _ (c : Circuit) (is : IsCircuit c) where
  pub NumbersRepresentatives-images : NumbersRepresentatives c.nodes (image_of c.nodes)
  NumbersRepresentatives-images = record {
    first = first-is c.nodes is.nodes;
    others = λ n h other. let kind = kind_at-there c.nodes n h in first-other c.nodes is.nodes n kind.0 kind.1 other;
    places = image-count c.nodes is.nodes;
  }

  -- kept nodes have numbers of their own
  apart : (m n : ℕ) → kept c is m ≡ true → kept c is n ≡ true → image_of c.nodes m ≡ image_of c.nodes n → m ≡ n
  apart m n is_m is_n same =
      let there_m = is_in-back (kept_nodes c.nodes) m is_m in
      let there_n = is_in-back (kept_nodes c.nodes) n is_n in
      sym (image-back c.nodes is.nodes m (kept-within c.nodes is.nodes m there_m) ∙ kept-is c.nodes is.nodes m there_m)
      ∙ ap (λ i. get_or (kept_nodes c.nodes) i 0) same
      ∙ image-back c.nodes is.nodes n (kept-within c.nodes is.nodes n there_n) ∙ kept-is c.nodes is.nodes n there_n

  abbrev names : FinMap nat_cmp (List ℕ)
  names = retain_keys c.names (kept c is)

  get-names : (n : ℕ) → get names n ≡ cond (kept c is n) (get c.names n) None
  get-names n = get-retain_keys c.names (kept c is) n (λ k e. let same : n ≡ k = exact_unsigned n k e in ap (kept c is) (sym same))

  named : (n : ℕ) → IsTrue (contains_key names n) → kept c is n ≡ true
  named n has = by_test (kept c is n) (sym (ap is_some (get-names n)) ∙ has)
    where
      by_test : (b : Bool) → is_some (cond b (get c.names n) None) ≡ true → b ≡ true
      by_test true h = refl
      by_test false h = absurd (false≢true h)

  -- a kept node's name stands under its new number
  names-kept : (n : ℕ) → n < length c.nodes → representative_of c.nodes n ≡ n → get (strashed c).names (image_of c.nodes n) ≡ get c.names n
  names-kept n h first =
      let here : kept c is n ≡ true = is_in-there (kept_nodes c.nodes) n (kept-from c.nodes is.nodes n h first) in
      get-from_entries nat_cmp_total _ (image_of c.nodes n)
      ∙ find-number (λ m. kept c is m ≡ true) (image_of c.nodes) apart (entries names) n here (names_in_circuit (λ m. kept c is m ≡ true) names named)
      ∙ sym (get-entries names n) ∙ get-names n ∙ ap (λ b. cond b (get c.names n) None) here

  pub KeepsRepresentatives-strashed : KeepsRepresentatives c (strashed c) (image_of c.nodes)
  KeepsRepresentatives-strashed = record {
    count = length-nodes_in_order c.nodes (image_of c.nodes) 0 (kept_nodes c.nodes);
    kinds = λ n h.
        let kind = kind_at-there c.nodes n h in
        kind_at-number c.nodes (λ m. m < length c.nodes) (kept_nodes c.nodes) (image_of c.nodes) (Merges-kept c.nodes is.nodes) n kind.0 h kind.1
        ∙ ap (λ o. Some (renumbered_kind (image_of c.nodes) o)) (sym kind.1);
    inputs = inputs-strashed c is;
    names = names-kept;
  }
