-- The table of new numbers that re-encoding makes.
use Rattle.aig_base.proofs.Words.{◌≡◌, ℕ, ◌<◌, true, List, length, get_or, sym, ap, subst, ◌∙◌, arith, All, filter, slice_index, get_or_default}
use Rattle.aig_circuit.specs.declared.node.AigNodeType.TheVariants.{And, Leaf}
use Rattle.aig_circuit.proofs.Words.{Circuit, IsCircuit, IsClosed, new_number, order_of, reencoded, is_in, kept_circuit, only_kept, renumbered_circuit}
use Rattle.aig_circuit.proofs.Trees.{kind_at-within}
use Rattle.aig_renumber.proofs.Agreeing.{circuits-agree}
use Rattle.aig_renumber.proofs.Circuits.{SpeaksOf-nodes}
use Rattle.aig_renumber.proofs.Kept.{is_in-there}
use Rattle.aig_renumber.proofs.Order.{Numbers-order, length-order, order-Contains}
use Rattle.aig_renumber.proofs.Places.{filter_all}
use Rattle.aig_renumber.proofs.Same.{retained-all}

-- the table has for each number of the order its place
pub record HasPlaces (order table : List ℕ) : Type 0 where
  pub count : length table ≡ length order
  pub places : (i : ℕ) → i < length order → slice_index table (slice_index order i) ≡ i

-- the same lists have the same places
pub HasPlaces-same : (order other table same : List ℕ) → order ≡ other → same ≡ table → length table ≡ length order → ((i : ℕ) → i < length order → slice_index table (slice_index order i) ≡ i) → HasPlaces other same
HasPlaces-same order other table same e f count places =
    let has : HasPlaces order table = record { count = count; places = places } in
    subst (λ (l : List ℕ). HasPlaces other l) (sym f) (subst (λ (l : List ℕ). HasPlaces l table) e has)

module _ (c : Circuit) (is : IsCircuit c) (closed : IsClosed c) (table : List ℕ) (has : HasPlaces (order_of c) table) where
  pub table-count : length table ≡ length c.nodes
  table-count = has.count ∙ length-order c is closed

  -- it has the new number of each node
  pub table-number : (n : ℕ) → n < length c.nodes → slice_index table n ≡ new_number c n
  table-number n h =
      let numbers = Numbers-order c is closed in
      ap (slice_index table) (sym (numbers.back n h)) ∙ has.places (new_number c n) (numbers.within n h)

  -- and each new number is a place in the order
  pub table-within : All (λ n. n < length (order_of c)) table
  table-within k d h =
      let low : k < length c.nodes = omega (arith, table-count) in
      subst (λ n. n < length (order_of c)) (sym (get_or_default table k d 0 h ∙ table-number k low)) ((Numbers-order c is closed).within k low)

  -- every input and every named node is kept
  only_kept-order : only_kept (order_of c) c ≡ c
  only_kept-order =
      let kept : (n : ℕ) → n < length c.nodes → is_in (order_of c) n ≡ true = λ n h. is_in-there (order_of c) n (order-Contains c is closed n h) in
      let inputs : filter (is_in (order_of c)) c.inputs ≡ c.inputs = filter_all (is_in (order_of c)) c.inputs (λ k d h. kept (get_or c.inputs k d) (kind_at-within c.nodes (get_or c.inputs k d) Leaf (is.inputs k d h))) in
      let names = retained-all c.names (is_in (order_of c)) (λ n has. kept n (is.named n has)) in
      λ i. record c { inputs = inputs i; names = names i }

  -- so the circuit under the table's numbers is the re-encoded one
  pub table-reencodes : (order : List ℕ) → order ≡ order_of c → kept_circuit (slice_index table) order c ≡ reencoded c
  table-reencodes order e =
      ap (λ (l : List ℕ). kept_circuit (slice_index table) l c) e
      ∙ ap (renumbered_circuit (slice_index table) (order_of c)) only_kept-order
      ∙ circuits-agree (λ n. n < length c.nodes) (slice_index table) (new_number c) table-number c (order_of c) (SpeaksOf-nodes c is) (λ n a b at. (
        let within = kind_at-within c.nodes n (And a b) at in let low = is.nodes.ordered.first_before n a b at in omega arith,
        let within = kind_at-within c.nodes n (And a b) at in let low = is.nodes.ordered.second_before n a b at in omega arith,
      ))
