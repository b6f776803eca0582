-- The circuit of the file that was read.
use Rattle.std.proofs.Common.{◌≡◌, ◌≢◌, ℕ, zero, suc, ◌+◌, ◌*◌, ◌/◌, ◌%◌, ◌≤◌, true, cond, List, [], ◌∷◌, ◌++◌, map, slice_index, Option, Some, None, refl, sym, ap, ◌∙◌, arith, leb-true}
use Rattle.std.specs.Prelude.{filter_map, AllPairs, ◌==◌, option_map, Bool, false}
use Rattle.std.specs.Ordering.{nat_cmp}
use Rattle.aig_base.proofs.Words.{FinMap, from_entries, AllByRecursion, flat_map}
use Rattle.aig_circuit.proofs.Words.{Circuit, latch_leaves, edge_to, and_of}
use Rattle.aig_circuit.specs.declared.node.AigNodeType.{AigNodeType}
use Rattle.aig_circuit.specs.declared.node.AigNodeType.TheVariants.{False}
use Rattle.aig_circuit.specs.declared.edge.AigEdge.{AigEdge}
use Rattle.aig_circuit.specs.declared.node.AigNode.{AigNode}
use Rattle.aig_circuit.proofs.Listed.{AllProperties-weaker, map_properties-agree}
use Rattle.aig_format.proofs.Words.{Parts, file_from, circuit_of, edge_of, kind_of, named_node, nodes_from, LatchLine, GateLine, NameLine, File, defined, used, HeaderNumbers, IsDefinable, is_literal, gate_of_variable}
use Rattle.aig_format.specs.Circuit as of_file
use Rattle.aig_format.specs.declared.FileKind.{FileKind}
use Rattle.aig_format.specs.Numbering.{is_compact, node_of_variable, numbers_from, variables_in_order}
use Rattle.aig_format.proofs.Circuits.{UsedHave, distinct_pairs, numbers, used_by_section}
use Rattle.aig_format.proofs.Entries.{rec_both, rec_flat_map, rec_parts, rec_unmap, rec_weaker}
use Rattle.aig_format.proofs.Numbers.{node_of_variable-compact, node_of_variable-zero, order-compact}
use Rattle.aig_format.proofs.Rules.{compact_exact, definable_told}
use Rattle.aig_format.proofs.Searches.{find_some}
use Rattle.aig_ordering.specs.Lists.{edge_from, kind_of_line, kind_among, nodes_in_row, nodes_of_variables, variable_of_literal}
use Rattle.aig_symbols.specs.Names.{kept_name, kept_names}
use Rattle.aig_reader.specs.declared.sections.Sections.{Sections}
use Rattle.aig_reader.specs.Numbered.{IsCircuitOf}
use Rattle.aig_reader.specs.Resets.{circuit_with_resets, latch_with_reset, reset_edge, reset_in}
use Rattle.aig_reader.specs.Rules.{AcceptsBy, edge_of_reset, latch_from}
use Rattle.aig_reader.specs.declared.latches.Resets.{Resets}
use Rattle.aig_reader.proofs.Resets.{accepted_distinct}
use Rattle.aig_reader.specs.Sections.{AreListsByVariable, HasGoodLines, circuit_with}

same_kept : (h k : NameLine → Option (ℕ × List ℕ)) → ((n : NameLine) → h n ≡ k n) → (names : List NameLine) → filter_map h names ≡ filter_map k names
same_kept h k same [] = refl
same_kept h k same (n ∷ names) = rw (same n, same_kept h k same names) refl

-- ---- in a compact file each variable is its own number

module _ (f : File) (good : HasGoodLines f) (compact : is_compact f ≡ true) where
  -- the literal's variable is no greater than the greatest
  abbrev IsWithin : ℕ → Type 0
  IsWithin e = e / 2 ≤ f.greatest

  used_within : AllByRecursion IsWithin (used f)
  used_within = rec_weaker (λ e. is_literal f.greatest e ≡ true) IsWithin (λ e h. let high = leb-true e (2 * f.greatest + 1) h in omega arith) (used f) good.in_range

  sections_within : UsedHave IsWithin f
  sections_within = used_by_section IsWithin f used_within

  defined_within : AllByRecursion IsWithin (defined f)
  defined_within = rec_weaker (IsDefinable f.greatest) IsWithin (λ e d. let h = (definable_told f.greatest e d).2 in omega arith) (defined f) good.definable

  leaves_within : AllByRecursion IsWithin f.inputs × AllByRecursion IsWithin (map (λ (l : LatchLine). l.literal) f.latches)
  leaves_within =
      let literals = map (λ (l : LatchLine). l.literal) f.latches in
      rec_parts IsWithin f.inputs literals (rec_parts IsWithin (f.inputs ++ literals) (map (λ (g : GateLine). g.lhs) f.gates) defined_within).0

  number_is : (e : ℕ) → IsWithin e → variable_of_literal e ≡ node_of_variable f (e / 2)
  number_is e h = sym (node_of_variable-compact f compact (e / 2) h)

  edge_is : (e : ℕ) → IsWithin e → edge_from e ≡ edge_of f e
  edge_is e h = ap (λ n. edge_to n (e % 2 == 1)) (number_is e h)

  numbers_are : (es : List ℕ) → AllByRecursion IsWithin es → map variable_of_literal es ≡ map (λ e. node_of_variable f (e / 2)) es
  numbers_are [] all = refl
  numbers_are (e ∷ es) all = ap (λ n. n ∷ map variable_of_literal es) (number_is e all.0) ∙ ap (λ (ns : List ℕ). node_of_variable f (e / 2) ∷ ns) (numbers_are es all.1)

  -- a latch has its three literals within
  abbrev IsLatchWithin : LatchLine → Type 0
  IsLatchWithin l = IsWithin l.literal × (IsWithin l.next × IsWithin (reset_in l))

  reset_is : (l : LatchLine) → IsWithin (reset_in l) → edge_of_reset l ≡ reset_edge f l
  reset_is l h = ap (λ (e : AigEdge). cond (reset_in l == l.literal) None (Some e))
      (edge_is (reset_in l) h)

  latch_is : (l : LatchLine) → IsLatchWithin l → latch_from l ≡ latch_with_reset f l
  latch_is l h =
      let leaf = number_is l.literal h.0 in
      let next = edge_is l.next h.1.0 in
      let init = reset_is l h.1.1 in
      λ i. record { input = leaf i; next = next i; init = init i }

  latches_are : (ls : List LatchLine) → AllByRecursion IsLatchWithin ls
      → map latch_from ls ≡ map (latch_with_reset f) ls
  latches_are [] all = refl
  latches_are (l ∷ ls) all =
      let one = latch_is l all.0 in
      let others = latches_are ls all.1 in
      λ i. one i ∷ others i

  latches_within : AllByRecursion IsLatchWithin f.latches
  latches_within =
      rec_both (λ (l : LatchLine). IsWithin l.literal) (λ (l : LatchLine). IsWithin l.next
      × IsWithin (reset_in l)) f.latches
      (rec_unmap IsWithin (λ (l : LatchLine). l.literal) f.latches leaves_within.1)
      (rec_both (λ (l : LatchLine). IsWithin l.next) (λ (l : LatchLine). IsWithin (reset_in l))
      f.latches
      (rec_unmap IsWithin (λ (l : LatchLine). l.next) f.latches sections_within.nexts)
      (rec_weaker (λ (l : LatchLine). is_literal f.greatest (reset_in l) ≡ true)
      (λ (l : LatchLine). IsWithin (reset_in l)) (λ l h. let high =
      leb-true (reset_in l) (2 * f.greatest + 1) h in omega arith) f.latches good.resets))

  -- ---- nodes

  -- the gate of a variable has operands within the file
  operands_within : (v : ℕ) (g : GateLine) → gate_of_variable f v ≡ Some g → IsWithin g.rhs0 × IsWithin g.rhs1
  operands_within v g found =
      let operands = (rec_flat_map IsWithin (λ (g : GateLine). g.rhs0 ∷ g.rhs1 ∷ []) f.gates).0 (rec_parts IsWithin _ (flat_map (λ (g : GateLine). g.rhs0 ∷ g.rhs1 ∷ []) f.gates) used_within).1 in
      let both = (find_some (λ (g : GateLine). AllByRecursion IsWithin (g.rhs0 ∷ g.rhs1 ∷ [])) (λ (g : GateLine). g.lhs / 2 == v) f.gates g operands found).1 in
      (both.0, both.1.0)

  kind_is : (v : ℕ) → kind_among f.gates v ≡ kind_of f v
  kind_is v = ap (λ (k : AigNodeType). cond (v == 0) False k) (by_gate (gate_of_variable f v) refl)
    where
      by_gate : (o : Option GateLine) → gate_of_variable f v ≡ o → kind_of_line o ≡ of_file.kind_by f o
      by_gate None is = refl
      by_gate (Some g) is = let p = operands_within v g is in ap (λ e. and_of e (edge_from g.rhs1)) (edge_is g.rhs0 p.0) ∙ ap (and_of (edge_of f g.rhs0)) (edge_is g.rhs1 p.1)

  nodes_are : (n v : ℕ) → nodes_in_row f.gates n v ≡ nodes_from f v (numbers_from n v)
  nodes_are zero v = refl
  nodes_are (suc n) v =
      let made = λ (k : AigNodeType). let node : AigNode = record { node_id = v; typ = k } in node in
      ap (λ k. made k ∷ nodes_in_row f.gates n (v + 1)) (kind_is v) ∙ ap (λ (nodes : List AigNode). made (kind_of f v) ∷ nodes) (nodes_are n (v + 1))

  -- the nodes by variable are the circuit's
  nodes_same : nodes_of_variables f.greatest f.gates ≡ (circuit_of f).nodes
  nodes_same =
      let n : f.greatest + 1 ≡ suc f.greatest = omega arith in
      let exact = compact_exact f compact in
      ap (λ k. nodes_in_row f.gates k 0) n ∙ nodes_are (suc f.greatest) 0 ∙ ap (λ vs. nodes_from f 0 (0 ∷ vs)) (ap (λ n. numbers_from n 1) exact ∙ sym (order-compact f compact))

  -- the sections by variable are the file's circuit
  pub compact_circuit : (sections : Sections) → AreListsByVariable sections.lists f → sections.numbered.nodes.items ≡ nodes_of_variables f.greatest f.gates → IsCircuitOf f sections
  compact_circuit sections h placed = λ names.
      let all = AllProperties-weaker IsWithin (λ e. edge_from e ≡ edge_of f e) edge_is f.properties sections_within.properties in
      let nodes = placed ∙ nodes_same in
      let inputs = h.inputs ∙ numbers_are f.inputs leaves_within.0 in
      let latchs = h.latchs ∙ latches_are f.latches latches_within in
      let properties = h.properties ∙ map_properties-agree edge_from (edge_of f) f.properties all in
      λ i. record { nodes = nodes i; inputs = inputs i; latchs = latchs i; properties = properties i; names = names }

-- ---- the circuit with names

-- the leaves of latches, whatever their resets are
pub leaves_by_line : (f : File) (latches : List LatchLine)
    → latch_leaves (map (latch_with_reset f) latches) ≡ numbers f
    (map (λ (l : LatchLine). l.literal) latches)
leaves_by_line f [] = refl
leaves_by_line f (l ∷ latches) = ap (λ (ns : List ℕ). node_of_variable f (l.literal / 2) ∷ ns)
    (leaves_by_line f latches)

module _ (f : File) where
  input_is : (es : List ℕ) (n : ℕ) → slice_index (numbers f es) n ≡ node_of_variable f (slice_index es n / 2)
  input_is [] n = sym (node_of_variable-zero f)
  input_is (e ∷ es) zero = refl
  input_is (e ∷ es) (suc n) = input_is es n

  name_is : (n : NameLine) → kept_name (numbers f f.inputs) (numbers f (map (λ (l : LatchLine). l.literal) f.latches)) n ≡ named_node f n
  name_is n = by_letter (n.letter == 105) (n.letter == 108)
    where
      literals : List ℕ
      literals = map (λ (l : LatchLine). l.literal) f.latches

      named : ℕ → ℕ × List ℕ
      named node = (node, n.name)

      by_letter : (i l : Bool) → option_map named (cond i (Some (slice_index (numbers f f.inputs) n.position)) (cond l (Some (slice_index (numbers f literals) n.position)) None))
          ≡ cond i (Some (named (node_of_variable f (slice_index f.inputs n.position / 2)))) (cond l (Some (named (node_of_variable f (slice_index literals n.position / 2)))) None)
      by_letter true l = ap (λ m. Some (named m)) (input_is f.inputs n.position)
      by_letter false true = ap (λ m. Some (named m)) (input_is literals n.position)
      by_letter false false = refl

  module _ (sections : Sections) (is : IsCircuitOf f sections) where
    pub inputs_is : sections.lists.inputs.items ≡ numbers f f.inputs
    inputs_is = ap (λ (c : Circuit). c.inputs) (is (circuit_with_resets f).names)

    pub latchs_is : sections.lists.latchs.items ≡ map (latch_with_reset f) f.latches
    latchs_is = ap (λ (c : Circuit). c.latchs) (is (circuit_with_resets f).names)

    leaves_is : latch_leaves sections.lists.latchs.items ≡ numbers f (map (λ (l : LatchLine). l.literal) f.latches)
    leaves_is = ap latch_leaves latchs_is ∙ leaves_by_line f f.latches

    names_is : (lines : List NameLine) → kept_names sections.lists.inputs.items (latch_leaves sections.lists.latchs.items) lines ≡ from_entries (filter_map (named_node f) lines)
    names_is lines = rw (inputs_is, leaves_is) (ap (λ (es : List (ℕ × List ℕ)). from_entries es) (same_kept (kept_name (numbers f f.inputs) (numbers f (map (λ (l : LatchLine). l.literal) f.latches))) (named_node f) name_is lines))

    -- the nodes of inputs and latches are distinct
    pub nodes_distinct : (resets : Resets) (limit : ℕ) (bytes : List ℕ)
        → AcceptsBy resets limit bytes f → AllPairs (λ m n. m ≢ n)
        (sections.lists.inputs.items ++ latch_leaves sections.lists.latchs.items)
    nodes_distinct resets limit bytes is =
        rw (inputs_is, leaves_is) (distinct_pairs _ (accepted_distinct resets limit bytes f is))

-- a file's circuit has its names alone from the names
circuit_named : (b : (FileKind × HeaderNumbers) × Parts) (lines : List NameLine)
    → circuit_with_resets (file_from b lines) ≡ record (circuit_with_resets (file_from b []))
    { names = from_entries (filter_map (named_node (file_from b [])) lines) }
unfolding node_of_variable variables_in_order
circuit_named b lines = refl

-- the sections with the names that are kept are the file's circuit
pub circuit_is : (b : (FileKind × HeaderNumbers) × Parts) (lines : List NameLine) (sections : Sections) (names : FinMap nat_cmp (List ℕ)) → IsCircuitOf (file_from b []) sections
    → names ≡ kept_names sections.lists.inputs.items (latch_leaves sections.lists.latchs.items)
    lines → circuit_with sections names ≡ circuit_with_resets (file_from b lines)
circuit_is b lines sections names is kept =
    let f = file_from b [] in
    is names ∙ ap (λ (ns : FinMap nat_cmp (List ℕ)). let c : Circuit =
    record (circuit_with_resets f) { names = ns } in c) (kept ∙ names_is f sections is lines)
    ∙ sym (circuit_named b lines)
