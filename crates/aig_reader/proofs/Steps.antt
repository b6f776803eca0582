-- The sections that were read, as those of the file's circuit.
use Rattle.std.proofs.Common.{◌≡◌, ◌+◌, ◌*◌, ◌/◌, ◌≤◌, Bool, true, false, ◌||◌, ◌&&◌, List, [], ◌++◌, length, Result, Ok, Err, vec_len, ap, sym, subst, ◌∙◌, arith, leb-true}
use Rattle.aig_base.proofs.Words.{and_from, list_all, length-map}
use Rattle.aig_format.specs.declared.FileKind.{FileKind}
use Rattle.aig_format.specs.declared.FileKind.TheVariants.{Text, Binary}
use Rattle.aig_format.proofs.Words.{circuit_of, File, has_level, is_compact, node_of_variable, Parts, has_enough, is_accepted_order, is_literal, uses_known}
use Rattle.aig_format.proofs.FittingFiles.{HasOperands}
use Rattle.aig_ordering.specs.Tables.{AreNodesOf}
use Rattle.aig_lexer.specs.declared.header.Header.{Header}
use Rattle.aig_lexer.specs.Header.{numbers_of}
use Rattle.aig_lexer.specs.Takes.{Feed, Makes, Takes}
use Rattle.aig_lexer.specs.Faults.{Tested}
use Rattle.aig_lexer.proofs.Faults.{tells-sound}
use Rattle.aig_lexer.proofs.Taking.{misses_test, takes_tested}
use Rattle.aig_reader.specs.declared.error.ReadError.{ReadError}
use Rattle.aig_reader.specs.declared.sections.Sections.{Sections}
use Rattle.aig_reader.specs.Faults.{section_cause}
use Rattle.aig_reader.specs.Numbered.{AreListsByNumber, AreSectionsOf, IsCircuitOf, IsNumberedAs}
use Rattle.aig_circuit.specs.declared.node.AigNode.{AigNode}
use Rattle.aig_reader.specs.Gates.{AreFirstNodes}
use Rattle.aig_reader.specs.Reading.{TellsNodes}
use Rattle.aig_reader.specs.declared.variable_nodes.VariableNodes.TheVariants.{Own}
use Rattle.aig_reader.specs.Resets.{knows_resets, latch_with_reset}
use Rattle.aig_reader.specs.Rules.{keeps, parse_lines_by, parse_sections_by}
use Rattle.aig_reader.specs.declared.latches.Resets.{Resets}
use Rattle.aig_reader.proofs.Resets.{compact_knows, lines_tell_by}
use Rattle.aig_reader.specs.Sections.{AreListsByVariable, HasGoodLines, file_by}
use Rattle.aig_reader.proofs.FileCircuit.{inputs_is, latchs_is, compact_circuit}
use Rattle.aig_reader.proofs.PlacedNodes.{first_all}
use Rattle.aig_reader.proofs.Told.{own_told}
use Rattle.aig_format.proofs.Entries.{rec_weaker, length-defined, on_used}

module _ (resets : Resets) (header : Header)
    (good : has_enough header.kind (numbers_of header) ≡ true) (x : Parts) (b a : Feed)
    (taken : Takes (parse_lines_by resets header.kind (numbers_of header)) b a x) where
  abbrev is_kept : Parts → Bool
  is_kept y = keeps header.kind (file_by header y)

  sections_are : (sections : Sections) → IsNumberedAs (file_by header x) sections
      → AreSectionsOf header sections x
  sections_are sections is =
      let counts = (lines_tell_by resets header.kind (numbers_of header) x (taken.taken ++ []) []
      good (taken.reads [])).0.counts in
      let inputs = ap length (inputs_is (file_by header x) sections is.0) ∙ length-map x.inputs (λ e. node_of_variable (file_by header x) (e / 2)) in
      let latchs = ap length (latchs_is (file_by header x) sections is.0)
      ∙ length-map x.latches (latch_with_reset (file_by header x)) in
      record {
        numbered = is;
        inputs = omega (arith, inputs, counts.inputs, sections.lists.inputs.ok.0);
        latchs = omega (arith, latchs, counts.latches, sections.lists.latchs.ok.0);
      }

  -- numbered sections, or a refusal, after the last gate
  pub numbered_made : {X : Type 0} (sections : X → Sections) (result : Result X ReadError)
      → Tested section_cause (is_kept x) (λ y. IsNumberedAs (file_by header x) (sections y)) result
      → Makes section_cause (λ y. AreSectionsOf header (sections y)) b a result
      (parse_sections_by resets header.kind (numbers_of header))
  numbered_made sections (Ok y) h = (
    x,
    sections_are (sections y) h.1,
    takes_tested
        (parse_lines_by resets header.kind (numbers_of header)) is_kept b a x taken h.0,
  )
  numbered_made sections (Err e) h = tells-sound (section_cause e) _ _ a.failed
      (λ (no : is_kept x ≡ false). misses_test
      (parse_lines_by resets header.kind (numbers_of header)) is_kept b a x taken no) h

-- ---- the two ways to number

module _ (f : File) where
  -- the nodes of the file's variables, where its gates are in their places
  pub nodes_placed : HasGoodLines f → (nodes : List AigNode) → AreFirstNodes f.gates nodes
      → length nodes ≡ f.greatest + 1 → AreNodesOf f nodes
  nodes_placed good nodes h all = record {
    placed = first_all f.greatest f.gates nodes h all;
    definable = good.definable;
    operands = rec_weaker (HasOperands f.greatest) (λ g. (g.rhs0 ≤ 2 * f.greatest + 1) × (g.rhs1 ≤ 2 * f.greatest + 1)) (λ g h. (leb-true g.rhs0 (2 * f.greatest + 1) h.0, leb-true g.rhs1 (2 * f.greatest + 1) h.1)) f.gates ((on_used (λ e. is_literal f.greatest e ≡ true) f).0 good.in_range).gates;
    few = omega (arith, length-defined f, good.enough);
  }

  -- in a compact file the lines' sections are the circuit's
  pub compact_judged : (sections : Sections) → HasGoodLines f → AreListsByVariable sections.lists f
      → AreFirstNodes f.gates sections.numbered.nodes.items
      → vec_len sections.numbered.nodes ≡ f.greatest + 1
      → sections.numbered.variables ≡ Own f.greatest
      → is_compact f ≡ true → (keeps f.kind f ≡ true) × IsNumberedAs f sections
  compact_judged sections good lists nodes all own compact = (
    and_from (is_accepted_order f.kind f) (knows_resets f) (by_kind f.kind)
        (compact_knows f good compact),
    (
      compact_circuit f good compact sections lists
          (first_all f.greatest f.gates sections.numbered.nodes.items nodes
          (omega (arith, all, sections.numbered.nodes.ok.0))),
      subst (TellsNodes f) (sym own) (own_told f good compact),
    ),
  )
    where
      by_kind : (kind : FileKind) → is_accepted_order kind f ≡ true
      by_kind Text = ap (λ b. b || (uses_known f && list_all (has_level f) f.gates)) compact
      by_kind Binary = compact

  -- else it is tested whether the file is well-founded
  pub well_founded_judged : {X : Type 0} (P : X → Type 0) (result : Result X ReadError)
      → f.kind ≡ Text → is_compact f ≡ false
      → Tested section_cause ((uses_known f && list_all (has_level f) f.gates) && knows_resets f) P
      result
      → Tested section_cause (keeps f.kind f) P result
  well_founded_judged P result text well_founded h =
      let well_founded_rules = uses_known f && list_all (has_level f) f.gates in
      subst (λ b. Tested section_cause (b && knows_resets f) P result)
      (sym (ap (λ k. is_accepted_order k f) text
      ∙ ap (λ b. b || well_founded_rules) well_founded)) h

  -- nodes and lists under the numbers of variables are the circuit's
  pub numbered_circuit : (sections : Sections)
      → sections.numbered.nodes.items ≡ (circuit_of f).nodes
      → AreListsByNumber f sections.lists → IsCircuitOf f sections
  numbered_circuit sections nodes h = λ names.
      let inputs = h.inputs in let latchs = h.latchs in let properties = h.properties in
      λ i. record { nodes = nodes i; inputs = inputs i; latchs = latchs i; properties = properties i; names = names }
