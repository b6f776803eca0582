-- Serves private clauses alone.
-- Lists under the numbers of a file's variables.
use Rattle.std.specs.Prelude.{◌≡◌, ℕ, ◌/◌, Bool, true, false, ◌&&◌, List, [], ◌∷◌, All, IsTrue, map, Option, Some, None, vec_len}
use Rattle.std.specs.Ordering.{nat_cmp}
use Rattle.std.specs.FinMap.{FinMap}
use Rattle.std.specs.List.{list_all, flat_map}
use Rattle.aig_circuit.specs.declared.edge.AigEdge.{AigEdge}
use Rattle.aig_circuit.specs.declared.properties.Properties.{Properties as PropertyVecs}
use Rattle.aig_circuit.specs.Properties.{AllProperties, entries_of, map_properties}
use Rattle.aig_circuit.specs.Renumber.{renumbered_edge, renumbered_latch}
use Rattle.aig_circuit.specs.View.{properties_of}
use Rattle.aig_format.specs.File.{File}
use Rattle.aig_format.specs.Variables.{is_known}
use Rattle.aig_format.specs.Numbering.{is_compact, node_of_variable}
use Rattle.aig_format.specs.Circuit.{edge_of}
use Rattle.aig_format.specs.Parse.{Parts}
use Rattle.aig_lexer.specs.declared.header.Header.{Header}
use Rattle.aig_ordering.specs.declared.gates.Operands.{Operands}
use Rattle.aig_ordering.specs.Gates.{nodes_in}
use Rattle.aig_ordering.specs.Numbers.{has_number, number_at, number_in}
use Rattle.aig_ordering.specs.Tables.{AreMarksOf, AreNodesOf}
use Rattle.aig_renumber.specs.Numbers.{IsEdgeIn, IsLatchIn}
use Rattle.aig_reader.specs.Reading.{TellsNodes, node_in}
use Rattle.aig_reader.specs.Resets.{circuit_with_resets, latch_with_reset}
use Rattle.aig_reader.specs.declared.sections.Lists.{Lists}
use Rattle.aig_reader.specs.declared.sections.Sections.{Sections}
use Rattle.aig_reader.specs.Sections.{AreListsByVariable, HasGoodLines, circuit_with, file_by}

-- ---- tests

-- whether the variables of these literals are 0 or defined
abbrev pub knows : File → List ℕ → Bool
knows f es = list_all (λ e. is_known f (e / 2)) es

-- whether those of all operands are
abbrev pub have_operands : File → Bool
have_operands f = knows f (flat_map (λ g. g.rhs0 ∷ g.rhs1 ∷ []) f.gates)

-- whether those of outputs and properties are
abbrev pub knows_properties : File → Bool
knows_properties f = knows f (entries_of f.properties)

-- whether those of latches, outputs and properties are
abbrev pub knows_lists : File → Bool
knows_lists f = knows f (map (λ l. l.next) f.latches) && knows_properties f

-- whether the variables of these edges pass the test
abbrev pub edges_pass : (ℕ → Bool) → List AigEdge → Bool
edges_pass test es = list_all (λ e. test e.node_id) es

-- whether those of outputs and properties do
abbrev pub properties_pass : (ℕ → Bool) → PropertyVecs AigEdge → Bool
properties_pass test p =
    edges_pass test p.outputs.items && edges_pass test p.bads.items
    && edges_pass test p.constraints.items
    && list_all (λ set. edges_pass test set.items) p.justice.items
    && edges_pass test p.fairness.items

-- whether those of the latches' next edges, of outputs and of properties do
abbrev pub lists_pass : (ℕ → Bool) → Lists → Bool
lists_pass test lists =
    list_all (λ l. test l.next.node_id) lists.latchs.items && properties_pass test lists.properties

-- whether the variable of an initial edge does, if there is one
abbrev pub init_passes : (ℕ → Bool) → Option AigEdge → Bool
init_passes test (Some e) = test e.node_id
init_passes test None = true

-- whether those of all initial edges do
abbrev pub resets_pass : (ℕ → Bool) → Lists → Bool
resets_pass test lists = list_all (λ l. init_passes test l.init) lists.latchs.items

-- ---- tables and numbers

-- the gates of a file that isn't compact, the marks of what it defines, and its lists, by variable
pub record AreTablesOf (f : File) (gates : List (Option Operands)) (marked : List ℕ)
    (entries : Lists) : Type 0 where
  pub good : HasGoodLines f
  pub nodes : AreNodesOf f (nodes_in gates)
  pub marks : AreMarksOf f marked
  pub lists : AreListsByVariable entries f
  pub not_compact : is_compact f ≡ false

-- the table has a number of the variable
abbrev pub HasNumber : List ℕ → ℕ → Type 0
HasNumber table v = IsTrue (has_number table v)

-- the table has the number of each variable that is 0 or defined, and no others
abbrev pub AreNumbersOf : File → List ℕ → Type 0
AreNumbersOf f numbers = (v : ℕ) → number_at numbers v ≡ node_in f v

-- the entries of each list have numbers in the table
pub record HaveNumbers (table : List ℕ) (lists : Lists) : Type 0 where
  pub inputs : All (HasNumber table) lists.inputs.items
  pub latchs : All (IsLatchIn (HasNumber table)) lists.latchs.items
  pub properties : AllProperties (IsEdgeIn (HasNumber table)) (properties_of lists.properties)

-- each list is under the numbers of the table
pub record AreRenumbered (table : List ℕ) (old new : Lists) : Type 0 where
  pub inputs : new.inputs.items ≡ map (number_in table) old.inputs.items
  pub latchs : new.latchs.items ≡ map (renumbered_latch (number_in table)) old.latchs.items
  pub properties : properties_of new.properties
      ≡ map_properties (renumbered_edge (number_in table)) (properties_of old.properties)

-- the lists of the file's circuit
pub record AreListsByNumber (f : File) (lists : Lists) : Type 0 where
  pub inputs : lists.inputs.items ≡ map (λ e. node_of_variable f (e / 2)) f.inputs
  pub latchs : lists.latchs.items ≡ map (latch_with_reset f) f.latches
  pub properties : properties_of lists.properties ≡ map_properties (edge_of f) f.properties

-- the sections have the file's circuit, but for its names
abbrev pub IsCircuitOf : File → Sections → Type 0
IsCircuitOf f sections =
    (names : FinMap nat_cmp (List ℕ))
    → circuit_with sections names ≡ record (circuit_with_resets f) { names = names }

-- and of each variable its node is told
abbrev pub IsNumberedAs : File → Sections → Type 0
IsNumberedAs f sections = IsCircuitOf f sections × TellsNodes f sections.numbered.variables

-- these are the sections of a file of this header, with as many inputs and latches as it says
pub record AreSectionsOf (header : Header) (sections : Sections) (x : Parts) : Type 0 where
  pub numbered : IsNumberedAs (file_by header x) sections
  pub inputs : vec_len sections.lists.inputs ≡ header.inputs
  pub latchs : vec_len sections.lists.latchs ≡ header.latches
