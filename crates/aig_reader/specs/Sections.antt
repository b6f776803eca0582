-- Serves private clauses alone.
-- The sections of a file, with each variable as its own number.
use Rattle.std.specs.Prelude.{◌≡◌, ℕ, ◌^◌, ◌<◌, ◌≤◌, ◌&&◌, Bool, true, List, [], ◌++◌, length, map, nat_eq}
use Rattle.std.specs.List.{AllByRecursion, IsDistinct}
use Rattle.std.specs.Ordering.{nat_cmp}
use Rattle.std.specs.FinMap.{FinMap}
use Rattle.aig_circuit.specs.Circuit.{Circuit}
use Rattle.aig_circuit.specs.Properties.{no_properties}
use Rattle.aig_circuit.specs.View.{properties_of}
use Rattle.aig_format.specs.declared.FileKind.TheVariants.{Binary}
use Rattle.aig_format.specs.File.{File, defined, used}
use Rattle.aig_format.specs.Fits.{IsDefinable, AllPass, is_literal}
use Rattle.aig_format.specs.Numbering.{is_compact}
use Rattle.aig_format.specs.Parse.{Parts, file_from}
use Rattle.aig_lexer.specs.declared.header.Header.{Header}
use Rattle.aig_lexer.specs.Header.{numbers_of}
use Rattle.aig_ordering.specs.Lists.{variable_of_literal}
use Rattle.aig_reader.specs.declared.gate_store.GateStore.{GateStore}
use Rattle.aig_reader.specs.declared.variables.DefinedVariables.{DefinedVariables}
use Rattle.aig_reader.specs.declared.sections.Lists.{Lists}
use Rattle.aig_reader.specs.declared.sections.Sections.{Sections}
use Rattle.aig_reader.specs.Gates.{ArePlaced, is_in_order}
use Rattle.aig_reader.specs.Properties.{ArePropertiesOf}
use Rattle.aig_reader.specs.Resets.{reset_in}
use Rattle.aig_reader.specs.Rules.{latch_from}
use Rattle.aig_reader.specs.Variables.{AreDefined}

-- the file of a header and these sections, with no names
abbrev pub file_by : Header → Parts → File
file_by header x = file_from ((header.kind, numbers_of header), x) []

-- there are no entries yet
pub record AreEmpty (lists : Lists) : Type 0 where
  pub inputs : lists.inputs.items ≡ []
  pub latchs : lists.latchs.items ≡ []
  pub properties : properties_of lists.properties ≡ no_properties

-- the lists have the entries of the file's sections, each variable as its own number
pub record AreListsByVariable (lists : Lists) (f : File) : Type 0 where
  pub inputs : lists.inputs.items ≡ map variable_of_literal f.inputs
  pub latchs : lists.latchs.items ≡ map latch_from f.latches
  pub properties : ArePropertiesOf lists.properties f.properties

-- what the lines of sections tell of their file: literals are defined once and are those of its
-- variables, and binary files are compact
pub record HasGoodLines (f : File) : Type 0 where
  pub definable : AllByRecursion (IsDefinable f.greatest) (defined f)
  pub distinct : IsDistinct nat_eq (defined f)
  pub enough : length (defined f) ≤ f.greatest
  pub in_range : AllPass (is_literal f.greatest) (used f)
  pub resets : AllPass (λ l. is_literal f.greatest (reset_in l)) f.latches
  pub binary : f.kind ≡ Binary → is_compact f ≡ true

-- the lines of the file's sections were read: lists and gates by variable, what is defined, and
-- whether no variable is missing
pub record AreLinesOf (f : File) (complete : Bool) (entries : Lists) (variables : DefinedVariables)
    (held : GateStore) : Type 0 where
  pub good : HasGoodLines f
  pub few : f.greatest < 2 ^ 31
  pub defined : AreDefined f.kind f.greatest variables (defined f)
  pub lists : AreListsByVariable entries f
  pub gates : ArePlaced f.greatest (f.inputs ++ map (λ l. l.literal) f.latches) f.gates held
  pub compact : (complete && is_in_order held) ≡ is_compact f

-- the circuit of these sections, with these names
abbrev pub circuit_with : Sections → FinMap nat_cmp (List ℕ) → Circuit
circuit_with s names = record {
  nodes = s.numbered.nodes.items;
  inputs = s.lists.inputs.items;
  latchs = s.lists.latchs.items;
  properties = properties_of s.lists.properties;
  names = names;
}
