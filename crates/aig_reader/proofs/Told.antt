-- The nodes of variables that are told are those of the file.
use Rattle.aig_base.proofs.Words.{◌≡◌, ◌<◌, ℕ, true, false, ◌==◌, List, Option, [], arith, eqb-true, false_from_ne_true, inl, inr, le-leb, lt-leb, cases_lt, or_cases, refl}
use Rattle.aig_circuit.specs.declared.view.CircuitLists.{CircuitLists}
use Rattle.aig_format.proofs.Numbers.{any_within, node_of_variable-compact}
use Rattle.aig_format.proofs.Words.{File, HeaderNumbers, defined, NameLine, Parts, file_from, is_compact, is_defined, is_known}
use Rattle.aig_format.specs.Numbering.{node_of_variable, variables_in_order}
use Rattle.aig_format.specs.declared.FileKind.{FileKind}
use Rattle.aig_reader.specs.Reading.{IsReadAs, TellsNodes}
use Rattle.aig_reader.specs.Sections.{HasGoodLines}
use Rattle.aig_reader.specs.declared.variable_nodes.NumberedLists.{NumberedLists}
use Rattle.aig_reader.specs.declared.variable_nodes.VariableNodes.{VariableNodes}
use Rattle.aig_reader.specs.declared.variable_nodes.VariableNodes.TheVariants.{Own}
use Rattle.aig_reader.proofs.Resets.{known_within}

-- a variable above the greatest isn't known
not_above : (f : File) → HasGoodLines f → (v : ℕ) → f.greatest < v → is_known f v ≡ false
not_above f good v above = false_from_ne_true (is_known f v) (λ known.
    elim (or_cases (v == 0) (is_defined f v) known) [
      | inl none ↦ omega (arith, eqb-true v 0 none)
      | inr there ↦ omega (arith, (any_within f.greatest v (defined f) good.definable there).1)
    ])

-- in a compact file each variable up to the greatest is its own node, and no other is known
pub own_told : (f : File) → HasGoodLines f → is_compact f ≡ true → TellsNodes f (Own f.greatest)
own_told f good compact v = elim (cases_lt f.greatest v) [
  | inl above ↦
      rw (lt-leb v f.greatest above, not_above f good v above) refl
  | inr within ↦
      rw (
        le-leb v f.greatest within,
        known_within f good compact v within,
        node_of_variable-compact f compact v within,
      ) refl
]

-- what was read with the nodes of variables was read
pub lists_read : {Holds : List ℕ → File → Type 0} (Means : File → CircuitLists → Type 0)
    (old new : Option (List ℕ)) (x : NumberedLists)
    → IsReadAs Holds (λ f read. Means f read.lists × TellsNodes f read.variables) old new x
    → IsReadAs Holds Means old new x.lists
lists_read Means old new x read = record {
  file = read.file;
  bytes = read.bytes;
  holds = read.holds;
  means = read.means.0;
  taken = read.taken;
}

-- nodes of variables don't rest on the names
pub told_with_names : (b : (FileKind × HeaderNumbers) × Parts) (lines : List NameLine)
    (nodes : VariableNodes)
    → TellsNodes (file_from b []) nodes → TellsNodes (file_from b lines) nodes
unfolding node_of_variable variables_in_order
told_with_names b lines nodes tells = tells
