use Rattle.std.proofs.Common.{◌≡◌, ℕ, List, [], ◌++◌, map}
use Rattle.aig_format.specs.declared.FileKind.{FileKind}
use Rattle.aig_ordering.specs.Lists.{variable_of_literal}
use Rattle.aig_reader.specs.Variables.{AreDefined}
use Rattle.aig_lexer.specs.Takes.{Takes, feed}
use Rattle.aig_reader.proofs.inputs.read_inputs.Given as goal
use Rattle.aig_format.proofs.Words.{parse_input_entry, parse_entries}

abbrev pub invariant-loop : goal.invariant-loop
invariant-loop g l =
    let at = feed g.R.Source.left g.R.Source.failed g.R.Source.pulls in
    (kind : FileKind) (greatest : ℕ) → AreDefined kind greatest l.fn.variables []
    → (literals : List ℕ) × ((l.inputs.items ≡ l.fn.inputs.items ++ map variable_of_literal literals) × AreDefined kind greatest l.variables literals) × Takes (parse_entries (parse_input_entry kind greatest) [] l.counter) (at l.fn.buffer l.fn.r) (at l.buffer l.r) literals
