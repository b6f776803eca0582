use Rattle.std.proofs.Common.{ℕ, ◌+◌, ◌≤◌, List, [], length}
use Rattle.aig_format.specs.declared.FileKind.{FileKind}
use Rattle.aig_reader.specs.Gates.{AreGates}
use Rattle.aig_reader.specs.Variables.{AreDefined}
use Rattle.aig_lexer.specs.Takes.{Made, feed}
use Rattle.aig_reader.proofs.gates.read_gates.Given as goal
use Rattle.aig_format.specs.ParseTested.{parse_gate_entry}
use Rattle.aig_format.specs.Parse.{parse_entries}

abbrev pub invariant-loop : goal.invariant-loop
invariant-loop g l =
    let at = feed g.R.Source.left g.R.Source.failed g.R.Source.pulls in
    (kind : FileKind) (greatest : ℕ) (leaves : List ℕ) → length leaves + l.fn.count ≤ greatest → AreDefined kind greatest l.fn.variables leaves
    → Made (λ held gates. AreGates kind greatest leaves gates l.variables held) (at l.fn.buffer l.fn.r) (at l.buffer l.r) l.gates (parse_entries (parse_gate_entry kind greatest leaves) [] l.counter)
