use Rattle.std.proofs.Common.{◌≡◌, ℕ, List, [], ◌++◌, map}
use Rattle.aig_format.specs.declared.FileKind.{FileKind}
use Rattle.aig_format.proofs.Words.{LatchLine, parse_entries}
use Rattle.aig_reader.specs.Rules.{latch_from, parse_latch_by}
use Rattle.aig_reader.specs.Variables.{AreDefined}
use Rattle.aig_lexer.specs.Takes.{Takes, feed}
use Rattle.aig_reader.proofs.latches.read_latches.Given as goal

abbrev pub invariant-loop : goal.invariant-loop
invariant-loop g l =
    let at = feed g.R.Source.left g.R.Source.failed g.R.Source.pulls in
    (kind : FileKind) (inputs : List ℕ) → AreDefined kind l.greatest l.fn.variables inputs
    → (lines : List LatchLine) × ((l.latchs.items ≡ l.fn.latchs.items ++ map latch_from lines)
    × AreDefined kind l.greatest l.variables (inputs ++ map (λ l. l.literal) lines))
    × Takes (parse_entries (parse_latch_by l.resets kind l.greatest inputs) [] l.counter)
    (at l.fn.buffer l.fn.r) (at l.buffer l.r) lines
