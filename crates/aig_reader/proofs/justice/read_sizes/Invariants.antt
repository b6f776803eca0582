use Rattle.std.proofs.Common.{◌≡◌, ℕ, List, [], ◌++◌}
use Rattle.aig_format.specs.Parse.{parse_ended, parse_entries}
use Rattle.aig_lexer.specs.Takes.{Takes, feed}
use Rattle.aig_reader.proofs.justice.read_sizes.Given as goal

abbrev pub invariant-loop : goal.invariant-loop
invariant-loop g l =
    let at = feed g.R.Source.left g.R.Source.failed g.R.Source.pulls in
    (numbers : List ℕ) × (l.sizes.items ≡ l.fn.sizes.items ++ numbers) × Takes (parse_entries (λ _. parse_ended 10) [] l.counter) (at l.fn.buffer l.fn.r) (at l.buffer l.r) numbers
