use Rattle.std.proofs.Common.{◌≡◌, ℕ, List, [], ◌++◌, map}
use Rattle.aig_format.proofs.Words.{parse_ended, parse_if, parse_entries, is_literal}
use Rattle.aig_ordering.specs.Lists.{edge_from}
use Rattle.aig_lexer.specs.Takes.{Takes, feed}
use Rattle.aig_reader.proofs.edges.read_edges.Given as goal

abbrev pub invariant-loop : goal.invariant-loop
invariant-loop g l =
    let at = feed g.R.Source.left g.R.Source.failed g.R.Source.pulls in
    (literals : List ℕ) × (l.edges.items ≡ l.fn.edges.items ++ map edge_from literals) × Takes (parse_entries (λ _. parse_if (parse_ended 10) (is_literal l.greatest)) [] l.counter) (at l.fn.buffer l.fn.r) (at l.buffer l.r) literals
