use Rattle.std.proofs.Common.{◌≡◌, ℕ, List, [], ◌++◌, map}
use Rattle.aig_lexer.specs.Takes.{Takes, feed}
use Rattle.aig_ordering.specs.Lists.{edge_from}
use Rattle.aig_reader.proofs.Entries.{set_at}
use Rattle.aig_reader.proofs.justice.read_sets.Given as goal
use Rattle.aig_format.specs.Parse.{parse_entries}

abbrev pub invariant-loop-size : goal.invariant-loop-size
invariant-loop-size g l =
    let at = feed g.R.Source.left g.R.Source.failed g.R.Source.pulls in
    (literals : List (List ℕ)) × (map (λ set. set.items) l.sets.items ≡ map (λ set. set.items) l.fn.sets.items ++ map (map edge_from) literals) × Takes (parse_entries (set_at l.greatest l.sizes) [] l.size-index) (at l.fn.buffer l.fn.r) (at l.buffer l.r) literals
