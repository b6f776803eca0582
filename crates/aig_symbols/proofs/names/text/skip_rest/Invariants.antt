use Rattle.std.proofs.Common.{ℕ, List}
use Rattle.aig_lexer.specs.Takes.{feed, Advances}
use Rattle.aig_symbols.proofs.names.text.skip_rest.Given as goal

abbrev pub invariant-loop-fault : goal.invariant-loop-fault
invariant-loop-fault g l = (taken : List ℕ) × Advances (feed g.R.Source.left g.R.Source.failed g.R.Source.pulls l.fn.buffer l.fn.r) (feed g.R.Source.left g.R.Source.failed g.R.Source.pulls l.buffer l.r) taken

abbrev pub decreases-loop-fault : goal.decreases-loop-fault
decreases-loop-fault g l = (feed g.R.Source.left g.R.Source.failed g.R.Source.pulls l.buffer l.r).most
