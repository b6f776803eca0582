use Rattle.std.proofs.Common.{ℕ, List}
use Rattle.aig_lexer.specs.Takes.{feed}
use Rattle.aig_format.specs.Parse.{parse_text}
use Rattle.aig_lexer.proofs.Going.{GoesOn}
use Rattle.aig_symbols.proofs.Texts.{text_from}
use Rattle.aig_symbols.proofs.names.text.skip_text.Given as goal

abbrev pub invariant-loop : goal.invariant-loop
invariant-loop g l =
    (front : List ℕ) × GoesOn parse_text (feed g.R.Source.left g.R.Source.failed g.R.Source.pulls l.fn.buffer l.fn.r) (text_from front) (feed g.R.Source.left g.R.Source.failed g.R.Source.pulls l.buffer l.r)

abbrev pub decreases-loop : goal.decreases-loop
decreases-loop g l = (feed g.R.Source.left g.R.Source.failed g.R.Source.pulls l.buffer l.r).most
