use Rattle.aig_lexer.specs.Takes.{feed}
use Rattle.aig_format.specs.Parse.{parse_text}
use Rattle.aig_lexer.proofs.Going.{GoesOn}
use Rattle.aig_symbols.proofs.Texts.{text_from}
use Rattle.aig_symbols.proofs.names.text.kept_text.Given as goal

abbrev pub invariant-loop-bytes : goal.invariant-loop-bytes
invariant-loop-bytes g l =
    GoesOn parse_text (feed g.R.Source.left g.R.Source.failed g.R.Source.pulls l.fn.buffer l.fn.r) (text_from l.bytes.items) (feed g.R.Source.left g.R.Source.failed g.R.Source.pulls l.buffer l.r)

abbrev pub decreases-loop-bytes : goal.decreases-loop-bytes
decreases-loop-bytes g l = (feed g.R.Source.left g.R.Source.failed g.R.Source.pulls l.buffer l.r).most
