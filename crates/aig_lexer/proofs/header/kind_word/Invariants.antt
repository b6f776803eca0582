use Rattle.std.proofs.Common.{take}
use Rattle.aig_lexer.specs.Takes.{feed, Advances}
use Rattle.aig_lexer.proofs.header.kind_word.Given as goal

abbrev pub invariant-loop-byte : goal.invariant-loop-byte
invariant-loop-byte g l =
    Advances (feed g.R.Source.left g.R.Source.failed g.R.Source.pulls l.fn.buffer l.fn.r) (feed g.R.Source.left g.R.Source.failed g.R.Source.pulls l.buffer l.r) (take l.byte-index l.byte-items)
