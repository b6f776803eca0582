use Rattle.std.proofs.Common.{◌+◌}
use Rattle.aig_format.specs.Parse.{parse_number}
use Rattle.aig_lexer.proofs.Taking.{takes_front}
use Rattle.aig_lexer.proofs.Words.{takes_ended, misses_end}
use Rattle.aig_lexer.proofs.lexer.ended.Goals as goal

pub returns-then-found-end : goal.returns-then-found-end
returns-then-found-end g c =
    misses_end c.args.end _ _ c.in-Some.value c.in-Some.found
    (takes_front g.R.Source.left g.R.Source.failed g.R.Source.pulls parse_number c.window.result.now c.args.buffer.now _ (c.in-Some.count + 1) _ (c.in-Some.value, c.in-Some.found) c.window.ensures c.consume.ensures c.in-Some.ensures.reads)
    c.if-found-end.true

pub returns : goal.returns
returns g c =
    takes_ended c.args.end _ _ c.in-Some.value c.in-Some.found
    (takes_front g.R.Source.left g.R.Source.failed g.R.Source.pulls parse_number c.window.result.now c.args.buffer.now _ (c.in-Some.count + 1) _ (c.in-Some.value, c.in-Some.found) c.window.ensures c.consume.ensures c.in-Some.ensures.reads)
    c.if-found-end.false
