use Rattle.std.proofs.Common.{◌+◌}
use Rattle.aig_format.specs.Parse.{parse_number}
use Rattle.aig_lexer.proofs.Taking.{takes_front}
use Rattle.aig_lexer.proofs.lexer.number.Goals as goal

pub returns-in-Some : goal.returns-in-Some
returns-in-Some g c =
    takes_front g.R.Source.left g.R.Source.failed g.R.Source.pulls parse_number c.window.result.now c.args.buffer.now _ (c.in-Some.count + 1) _ (c.in-Some.value, c.in-Some.end) c.window.ensures c.consume.ensures c.in-Some.ensures.reads
