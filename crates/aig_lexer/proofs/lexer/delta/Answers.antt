use Rattle.aig_format.specs.Parse.{parse_delta}
use Rattle.aig_lexer.proofs.Taking.{takes_front}
use Rattle.aig_lexer.proofs.lexer.delta.Goals as goal

pub returns-in-Some : goal.returns-in-Some
returns-in-Some g c =
    takes_front g.R.Source.left g.R.Source.failed g.R.Source.pulls parse_delta c.window.result.now c.args.buffer.now _ c.in-Some.count _ c.in-Some.difference c.window.ensures c.consume.ensures c.in-Some.ensures.reads
