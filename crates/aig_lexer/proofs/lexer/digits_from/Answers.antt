use Rattle.aig_lexer.proofs.Digits.{digits_near}
use Rattle.aig_lexer.proofs.lexer.digits_from.Goals as goal

pub returns-in-Some : goal.returns-in-Some
returns-in-Some g c =
    digits_near g.R.Source.left g.R.Source.failed g.R.Source.pulls c.args.first c.window.result.now
    c.args.buffer.now _ c.in-Some.count _ c.in-Some.value c.in-Some.end c.window.ensures
    c.consume.ensures c.in-Some.ensures.reads
