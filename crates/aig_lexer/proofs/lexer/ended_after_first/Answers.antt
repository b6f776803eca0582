use Rattle.std.proofs.lemmas.Result.{err_from_is_err_and}
use Rattle.aig_lexer.specs.Takes.{feed}
use Rattle.aig_lexer.specs.Faults.{word_cause}
use Rattle.aig_lexer.proofs.Faults.{tells-weaker}
use Rattle.aig_lexer.proofs.Words.{takes_ended, misses_number, misses_end}
use Rattle.aig_lexer.proofs.lexer.ended_after_first.Goals as goal

pub returns-in_err-value : goal.returns-in_err-value
returns-in_err-value g c =
    let p = err_from_is_err_and c.from_residual.result c.from_residual.ensures.1 in
    rw (p.1, p.2) (tells-weaker (word_cause c.in_err-value.field-0.0) _ _ _ (misses_number c.args.end (feed g.R.Source.left g.R.Source.failed g.R.Source.pulls c.args.buffer.now c.args.r.now)) c.in_err-value.ensures)

pub returns-then-found-end : goal.returns-then-found-end
returns-then-found-end g c = misses_end c.args.end _ _ c.in_ok-value.value c.in_ok-value.found c.in_ok-value.ensures c.if-found-end.true

pub returns : goal.returns
returns g c = takes_ended c.args.end _ _ c.in_ok-value.value c.in_ok-value.found c.in_ok-value.ensures c.if-found-end.false
