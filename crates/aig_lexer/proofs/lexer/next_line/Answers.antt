use Rattle.aig_base.proofs.Words.{◌≢◌, arith, err_from_is_err_and}
use Rattle.aig_lexer.specs.Takes.{feed}
use Rattle.aig_lexer.proofs.NextLine.{takes_alone, takes_reset, misses_literal, misses_reset, misses_other}
use Rattle.aig_lexer.specs.Faults.{word_cause}
use Rattle.aig_lexer.proofs.Faults.{tells-weaker}
use Rattle.aig_lexer.proofs.lexer.next_line.Goals as goal

pub returns-in_err-next : goal.returns-in_err-next
returns-in_err-next g c =
    let p = err_from_is_err_and c.from_residual.result c.from_residual.ensures.1 in
    rw (p.1, p.2) (tells-weaker (word_cause c.in_err-next.field-0.0) _ _ _ (misses_literal (feed g.R.Source.left g.R.Source.failed g.R.Source.pulls c.args.buffer.now c.args.r.now)) c.in_err-next.ensures)

pub returns-in-10 : goal.returns-in-10
returns-in-10 g c = takes_alone _ _ _ (rw c.in-10.is at c.in_ok-next.ensures)

pub returns-in_default : goal.returns-in_default
returns-in_default g c =
    let feed : c.in_ok-next.end ≢ 10 = omega arith in
    let space : c.in_ok-next.end ≢ 32 = omega arith in
    misses_other _ _ _ _ c.in_ok-next.ensures feed space

pub returns-in_err-ended-in-32 : goal.returns-in_err-ended-in-32
returns-in_err-ended-in-32 g c =
    let p = err_from_is_err_and c.from_residual-in_err-ended-in-32.result c.from_residual-in_err-ended-in-32.ensures.1 in
    rw (p.1, p.2) (tells-weaker (word_cause c.in_err-ended-in-32.field-0.0) _ _ _ (misses_reset _ _ _ (rw c.in-32.is at c.in_ok-next.ensures)) c.in_err-ended-in-32.ensures)

pub returns-in_ok-ended-in-32 : goal.returns-in_ok-ended-in-32
returns-in_ok-ended-in-32 g c = takes_reset _ _ _ _ _ (rw c.in-32.is at c.in_ok-next.ensures) c.in_ok-ended-in-32.ensures
