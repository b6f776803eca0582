use Rattle.std.proofs.lemmas.Result.{err_from_is_err_and}
use Rattle.aig_format.specs.Parse.{parse_number}
use Rattle.aig_format.proofs.NumberReaders.{number_ends}
use Rattle.aig_lexer.specs.Takes.{feed}
use Rattle.aig_lexer.proofs.Going.{goes_start}
use Rattle.aig_lexer.proofs.Taking.{goes_short}
use Rattle.aig_lexer.specs.Faults.{word_cause}
use Rattle.aig_lexer.proofs.Faults.{tells-weaker}
use Rattle.aig_lexer.proofs.Words.{gives_following}
use Rattle.aig_lexer.proofs.lexer.number_after_first.Goals as goal

pub returns-in_err-first : goal.returns-in_err-first
returns-in_err-first g c =
    let p = err_from_is_err_and c.from_residual.result c.from_residual.ensures.1 in
    rw (p.1, p.2) (tells-weaker (word_cause c.in_err-first.field-0.0) _ _ _ (goes_short parse_number parse_number _ _ (goes_start parse_number (feed g.R.Source.left g.R.Source.failed g.R.Source.pulls c.args.buffer.now c.args.r.now)) number_ends) c.in_err-first.ensures)

pub returns : goal.returns
returns g c =
    gives_following (λ x. (x.0, x.1)) parse_number _ _ _ c.in_ok-first.first c.number_from.result c.in_ok-first.ensures c.number_from.ensures
