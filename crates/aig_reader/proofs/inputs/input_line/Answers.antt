use Rattle.aig_base.proofs.Words.{◌≡◌, ◌++◌, ◌∷◌, [], ℕ, err_from_is_err_and}
use Rattle.aig_lexer.specs.Takes.{feed}
use Rattle.aig_lexer.proofs.Taking.{misses_tested}
use Rattle.aig_ordering.specs.Lists.{variable_of_literal}
use Rattle.aig_format.proofs.Words.{parse_own, may_define}
use Rattle.aig_reader.specs.Variables.{AreDefined}
use Rattle.aig_reader.proofs.TestedLines.{makes_tested, line-from_word}
use Rattle.aig_reader.proofs.inputs.input_line.Goals as goal

pub returns-in_err-literal : goal.returns-in_err-literal
returns-in_err-literal g c = λ kind greatest before h.
    let p = err_from_is_err_and c.from_residual.result c.from_residual.ensures.1 in
    rw (p.1, p.2) (line-from_word c.in_err-literal.field-0.0 _ _ _ (misses_tested (parse_own kind 10 before) (may_define kind greatest before) (feed g.R.Source.left g.R.Source.failed g.R.Source.pulls c.args.buffer.now c.args.r.now)) (c.in_err-literal.ensures.exact kind greatest before h))

pub returns : goal.returns
returns g c = λ kind greatest before h.
    makes_tested (λ (id literal : ℕ). (id ≡ variable_of_literal literal) × AreDefined kind greatest c.define.new.self (before ++ literal ∷ [])) (parse_own kind 10 before) (may_define kind greatest before) _ _ c.in_ok-literal.literal c.define.result (c.in_ok-literal.ensures.exact kind greatest before h) (c.define.ensures kind greatest before h)
