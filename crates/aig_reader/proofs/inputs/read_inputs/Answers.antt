use Rattle.aig_base.proofs.Words.{◌≡◌, ◌∙◌, ◌∷◌, ◌++◌, [], sym, append-nil, arith, err_from_is_err_and}
use Rattle.aig_format.specs.ParseTested.{parse_input_entry}
use Rattle.aig_lexer.proofs.Taking.{takes_nothing}
use Rattle.aig_ordering.specs.Lists.{variable_of_literal}
use Rattle.aig_lexer.specs.Faults.{line_cause}
use Rattle.aig_lexer.proofs.Faults.{tells-weaker}
use Rattle.aig_reader.proofs.Defined.{has_next}
use Rattle.aig_reader.proofs.Entries.{takes_count, takes_every, takes_more, misses_more, made_push}
use Rattle.aig_reader.proofs.inputs.read_inputs.Goals as goal

pub input_line-requires : goal.input_line-requires
input_line-requires g c =
    let kind = c.requires.0 in
    let greatest = c.requires.1 in
    let h = c.loop.invariant kind greatest c.requires.4 in
    let count = takes_count (parse_input_entry kind greatest) c.loop.counter _ _ h.0 h.2 in
    has_next kind greatest _ h.0 h.1.1 (omega (arith, count, c.loop-test.true, c.requires.3)) c.requires.2

pub loop-init : goal.loop-init
loop-init g c = λ kind greatest defined. ([], (c.reserve.ensures.items ∙ sym (append-nil c.args.inputs.now.items), defined), takes_nothing _ [])

pub returns-in_err-input : goal.returns-in_err-input
returns-in_err-input g c = λ kind greatest defined.
    let p = err_from_is_err_and c.from_residual-in_err-input.result c.from_residual-in_err-input.ensures.1 in
    let h = c.loop.invariant kind greatest defined in
    rw (p.1, p.2) (tells-weaker (line_cause c.in_err-input.field-0.0) _ _ _ (misses_more (parse_input_entry kind greatest) c.loop.counter c.args.count _ _ h.0 c.loop-test.true h.2) (c.in_err-input.ensures kind greatest h.0 h.1.1))

pub loop-preserved : goal.loop-preserved
loop-preserved g c = λ kind greatest defined.
    let h = c.loop.invariant kind greatest defined in
    let k = c.in_ok-input.ensures kind greatest h.0 h.1.1 in (
      h.0 ++ k.0 ∷ [],
      (made_push variable_of_literal _ h.0 k.0 _ _ _ h.1.0 k.1.0 c.in_ok-append.ensures, k.1.1),
      takes_more (parse_input_entry kind greatest) c.loop.counter _ _ _ h.0 k.0 h.2 k.2,
    )

pub returns : goal.returns
returns g c = λ kind greatest defined.
    let all : c.loop.counter ≡ c.args.count = omega arith in
    let h = c.loop.invariant kind greatest defined in
    (h.0, h.1, takes_every (parse_input_entry kind greatest) c.loop.counter c.args.count _ _ h.0 all h.2)
