use Rattle.aig_base.proofs.Words.{◌≡◌, ◌∷◌, ◌++◌, [], sym, append-nil, append_assoc, arith, err_from_is_err_and}
use Rattle.aig_format.specs.Parse.{parse_ended}
use Rattle.aig_lexer.proofs.Taking.{takes_nothing}
use Rattle.aig_reader.proofs.Entries.{takes_every, takes_more, misses_more}
use Rattle.aig_reader.proofs.TestedLines.{line-from_word}
use Rattle.aig_reader.proofs.justice.read_sizes.Goals as goal

pub loop-init : goal.loop-init
loop-init g c = ([], sym (append-nil c.args.sizes.now.items), takes_nothing _ [])

pub returns-in_err-size : goal.returns-in_err-size
returns-in_err-size g c =
    let p = err_from_is_err_and c.from_residual.result c.from_residual.ensures.1 in
    let h = c.loop.invariant in
    let count = c.args.count in
    rw (p.1, p.2) (line-from_word c.in_err-size.field-0.0 _ _ _ (misses_more (λ _. parse_ended 10) c.loop.counter count _ _ h.0 c.loop-test.true h.2) c.in_err-size.ensures)

pub loop-preserved : goal.loop-preserved
loop-preserved g c =
    let h = c.loop.invariant in
    let size = c.in_ok-size.size in
    (h.0 ++ size ∷ [], rw (c.in_ok-append.ensures, h.1) (append_assoc _ h.0 (size ∷ [])), takes_more (λ _. parse_ended 10) c.loop.counter _ _ _ h.0 size h.2 c.in_ok-size.ensures)

pub returns : goal.returns
returns g c =
    let all : c.loop.counter ≡ c.args.count = omega arith in
    let h = c.loop.invariant in
    (h.0, h.1, takes_every (λ _. parse_ended 10) c.loop.counter c.args.count _ _ h.0 all h.2)
