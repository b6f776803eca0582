use Rattle.aig_base.proofs.Words.{◌≡◌, ◌∷◌, ◌++◌, [], sym, append-nil, arith, err_from_is_err_and}
use Rattle.aig_format.proofs.Words.{parse_ended, parse_if, is_literal}
use Rattle.aig_ordering.specs.Lists.{edge_from}
use Rattle.aig_lexer.proofs.Taking.{takes_nothing}
use Rattle.aig_lexer.specs.Faults.{line_cause}
use Rattle.aig_lexer.proofs.Faults.{tells-weaker}
use Rattle.aig_reader.proofs.Entries.{takes_every, takes_more, misses_more, made_push}
use Rattle.aig_reader.proofs.edges.read_edges.Goals as goal

pub loop-init : goal.loop-init
loop-init g c = ([], sym (append-nil c.args.edges.now.items), takes_nothing _ [])

pub returns-in_err-edge : goal.returns-in_err-edge
returns-in_err-edge g c =
    let p = err_from_is_err_and c.from_residual.result c.from_residual.ensures.1 in
    let h = c.loop.invariant in
    let count = c.args.count in
    let line = parse_if (parse_ended 10) (is_literal c.args.greatest) in
    rw (p.1, p.2) (tells-weaker (line_cause c.in_err-edge.field-0.0) _ _ _ (misses_more (λ _. line) c.loop.counter count _ _ h.0 c.loop-test.true h.2) c.in_err-edge.ensures)

pub loop-preserved : goal.loop-preserved
loop-preserved g c =
    let h = c.loop.invariant in
    let k = c.in_ok-edge.ensures in
    (h.0 ++ k.0 ∷ [], made_push edge_from _ h.0 k.0 _ _ _ h.1 k.1 c.in_ok-append.ensures, takes_more (λ _. parse_if (parse_ended 10) (is_literal c.args.greatest)) c.loop.counter _ _ _ h.0 k.0 h.2 k.2)

pub returns : goal.returns
returns g c =
    let all : c.loop.counter ≡ c.args.count = omega arith in
    let h = c.loop.invariant in
    (h.0, h.1, takes_every (λ _. parse_if (parse_ended 10) (is_literal c.args.greatest)) c.loop.counter c.args.count _ _ h.0 all h.2)
