use Rattle.aig_base.proofs.Words.{sym, ◌∙◌, false≢true}
use Rattle.aig_cnf.specs.Patterns.{is_xor, is_ite}
use Rattle.aig_cnf.proofs.Matching.{AreOpposite-from, IsXor-from, IsIte-from, no_first, no_pattern, no_second, not_apart}
use Rattle.aig_cnf.proofs.form.find_pattern.Goals as goal

pub returns-then-are_opposite : goal.returns-then-are_opposite
returns-then-are_opposite c =
    let f = c.in-Some in
    let s = c.in-Some-find_inner in
    is_xor (IsXor-from c.args.nodes.now c.args.a c.args.b f.p0 f.p1 s.q0 s.q1 f.ensures s.ensures (c.are_opposite.ensures.0 c.if-are_opposite.true))

pub returns-in-Some-choose : goal.returns-in-Some-choose
returns-in-Some-choose c =
    let f = c.in-Some in
    let s = c.in-Some-find_inner in
    let e = c.in-Some-choose in
    is_ite (λ x y is. false≢true (sym c.if-are_opposite.false ∙ c.are_opposite.ensures.1 (AreOpposite-from c.args.nodes.now c.args.a c.args.b f.p0 f.p1 s.q0 s.q1 x y f.ensures s.ensures is)))
    (IsIte-from c.args.nodes.now c.args.a c.args.b f.p0 f.p1 s.q0 s.q1 e.c e.t e.e f.ensures s.ensures e.ensures (c.are_apart.ensures.0 c.if-are_apart.true))

pub returns-in_default-choose : goal.returns-in_default-choose
returns-in_default-choose c =
    let f = c.in-Some in
    let s = c.in-Some-find_inner in
    let e = c.in-Some-choose in
    no_pattern c.args.nodes.now c.args.a c.args.b f.p0 f.p1 s.q0 s.q1 f.ensures s.ensures
    (λ o. false≢true (sym c.if-are_opposite.false ∙ c.are_opposite.ensures.1 o))
    (not_apart f.p0 f.p1 s.q0 s.q1 e.c e.t e.e e.ensures (λ apart. false≢true (sym c.if-are_apart.false ∙ c.are_apart.ensures.1 apart)))

pub find_inner-requires : goal.find_inner-requires
find_inner-requires c = c.requires.first

pub find_inner-requires-2 : goal.find_inner-requires-2
find_inner-requires-2 c = c.requires.second

pub returns-in_default : goal.returns-in_default
returns-in_default c = no_first c.args.nodes.now c.args.a c.args.b c.in_default.ensures

pub returns-in_default-find_inner : goal.returns-in_default-find_inner
returns-in_default-find_inner c = no_second c.args.nodes.now c.args.a c.args.b c.in_default-find_inner.ensures
