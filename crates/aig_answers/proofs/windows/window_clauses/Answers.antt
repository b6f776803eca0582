use Rattle.std.proofs.Common.{ℕ, ◌++◌, [], length, replicate, sym, ap, subst, ◌∙◌, arith}
use Rattle.aig_answers.proofs.Words.{Circuit, lists_circuit, FixesRoots, HasClauses, NodeValuesSatisfy, watched, window_clauses}
use Rattle.aig_answers.proofs.Asking.{asks}
use Rattle.aig_answers.proofs.windows.window_clauses.Goals as goal

pub encode-requires : goal.encode-requires
encode-requires c =
    let shown = ap (λ (d : Circuit). length d.nodes) c.new.ensures in
    omega (arith, shown, c.in_ok-stepped.ensures.few)

pub add_free-requires : goal.add_free-requires
add_free-requires c =
    let shown = ap (λ (d : Circuit). length d.nodes) c.new.ensures in
    omega (arith, shown, c.in_ok-clauses.ensures.clauses.count, c.in_ok-stepped.ensures.few)

pub returns : goal.returns
returns c =
    let form = c.args.form in
    let k = c.args.k in
    let optimize = c.args.optimize in
    let source = lists_circuit c.args.circuit in
    let w = c.in_ok-stepped.stepped in
    let is = c.in_ok-stepped.ensures in
    let u = lists_circuit w.unrolled in
    let lists = c.in_ok-clauses.clauses in
    let made = c.in_ok-clauses.ensures in
    let same = c.new.ensures in
    let has = subst (λ (d : Circuit). HasClauses d optimize lists) same made.clauses in
    asks source k optimize u lists c.add_free.new.clauses w.extra is.circuit has
    (subst (λ (d : Circuit). FixesRoots d lists) same made.fixes)
    (subst (λ (d : Circuit). NodeValuesSatisfy d lists) same made.satisfied)
    c.tell_relations.ensures form is.steps
    (c.in_ok-add_free.ensures ∙ ap (λ (n : ℕ). lists ++ replicate n []) is.free)
    (is.exact ∙ ap (λ n. window_clauses form n (watched form source) k u) (sym has.count))
