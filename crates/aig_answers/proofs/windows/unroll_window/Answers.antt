use Rattle.std.proofs.Common.{ℕ, ◌+◌, ◌≤◌, ◌^◌, ◌++◌, List, [], replicate, length, sym, ap, subst, arith}
use Rattle.aig_answers.proofs.Words.{AreBelow, Lit, Circuit, lists_circuit, AreNeeded, FixesRoots, HasClauses, NodeValuesSatisfy, AsksWindow}
use Rattle.aig_answers.proofs.Asking.{asked_of, below_of}
use Rattle.aig_answers.proofs.windows.unroll_window.Goals as goal

pub find_needed-requires : goal.find_needed-requires
find_needed-requires c =
    let shown = ap (λ (d : Circuit). length d.nodes) c.new.ensures in
    omega (arith, shown, c.in_ok-stepped.ensures.few)

pub returns : goal.returns
returns c =
    let form = c.args.form in
    let k = c.args.k in
    let optimize = c.args.optimize in
    let source = lists_circuit c.args.circuit in
    let w = c.in_ok-stepped.stepped in
    let is = c.in_ok-stepped.ensures in
    let u = lists_circuit w.unrolled in
    let needed = c.in_ok-needed.needed in
    let few : length u.nodes ≤ 2 ^ 31 = omega (arith, is.few) in
    let are = subst (λ (d : Circuit). AreNeeded d optimize needed.marks.items needed.clauses)
    c.new.ensures c.in_ok-needed.ensures in
    let fixes : (lists : List (List (List Lit))) → HasClauses u optimize lists → FixesRoots u lists =
    λ lists has. c.clauses_fix_roots.ensures.fixes u optimize lists is.circuit has in
    let satisfied : (lists : List (List (List Lit))) → HasClauses u optimize lists
    → NodeValuesSatisfy u lists =
    λ lists has. c.clauses_fix_roots.ensures.satisfied u optimize lists is.circuit has in
    let one = c.clauses_are_one.ensures u optimize in
    record {
      circuit = is.circuit;
      few = is.few;
      needed = are;
      below = subst (λ (n : ℕ). AreBelow (length u.nodes + n) w.extra) (sym is.free)
          (below_of form source k optimize u _ _ w.extra few are is.circuit is.steps is.exact fixes
          satisfied one);
      asks = λ lists has.
          subst (λ (n : ℕ). AsksWindow form source k optimize (lists ++ replicate n []) w.extra)
          (sym is.free) (asked_of form source k optimize u _ _ w.extra few are is.circuit is.steps
          is.exact fixes satisfied one lists has);
    }
