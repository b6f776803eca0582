use Rattle.aig_answers.proofs.Words.{◌≡◌, ◌+◌, length, sym, subst, ◌∙◌, append-nil, arith, AreBelow, AsksWindow, induction_clauses, Plain}
use Rattle.aig_answers.proofs.Asking.{asked_of, below_of}
use Rattle.aig_answers.proofs.clause_parts.window_parts.Goals as goal

pub returns-clause-written : goal.returns-clause-written
returns-clause-written c =
    let u = c.args.unrolled.now in
    let optimize = c.args.optimize in
    let is = c.in_ok-extra.ensures.circuit in
    let exact = c.in_ok-extra.ensures.exact ∙ sym (append-nil (induction_clauses c.args.circuit.now c.args.k u)) in
    let alone : length u.nodes + 0 ≡ length u.nodes = omega arith in
    record {
      few = c.requires.few;
      needed = c.in_ok-needed.ensures;
      below = subst (λ n. AreBelow n c.in_ok-extra.extra) alone
          (below_of Plain c.args.circuit.now c.args.k optimize u _ _ _ c.requires.few c.in_ok-needed.ensures is c.requires.unrolls exact
          (λ lists has. c.clauses_fix_roots.ensures.fixes u optimize lists is has)
          (λ lists has. c.clauses_fix_roots.ensures.satisfied u optimize lists is has)
          (c.clauses_are_one.ensures u optimize));
    }

pub returns-clause-asks : goal.returns-clause-asks
returns-clause-asks c lists has =
    let u = c.args.unrolled.now in
    let k = c.args.k in
    let optimize = c.args.optimize in
    let m = c.args.circuit.now in
    let extra = c.in_ok-extra.extra in
    let is = c.in_ok-extra.ensures.circuit in
    let exact = c.in_ok-extra.ensures.exact ∙ sym (append-nil (induction_clauses m k u)) in
    subst (λ all. AsksWindow Plain m k optimize all extra) (append-nil lists)
    (asked_of Plain m k optimize u _ _ _ c.requires.few c.in_ok-needed.ensures is c.requires.unrolls exact
    (λ lists has. c.clauses_fix_roots.ensures.fixes u optimize lists is has)
    (λ lists has. c.clauses_fix_roots.ensures.satisfied u optimize lists is has)
    (c.clauses_are_one.ensures u optimize) lists has)
