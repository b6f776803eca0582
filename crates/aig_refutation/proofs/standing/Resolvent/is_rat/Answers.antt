use Rattle.aig_base.proofs.Words.{◌<◌, List, length, sym, ap, ◌∙◌, arith}
use Rattle.aig_base.specs.declared.logic.literal.Lit.{Lit}
use Rattle.aig_refutation.specs.Tokens.{said_numbers}
use Rattle.aig_refutation.proofs.Apart.{rat_all, rat_not}
use Rattle.aig_refutation.proofs.standing.Resolvent.is_rat.Goals as goal

pub returns-then-not-branch-clause-rat : goal.returns-then-not-branch-clause-rat
returns-then-not-branch-clause-rat c live h named =
    let zero_lit : Lit = record { code = 0 } in
    let place = c.loop-place.place in
    let same = ap (λ (list : List (List Lit)). length list) c.clauses.ensures in
    let inside : place < length c.args.numbered.now.clauses = omega (
      arith,
      c.loop-place-test.true,
      c.len-place-end.ensures.count,
      same,
    ) in
    sym (rat_not c.args.numbered.now live h c.args.clause.now c.args.hints.now
    (said_numbers c.args.groups.now) zero_lit c.in-len1-up.len_at_least place inside
    (sym (c.in_ok-is_apart.ensures.apart live h named (c.loop-place.invariant.starts live h))
    ∙ c.if-not-branch.true))

pub returns-clause-rat : goal.returns-clause-rat
returns-clause-rat c live h named =
    let zero_lit : Lit = record { code = 0 } in
    let same = ap (λ (list : List (List Lit)). length list) c.clauses.ensures in
    sym (rat_all c.args.numbered.now live h c.args.clause.now c.args.hints.now
    (said_numbers c.args.groups.now) zero_lit c.in-len1-up.len_at_least
    (λ i inside. c.loop-place.invariant.apart live h named i (omega (
      arith,
      inside,
      c.loop-place-test.false,
      c.len-place-end.ensures.count,
      same,
    ))))
