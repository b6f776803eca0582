use Rattle.std.proofs.Common.{sym, subst}
use Rattle.aig_answers.proofs.Words.{AreBelow, Circuit, AreNeeded, AsksOfCircuit}
use Rattle.aig_answers.proofs.clause_parts.query_parts.Goals as goal

pub returns-clause-written : goal.returns-clause-written
returns-clause-written c =
    let needed = c.in_ok-needed.needed in
    record {
      few = c.requires;
      needed = subst (λ (d : Circuit). AreNeeded d c.args.optimize needed.marks.items needed.clauses) c.unrolled.ensures.value c.in_ok-needed.ensures;
      below = c.in_ok-extra.ensures.below;
    }

pub returns-clause-asks : goal.returns-clause-asks
returns-clause-asks c = λ lists has.
    let asked = c.args.asked.now in
    let u = asked.unrolled in
    let extra = c.in_ok-extra.extra in
    let is = c.unrolled.ensures.unrolled in
    let fixes = c.clauses_fix_roots.ensures.fixes u c.args.optimize lists is.unrolled has in
    let satisfied = c.clauses_fix_roots.ensures.satisfied u c.args.optimize lists is.unrolled has in
    record {
      steps = is.steps;
      has_clauses = has;
      fixes = fixes;
      satisfied = satisfied;
      asks = subst (AsksOfCircuit asked.circuit asked.steps u lists) (sym c.in_ok-extra.ensures.exact)
          (c.circuit_queries_ask.ensures asked.circuit u asked.steps lists is.circuit is.steps fixes satisfied);
      below = subst (λ n. AreBelow n extra) (sym has.count) c.in_ok-extra.ensures.below;
    }
