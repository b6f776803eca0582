use Rattle.aig_witness_circuits.proofs.Words.{AsksIf, Circuit, Holds, ap, arith, length, subst, sym}
use Rattle.aig_witness_circuits.proofs.AskedCircuits.{question_asks}
use Rattle.aig_witness_circuits.proofs.questions.question.Goals as goal

pub returns-then-len-limit-clause-large : goal.returns-then-len-limit-clause-large
returns-then-len-limit-clause-large c = λ is. (
  question_asks c.args.condition c.args.shared.now c.args.model.now c.args.witness.now
      c.in_ok-question.ensures.circuit c.requires,
  omega (
    arith,
    c.if-len-limit.true,
    c.len.ensures,
    c.in_ok-question.question.nodes.ok.0,
    ap (λ (q : Circuit). length q.nodes) c.in_ok-question.ensures.exact,
  ),
)

pub returns-clause-asks : goal.returns-clause-asks
returns-clause-asks c =
    subst (λ (q : Circuit). AsksIf
    (Holds c.args.condition c.args.shared.now c.args.model.now c.args.witness.now) q)
    (sym c.in_ok-question.ensures.exact)
    (question_asks c.args.condition c.args.shared.now c.args.model.now c.args.witness.now
    c.in_ok-question.ensures.circuit c.requires)
