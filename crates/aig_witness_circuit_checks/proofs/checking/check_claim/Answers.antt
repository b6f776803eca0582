use Rattle.aig_witness_circuit_checks.proofs.Words.{Err, err_from_is_err_and, refl, Base, Property, Reset, Step, Transition, proofs_of}
use Rattle.aig_witness_circuit_checks.proofs.Turns.{ends, fails_alone, keeps, stops}
use Rattle.aig_witness_circuit_checks.proofs.checking.check_claim.Goals as goal

pub returns-in_err-check_condition-clause-checks : goal.returns-in_err-check_condition-clause-checks
returns-in_err-check_condition-clause-checks g c =
    let p = err_from_is_err_and c.from_residual.result c.from_residual.ensures.1 in
    let given = proofs_of c.args.reset.now c.args.transition.now c.args.property.now
    c.args.base.now c.args.step.now in
    rw (p.1, p.2) (stops g.P.Source.left c.args.limit c.args.optimize c.args.claim.now given Reset
    c.in_err-check_condition.field-0.0 tt c.in_err-check_condition.ensures.tells)

pub returns-in_err-check_condition-clause-unread : goal.returns-in_err-check_condition-clause-unread
returns-in_err-check_condition-clause-unread g c =
    let p = err_from_is_err_and c.from_residual.result c.from_residual.ensures.1 in
    let given = proofs_of c.args.reset.now c.args.transition.now c.args.property.now
    c.args.base.now c.args.step.now in
    let rest = proofs_of c.check_condition.new.proof c.args.transition.now c.args.property.now
    c.args.base.now c.args.step.now in
    let text = g.P.Source.left c.args.reset.now in
    rw (p.1, p.2) (keeps given rest c.args.limit c.args.optimize text c.args.claim.now (Err
    c.in_err-check_condition.field-0.0) Reset c.in_err-check_condition.ensures.tells
    c.in_err-check_condition.ensures.unread (refl, refl, refl, refl))

pub returns-in_err-check_condition-clause-stream : goal.returns-in_err-check_condition-clause-stream
returns-in_err-check_condition-clause-stream g c =
    let p = err_from_is_err_and c.from_residual.result c.from_residual.ensures.1 in
    let rest = proofs_of c.check_condition.new.proof c.args.transition.now c.args.property.now
    c.args.base.now c.args.step.now in
    let text = g.P.Source.left c.args.reset.now in
    rw (p.1, p.2) (fails_alone c.args.limit c.args.optimize text c.args.claim.now Reset
    g.P.Source.failed rest (Err c.in_err-check_condition.field-0.0)
    c.in_err-check_condition.ensures.tells c.in_err-check_condition.ensures.stream)

pub returns-in_err-check_condition-2-clause-checks : goal.returns-in_err-check_condition-2-clause-checks
returns-in_err-check_condition-2-clause-checks g c =
    let p = err_from_is_err_and c.from_residual-in_err-check_condition-2.result
    c.from_residual-in_err-check_condition-2.ensures.1 in
    let given = proofs_of c.args.reset.now c.args.transition.now c.args.property.now
    c.args.base.now c.args.step.now in
    rw (p.1, p.2) (stops g.P.Source.left c.args.limit c.args.optimize c.args.claim.now given
    Transition c.in_err-check_condition-2.field-0.0 c.in_ok-check_condition.ensures.tells
    c.in_err-check_condition-2.ensures.tells)

pub returns-in_err-check_condition-2-clause-unread : goal.returns-in_err-check_condition-2-clause-unread
returns-in_err-check_condition-2-clause-unread g c =
    let p = err_from_is_err_and c.from_residual-in_err-check_condition-2.result
    c.from_residual-in_err-check_condition-2.ensures.1 in
    let given = proofs_of c.args.reset.now c.args.transition.now c.args.property.now
    c.args.base.now c.args.step.now in
    let rest = proofs_of c.check_condition.new.proof c.check_condition-2.new.proof
    c.args.property.now c.args.base.now c.args.step.now in
    let text = g.P.Source.left c.args.transition.now in
    rw (p.1, p.2) (keeps given rest c.args.limit c.args.optimize text c.args.claim.now (Err
    c.in_err-check_condition-2.field-0.0) Transition c.in_err-check_condition-2.ensures.tells
    c.in_err-check_condition-2.ensures.unread (refl, refl, refl))

pub returns-in_err-check_condition-2-clause-stream : goal.returns-in_err-check_condition-2-clause-stream
returns-in_err-check_condition-2-clause-stream g c =
    let p = err_from_is_err_and c.from_residual-in_err-check_condition-2.result
    c.from_residual-in_err-check_condition-2.ensures.1 in
    let rest = proofs_of c.check_condition.new.proof c.check_condition-2.new.proof
    c.args.property.now c.args.base.now c.args.step.now in
    let text = g.P.Source.left c.args.transition.now in
    rw (p.1, p.2) (fails_alone c.args.limit c.args.optimize text c.args.claim.now Transition
    g.P.Source.failed rest (Err c.in_err-check_condition-2.field-0.0)
    c.in_err-check_condition-2.ensures.tells c.in_err-check_condition-2.ensures.stream)

pub returns-in_err-check_condition-3-clause-checks : goal.returns-in_err-check_condition-3-clause-checks
returns-in_err-check_condition-3-clause-checks g c =
    let p = err_from_is_err_and c.from_residual-in_err-check_condition-3.result
    c.from_residual-in_err-check_condition-3.ensures.1 in
    let given = proofs_of c.args.reset.now c.args.transition.now c.args.property.now
    c.args.base.now c.args.step.now in
    rw (p.1, p.2) (stops g.P.Source.left c.args.limit c.args.optimize c.args.claim.now given
    Property c.in_err-check_condition-3.field-0.0 (
      c.in_ok-check_condition.ensures.tells,
      c.in_ok-check_condition-2.ensures.tells,
    ) c.in_err-check_condition-3.ensures.tells)

pub returns-in_err-check_condition-3-clause-unread : goal.returns-in_err-check_condition-3-clause-unread
returns-in_err-check_condition-3-clause-unread g c =
    let p = err_from_is_err_and c.from_residual-in_err-check_condition-3.result
    c.from_residual-in_err-check_condition-3.ensures.1 in
    let given = proofs_of c.args.reset.now c.args.transition.now c.args.property.now
    c.args.base.now c.args.step.now in
    let rest = proofs_of c.check_condition.new.proof c.check_condition-2.new.proof
    c.check_condition-3.new.proof c.args.base.now c.args.step.now in
    let text = g.P.Source.left c.args.property.now in
    rw (p.1, p.2) (keeps given rest c.args.limit c.args.optimize text c.args.claim.now (Err
    c.in_err-check_condition-3.field-0.0) Property c.in_err-check_condition-3.ensures.tells
    c.in_err-check_condition-3.ensures.unread (refl, refl))

pub returns-in_err-check_condition-3-clause-stream : goal.returns-in_err-check_condition-3-clause-stream
returns-in_err-check_condition-3-clause-stream g c =
    let p = err_from_is_err_and c.from_residual-in_err-check_condition-3.result
    c.from_residual-in_err-check_condition-3.ensures.1 in
    let rest = proofs_of c.check_condition.new.proof c.check_condition-2.new.proof
    c.check_condition-3.new.proof c.args.base.now c.args.step.now in
    let text = g.P.Source.left c.args.property.now in
    rw (p.1, p.2) (fails_alone c.args.limit c.args.optimize text c.args.claim.now Property
    g.P.Source.failed rest (Err c.in_err-check_condition-3.field-0.0)
    c.in_err-check_condition-3.ensures.tells c.in_err-check_condition-3.ensures.stream)

pub returns-in_err-check_condition-4-clause-checks : goal.returns-in_err-check_condition-4-clause-checks
returns-in_err-check_condition-4-clause-checks g c =
    let p = err_from_is_err_and c.from_residual-in_err-check_condition-4.result
    c.from_residual-in_err-check_condition-4.ensures.1 in
    let given = proofs_of c.args.reset.now c.args.transition.now c.args.property.now
    c.args.base.now c.args.step.now in
    rw (p.1, p.2) (stops g.P.Source.left c.args.limit c.args.optimize c.args.claim.now given Base
    c.in_err-check_condition-4.field-0.0 (
      c.in_ok-check_condition.ensures.tells,
      c.in_ok-check_condition-2.ensures.tells,
      c.in_ok-check_condition-3.ensures.tells,
    )
    c.in_err-check_condition-4.ensures.tells)

pub returns-in_err-check_condition-4-clause-unread : goal.returns-in_err-check_condition-4-clause-unread
returns-in_err-check_condition-4-clause-unread g c =
    let p = err_from_is_err_and c.from_residual-in_err-check_condition-4.result
    c.from_residual-in_err-check_condition-4.ensures.1 in
    let given = proofs_of c.args.reset.now c.args.transition.now c.args.property.now
    c.args.base.now c.args.step.now in
    let rest = proofs_of c.check_condition.new.proof c.check_condition-2.new.proof
    c.check_condition-3.new.proof c.check_condition-4.new.proof c.args.step.now in
    let text = g.P.Source.left c.args.base.now in
    rw (p.1, p.2) (keeps given rest c.args.limit c.args.optimize text c.args.claim.now (Err
    c.in_err-check_condition-4.field-0.0) Base c.in_err-check_condition-4.ensures.tells
    c.in_err-check_condition-4.ensures.unread refl)

pub returns-in_err-check_condition-4-clause-stream : goal.returns-in_err-check_condition-4-clause-stream
returns-in_err-check_condition-4-clause-stream g c =
    let p = err_from_is_err_and c.from_residual-in_err-check_condition-4.result
    c.from_residual-in_err-check_condition-4.ensures.1 in
    let rest = proofs_of c.check_condition.new.proof c.check_condition-2.new.proof
    c.check_condition-3.new.proof c.check_condition-4.new.proof c.args.step.now in
    let text = g.P.Source.left c.args.base.now in
    rw (p.1, p.2) (fails_alone c.args.limit c.args.optimize text c.args.claim.now Base
    g.P.Source.failed rest (Err c.in_err-check_condition-4.field-0.0)
    c.in_err-check_condition-4.ensures.tells c.in_err-check_condition-4.ensures.stream)

pub returns-clause-checks : goal.returns-clause-checks
returns-clause-checks g c =
    let given = proofs_of c.args.reset.now c.args.transition.now c.args.property.now
    c.args.base.now c.args.step.now in
    ends g.P.Source.left c.args.limit c.args.optimize c.args.claim.now given
    c.check_condition-5.result (
      c.in_ok-check_condition.ensures.holds,
      c.in_ok-check_condition-2.ensures.holds,
      c.in_ok-check_condition-3.ensures.holds,
      c.in_ok-check_condition-4.ensures.holds,
    ) (
      c.in_ok-check_condition.ensures.tells,
      c.in_ok-check_condition-2.ensures.tells,
      c.in_ok-check_condition-3.ensures.tells,
      c.in_ok-check_condition-4.ensures.tells,
    ) c.check_condition-5.ensures.holds
    c.check_condition-5.ensures.tells

pub returns-clause-unread : goal.returns-clause-unread
returns-clause-unread g c =
    let given = proofs_of c.args.reset.now c.args.transition.now c.args.property.now
    c.args.base.now c.args.step.now in
    let rest = proofs_of c.check_condition.new.proof c.check_condition-2.new.proof
    c.check_condition-3.new.proof c.check_condition-4.new.proof c.check_condition-5.new.proof in
    let text = g.P.Source.left c.args.step.now in
    keeps given rest c.args.limit c.args.optimize text c.args.claim.now c.check_condition-5.result
    Step c.check_condition-5.ensures.tells c.check_condition-5.ensures.unread tt

pub returns-clause-stream : goal.returns-clause-stream
returns-clause-stream g c =
    let rest = proofs_of c.check_condition.new.proof c.check_condition-2.new.proof
    c.check_condition-3.new.proof c.check_condition-4.new.proof c.check_condition-5.new.proof in
    let text = g.P.Source.left c.args.step.now in
    fails_alone c.args.limit c.args.optimize text c.args.claim.now Step g.P.Source.failed rest
    c.check_condition-5.result c.check_condition-5.ensures.tells
    c.check_condition-5.ensures.stream
