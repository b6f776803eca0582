use Rattle.aig_check_commands.proofs.Words.{All-cons, All-nil, CanBeAsked, Question, [], ◌∷◌, ◌<◌, ◌^◌, arith, err_from_is_err_and, subst, sym, asked_with, lists_circuit}
use Rattle.aig_answers.specs.Plans.{plan_certified}
use Rattle.aig_answers.specs.declared.plans.asking.Ask.TheVariants as asks
use Rattle.aig_check_commands.proofs.checks.pairs.ask_joint.Goals as goal

pub check_room-requires : goal.check_room-requires
check_room-requires c =
    let a = c.args in
    let first = c.asked_with-base.result in
    let second = c.asked_with-step.result in
    let CanBe = λ (q : Question). CanBeAsked a.limit q.ask c.new.result in
    let low : 0 < 2 ^ 32 = omega arith in
    All-cons CanBe first (second ∷ []) (subst CanBe (sym c.asked_with-base.ensures) tt)
    (All-cons CanBe second [] (subst CanBe (sym c.asked_with-step.ensures) low) (All-nil CanBe))

pub returns-in_err-check_room : goal.returns-in_err-check_room
returns-in_err-check_room c =
    let p = err_from_is_err_and c.from_residual.result c.from_residual.ensures.1 in
    let told = rw (c.new.ensures, c.asked_with-base.ensures, c.asked_with-step.ensures) at c.in_err-check_room.ensures in
    rw (p.1, p.2) (sym told)

pub ask_both-requires-clause-base : goal.ask_both-requires-clause-base
ask_both-requires-clause-base c =
    let a = c.args in
    let room = rw (c.new.ensures, c.asked_with-base.ensures, c.asked_with-step.ensures) at c.in_ok-check_room.ensures in
    let all = c.plans_have_room.ensures a.limit (plan_certified a.optimize) (lists_circuit a.joint)
    (sym room) in
    let first = all 0 (asked_with a.optimize (asks.Step 0)) (omega arith) in
    omega (arith, first, c.requires.limit.1)

pub ask_both-requires-clause-step : goal.ask_both-requires-clause-step
ask_both-requires-clause-step c =
    let a = c.args in
    let room = rw (c.new.ensures, c.asked_with-base.ensures, c.asked_with-step.ensures) at c.in_ok-check_room.ensures in
    let all = c.plans_have_room.ensures a.limit (plan_certified a.optimize) (lists_circuit a.joint)
    (sym room) in
    let second = all 1 (asked_with a.optimize (asks.Step 0)) (omega arith) in
    omega (arith, second, c.requires.limit.1)

pub returns-in_err-ask_both : goal.returns-in_err-ask_both
returns-in_err-ask_both c =
    let p = err_from_is_err_and c.from_residual-in_err-ask_both.result
    c.from_residual-in_err-ask_both.ensures.1 in
    rw (p.1, p.2) tt

pub returns : goal.returns
returns c =
    let room = rw (c.new.ensures, c.asked_with-base.ensures, c.asked_with-step.ensures) at c.in_ok-check_room.ensures in
    (sym room, c.in_ok-ask_both.ensures)
