use Rattle.aig_answers.proofs.Words.{◌-◌, ◌<◌, ◌≢◌, Ok, Err, arith, eqb-false, false, get_or, length, slice_get-get_or, subst, sym, Circuit, lists_circuit, AreTaken, Step, Question}
use Rattle.aig_answers.proofs.Planning.{after_it, all_hold, answered, kept, one_more}
use Rattle.aig_answers.proofs.plans.checking.check.Goals as goal

abbrev none : Question
none = record { ask = Step 0; optimize = false }

pub returns-in-Ok-clause-checks : goal.returns-in-Ok-clause-checks
returns-in-Ok-clause-checks g c =
    let left = g.P.Source.left in
    let failed = g.P.Source.failed in
    let a = c.args in
    let plan = a.plan.now in
    let circuit = lists_circuit a.circuit in
    let i = length plan - 1 in
    let now = c.check_first.new.proofs in
    let rest = c.check_last.new.proof in
    let first = c.in_ok-check_first.ensures in
    let some : length plan ≢ 0 = eqb-false (length plan) 0 (sym c.if-is_empty.ensures) in
    let taken = subst (λ (d : Circuit). AreTaken left failed a.limit plan d a.proofs.now now i)
    c.new.ensures first.taken in
    let within : i < length plan = omega (arith, some) in
    let low : i < length now = omega (arith, within, first.length, c.requires.each) in
    let here = answered left failed a.limit plan circuit a.proofs.now now i rest low taken
    first.unread (get_or plan i none) (get_or now i c.index-proofs-index.result) (Ok tt)
    (slice_get-get_or plan i none within) (slice_get-get_or now i c.index-proofs-index.result low)
    c.in-Ok.ensures.tells in
    λ j more. one_more left failed a.limit plan circuit a.proofs.now now i rest low taken
    first.unread here j (omega (arith, more, within))

pub returns-in-Ok-clause-holds : goal.returns-in-Ok-clause-holds
returns-in-Ok-clause-holds g c =
    all_hold g.P.Source.left g.P.Source.failed c.args.limit c.args.plan.now
    (lists_circuit c.args.circuit) c.args.proofs.now c.refuted_asks_hold.ensures
    c.requires.circuit _
    (returns-in-Ok-clause-checks g c)

pub returns-in-Err-clause-checks : goal.returns-in-Err-clause-checks
returns-in-Err-clause-checks g c =
    let left = g.P.Source.left in
    let failed = g.P.Source.failed in
    let a = c.args in
    let plan = a.plan.now in
    let circuit = lists_circuit a.circuit in
    let i = length plan - 1 in
    let now = c.check_first.new.proofs in
    let rest = c.check_last.new.proof in
    let first = c.in_ok-check_first.ensures in
    let some : length plan ≢ 0 = eqb-false (length plan) 0 (sym c.if-is_empty.ensures) in
    let taken = subst (λ (d : Circuit). AreTaken left failed a.limit plan d a.proofs.now now i)
    c.new.ensures first.taken in
    let within : i < length plan = omega (arith, some) in
    let low : i < length now = omega (arith, within, first.length, c.requires.each) in (
      kept left failed a.limit plan circuit a.proofs.now now i rest low taken first.unread,
      answered left failed a.limit plan circuit a.proofs.now now i rest low taken first.unread
          (get_or plan i none) (get_or now i c.index-proofs-index.result) (Err c.in-Err.why)
          (slice_get-get_or plan i none within)
          (slice_get-get_or now i c.index-proofs-index.result low) c.in-Err.ensures.tells,
      after_it left failed a.limit plan circuit a.proofs.now now i rest low taken first.unread,
    )
