use Rattle.aig_answers.proofs.Words.{◌≡◌, arith, cases_lt, false, false≢true, get_or, inl, inr, lt-ltb, nat_lt, sym, true, size_of, Step, Question}
use Rattle.aig_answers.proofs.PlanRooms.{position_is, position_none}
use Rattle.aig_answers.proofs.plans.room.first_over.Goals as goal

abbrev none : Question
none = record { ask = Step 0; optimize = false }

pub returns-then-not-fits : goal.returns-then-not-fits
returns-then-not-fits c =
    let a = c.args in
    let i = c.loop-index.index in
    let size = λ (q : Question). size_of a.plain q.ask a.circuit.now in
    let here = size (get_or a.plan.now i none) in
    let passes : nat_lt a.limit here ≡ true = elim (cases_lt a.limit here) [
      | inl over ↦ lt-ltb a.limit here over
      | inr within ↦ absurd (false≢true (c.if-not-fits.ensures.1 within))
    ] in
    sym (position_is (λ q. nat_lt a.limit (size q)) a.plan.now i none c.loop-index-test.true
    (c.loop-index.invariant none) passes)

pub returns : goal.returns
returns c =
    let a = c.args in
    let size = λ (q : Question). size_of a.plain q.ask a.circuit.now in
    sym (position_none (λ q. nat_lt a.limit (size q)) a.plan.now none
    (λ k low. c.loop-index.invariant none k (omega (arith, low, c.loop-index-test.false))))
