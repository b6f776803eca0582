use Rattle.aig_answers.proofs.Words.{◌<◌, Ok, Err, arith, false, get_or, length, slice_get-get_or, Step, Question}
use Rattle.aig_answers.proofs.Planning.{after_it, answered, kept, one_more}
use Rattle.aig_answers.proofs.plans.checking.check_first.Goals as goal

abbrev none : Question
none = record { ask = Step 0; optimize = false }

pub loop-index-preserved : goal.loop-index-preserved
loop-index-preserved g c =
    let left = g.P.Source.left in
    let failed = g.P.Source.failed in
    let a = c.args in
    let i = c.loop-index.index in
    let now = c.loop-index.proofs in
    let holds = c.loop-index.invariant in
    let rest = c.check_question.new.proof in
    let low : i < length now =
    omega (arith, c.loop-index-test.true, c.loop-index.auto.proofs, c.requires) in
    let within : i < length a.plan.now = omega (arith, c.loop-index-test.true, c.requires) in
    let here = answered left failed a.limit a.plan.now a.circuit.now a.proofs.now now i rest low
    holds.taken holds.unread (get_or a.plan.now i none) (get_or now i c.index-proofs-index.result)
    (Ok tt) (slice_get-get_or a.plan.now i none within)
    (slice_get-get_or now i c.index-proofs-index.result low) c.in_default.ensures.tells in
    record {
      taken = one_more left failed a.limit a.plan.now a.circuit.now a.proofs.now now i rest low
          holds.taken holds.unread here;
      unread = after_it left failed a.limit a.plan.now a.circuit.now a.proofs.now now i rest low
          holds.taken holds.unread;
    }

pub returns-in-Err-clause-refused : goal.returns-in-Err-clause-refused
returns-in-Err-clause-refused g c =
    let left = g.P.Source.left in
    let failed = g.P.Source.failed in
    let a = c.args in
    let i = c.loop-index.index in
    let now = c.loop-index.proofs in
    let holds = c.loop-index.invariant in
    let rest = c.check_question.new.proof in
    let low : i < length now =
    omega (arith, c.loop-index-test.true, c.loop-index.auto.proofs, c.requires) in
    let within : i < length a.plan.now = omega (arith, c.loop-index-test.true, c.requires) in (
      kept left failed a.limit a.plan.now a.circuit.now a.proofs.now now i rest low holds.taken
          holds.unread,
      answered left failed a.limit a.plan.now a.circuit.now a.proofs.now now i rest low holds.taken
          holds.unread (get_or a.plan.now i none) (get_or now i c.index-proofs-index.result)
          (Err c.in-Err.why) (slice_get-get_or a.plan.now i none within)
          (slice_get-get_or now i c.index-proofs-index.result low) c.in-Err.ensures.tells,
      after_it left failed a.limit a.plan.now a.circuit.now a.proofs.now now i rest low holds.taken
          holds.unread,
    )
