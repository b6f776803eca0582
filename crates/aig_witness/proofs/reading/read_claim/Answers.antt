use Rattle.std.proofs.Common.{◌∷◌, not, nat_eq, true, false, Some, refl, subst}
use Rattle.aig_base.proofs.Words.{err_from_is_err_and}
use Rattle.aig_lexer.specs.Takes.{feed}
use Rattle.aig_lexer.proofs.Faults.{tells-weaker}
use Rattle.aig_lexer.proofs.Going.{GoesOn, goes_byte, goes_call, goes_done, goes_start}
use Rattle.aig_witness.specs.Faults.{witness_cause}
use Rattle.aig_witness.specs.Reading.{parse_claim, parse_next_claim}
use Rattle.aig_witness.specs.Witness.{claim_by}
use Rattle.aig_witness.proofs.Going.{comment_begins, comments_end, fault_next, goes_next, next_from, nothing_left, past_comments, witness_found}
use Rattle.aig_witness.proofs.reading.read_claim.Goals as goal

pub loop-b-init : goal.loop-b-init
loop-b-init g c = goes_start (past_comments false)
    (feed g.R.Source.left g.R.Source.failed g.R.Source.pulls c.args.buffer.now c.args.r.now)

pub loop-b-preserved-then-inside : goal.loop-b-preserved-then-inside
loop-b-preserved-then-inside g c =
    let inside = subst (λ i. GoesOn (past_comments false)
    (feed g.R.Source.left g.R.Source.failed g.R.Source.pulls c.args.buffer.now c.args.r.now)
    (past_comments i) (feed g.R.Source.left g.R.Source.failed g.R.Source.pulls c.loop-b.buffer
    c.loop-b.r)) c.if-inside.true c.loop-b.invariant in
    goes_byte (past_comments false) (past_comments true)
    (past_comments (not (nat_eq c.in-Some.b 10))) _ _
    (feed g.R.Source.left g.R.Source.failed g.R.Source.pulls c.next.new.self c.next.new.r)
    c.in_ok-b.field-0 c.in-Some.b inside c.in_ok-b.ensures.steps c.in-Some.is (λ bs. refl)

pub loop-b-preserved : goal.loop-b-preserved
loop-b-preserved g c =
    let outside = subst (λ i. GoesOn (past_comments false)
    (feed g.R.Source.left g.R.Source.failed g.R.Source.pulls c.args.buffer.now c.args.r.now)
    (past_comments i) (feed g.R.Source.left g.R.Source.failed g.R.Source.pulls c.loop-b.buffer
    c.loop-b.r)) c.if-inside.false c.loop-b.invariant in
    goes_byte (past_comments false) (past_comments false) (past_comments true) _ _
    (feed g.R.Source.left g.R.Source.failed g.R.Source.pulls c.next.new.self c.next.new.r)
    c.in_ok-b.field-0 c.in-Some.b outside c.in_ok-b.ensures.steps c.in-Some.is
    (comment_begins c.in-Some.b c.if-b-eq99.true)

pub returns-else-b-eq99 : goal.returns-else-b-eq99
returns-else-b-eq99 g c =
    let before = feed g.R.Source.left g.R.Source.failed g.R.Source.pulls c.args.buffer.now
    c.args.r.now in
    let now = feed g.R.Source.left g.R.Source.failed g.R.Source.pulls c.loop-b.buffer c.loop-b.r in
    let outside = subst (λ i. GoesOn (past_comments false) before (past_comments i) now)
    c.if-inside.false c.loop-b.invariant in
    let mid = feed g.R.Source.left g.R.Source.failed g.R.Source.pulls c.next.new.self
    c.next.new.r in
    let after = feed g.R.Source.left g.R.Source.failed g.R.Source.pulls c.read_after.new.buffer
    c.read_after.new.r in
    let b = c.in-Some.b in
    let claim = claim_by c.in_ok-claim.claim in
    let justice = c.args.justice in
    let next = parse_next_claim justice in
    let begun = goes_byte next (next_from justice false) (λ bs. next_from justice false (b ∷ bs)) _ _
    mid c.in_ok-b.field-0 b (goes_next justice false before now outside) c.in_ok-b.ensures.steps
    c.in-Some.is (λ bs. refl) in
    goes_done next (Some claim) _ after
    (goes_call next (λ bs. parse_claim justice (b ∷ bs)) (λ bs. next_from justice false (b ∷ bs))
    (λ bs. Some (Some claim, bs)) _ mid after claim begun c.in_ok-claim.ensures
    (witness_found justice b c.if-b-eq99.false claim))

pub returns-in_err-claim : goal.returns-in_err-claim
returns-in_err-claim g c =
    let p = err_from_is_err_and c.from_residual-in_err-claim.result
    c.from_residual-in_err-claim.ensures.1 in
    let before = feed g.R.Source.left g.R.Source.failed g.R.Source.pulls c.args.buffer.now
    c.args.r.now in
    let outside = subst (λ i. GoesOn (past_comments false) before (past_comments i)
    (feed g.R.Source.left g.R.Source.failed g.R.Source.pulls c.loop-b.buffer c.loop-b.r))
    c.if-inside.false c.loop-b.invariant in
    let mid = feed g.R.Source.left g.R.Source.failed g.R.Source.pulls c.next.new.self
    c.next.new.r in
    let b = c.in-Some.b in
    let begun = goes_byte (past_comments false) (past_comments false) (λ bs. Some (tt, b ∷ bs)) _ _
    mid c.in_ok-b.field-0 b outside c.in_ok-b.ensures.steps c.in-Some.is
    (comments_end b c.if-b-eq99.false) in
    rw (p.1, p.2) (tells-weaker (witness_cause c.in_err-claim.field-0.0) _ _ _
    (fault_next c.args.justice c.in_err-claim.field-0.0 b before mid begun) c.in_err-claim.ensures)

pub returns : goal.returns
returns g c =
    nothing_left c.args.justice c.loop-b.inside _ _ (feed g.R.Source.left g.R.Source.failed g.R.Source.pulls
    c.next.new.self c.next.new.r) c.in_ok-b.field-0 c.loop-b.invariant c.in_ok-b.ensures.steps
    c.in_default.is
