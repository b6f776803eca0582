use Rattle.aig_base.proofs.Words.{◌∙◌, ◌+◌, ◌-◌, ◌∷◌, ◌++◌, [], ◌≤◌, ℕ, None, length, refl, ap, subst, arith, err_from_is_err_and}
use Rattle.std.proofs.lemmas.List.{length-append}
use Rattle.aig_format.specs.Parse.{header_from, parse_header_numbers, parse_number}
use Rattle.aig_lexer.specs.Takes.{feed, Takes, Misses}
use Rattle.aig_lexer.proofs.Going.{goes_start, goes_call, goes_done, goes_wrong, goes_nowhere, goes_same}
use Rattle.aig_lexer.proofs.HeaderNumbers.{numbers_following, numbers_start, numbers_too_many, numbers_stop, numbers_go, numbers_give, numbers_break, numbers_set, header_from-set}
use Rattle.aig_lexer.proofs.Taking.{misses_where}
use Rattle.aig_lexer.specs.Faults.{word_cause}
use Rattle.aig_lexer.proofs.Faults.{tells-weaker}
use Rattle.aig_lexer.proofs.header.header_numbers.Goals as goal
use Rattle.aig_lexer.proofs.header.header_numbers.Goals.{else-end-eq10-via-then-end-eq10+else-i-ge-FEWEST, else-end-eq10-via-else-end-eq10}

pub loop-i-init : goal.loop-i-init
loop-i-init g c = record {
  written = [];
  count = refl;
  filled = refl;
  goes_on = goes_same parse_header_numbers parse_header_numbers (numbers_following [] 9) _ (feed g.R.Source.left g.R.Source.failed g.R.Source.pulls c.args.buffer.now c.args.r.now) (goes_start parse_header_numbers _) numbers_start;
}

pub returns-in_err-value : goal.returns-in_err-value
returns-in_err-value g c =
    let p = err_from_is_err_and c.from_residual.result c.from_residual.ensures.1 in
    let h = c.loop-i.invariant in
    let now = feed g.R.Source.left g.R.Source.failed g.R.Source.pulls c.loop-i.buffer c.loop-i.r in
    rw (p.1, p.2) (tells-weaker (word_cause c.in_err-value.field-0.0) _ _ _
    (λ (m : Misses parse_number now). goes_wrong parse_header_numbers (numbers_following h.written (9 - c.loop-i.i)) _ now h.goes_on (misses_where parse_number (numbers_following h.written (9 - c.loop-i.i)) now m (numbers_stop h.written c.loop-i.i c.loop-i-test.true)))
    c.in_err-value.ensures)

pub returns-then-i-ge-FEWEST : goal.returns-then-i-ge-FEWEST
returns-then-i-ge-FEWEST g c =
    let h = c.loop-i.invariant in
    let more = length-append h.written (c.in_ok-value.value ∷ []) in
    let long : 5 ≤ length (h.written ++ c.in_ok-value.value ∷ []) = omega (arith, more, h.count) in
    let taken = rw c.if-end-eq10.true at c.in_ok-value.ensures in
    subst (Takes parse_header_numbers (feed g.R.Source.left g.R.Source.failed g.R.Source.pulls c.args.buffer.now c.args.r.now) _)
    (header_from-set c.loop-i.numbers h.written c.loop-i.i c.in_ok-value.value c.loop-i-test.true h.count h.filled)
    (goes_done parse_header_numbers (header_from (h.written ++ c.in_ok-value.value ∷ [])) _ _
    (goes_call parse_header_numbers parse_number (numbers_following h.written (9 - c.loop-i.i)) _ _ (feed g.R.Source.left g.R.Source.failed g.R.Source.pulls c.loop-i.buffer c.loop-i.r) _ (c.in_ok-value.value, 10) h.goes_on taken
    (λ bs rest e. numbers_give h.written c.loop-i.i c.loop-i-test.true c.in_ok-value.value bs rest e long)))

pub loop-i-preserved : goal.loop-i-preserved
loop-i-preserved g c =
    let h = c.loop-i.invariant in
    record {
      written = h.written ++ c.in_ok-value.value ∷ [];
      count = length-append h.written (c.in_ok-value.value ∷ []) ∙ ap (λ (n : ℕ). n + 1) h.count;
      filled = numbers_set c.loop-i.numbers h.written c.loop-i.i c.in_ok-value.value c.loop-i-test.true h.count h.filled;
      goes_on = goes_call parse_header_numbers parse_number (numbers_following h.written (9 - c.loop-i.i)) (numbers_following (h.written ++ c.in_ok-value.value ∷ []) (9 - (c.loop-i.i + 1))) _ (feed g.R.Source.left g.R.Source.failed g.R.Source.pulls c.loop-i.buffer c.loop-i.r) _ (c.in_ok-value.value, 32) h.goes_on
          (rw c.if-end-ne32.false at c.in_ok-value.ensures) (numbers_go h.written c.loop-i.i c.loop-i-test.true c.in_ok-value.value);
    }

pub returns-after-loop-i : goal.returns-after-loop-i
returns-after-loop-i g c =
    let h = c.loop-i.invariant in
    goes_nowhere parse_header_numbers _ (feed g.R.Source.left g.R.Source.failed g.R.Source.pulls c.loop-i.buffer c.loop-i.r)
    (goes_same parse_header_numbers (numbers_following h.written (9 - c.loop-i.i)) (λ bs. None) _ (feed g.R.Source.left g.R.Source.failed g.R.Source.pulls c.loop-i.buffer c.loop-i.r) h.goes_on (numbers_too_many h.written c.loop-i.i (omega arith)))

pub returns-then-end-ne32 : goal.returns-then-end-ne32
returns-then-end-ne32 g c =
    let h = c.loop-i.invariant in
    let more = length-append h.written (c.in_ok-value.value ∷ []) in
    goes_nowhere parse_header_numbers _ _
    (goes_call parse_header_numbers parse_number (numbers_following h.written (9 - c.loop-i.i)) (λ bs. None) _ (feed g.R.Source.left g.R.Source.failed g.R.Source.pulls c.loop-i.buffer c.loop-i.r) _ (c.in_ok-value.value, c.in_ok-value.end) h.goes_on c.in_ok-value.ensures
    (numbers_break h.written c.loop-i.i c.loop-i-test.true c.in_ok-value.value c.in_ok-value.end
    (λ feed. elim c.else-end-eq10.branch [ else-end-eq10-via-then-end-eq10+else-i-ge-FEWEST w ↦ omega (arith, more, h.count) | else-end-eq10-via-else-end-eq10 w ↦ absurd (w.if-end-eq10.false feed) ]) c.if-end-ne32.true))
