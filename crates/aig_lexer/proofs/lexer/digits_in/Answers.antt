use Rattle.std.proofs.Common.{◌+◌, ◌-◌, ◌*◌, ◌^◌, ◌≤◌, ℕ, List, Some, slice_index_or, arith}
use Rattle.aig_base.proofs.Words.{pow_more}
use Rattle.std.proofs.Math.Nat.{pow-le-pow_right}
use Rattle.aig_format.specs.Parse.{parse_digits}
use Rattle.aig_format.proofs.NumberReaders.{digits_go, digits_stop}
use Rattle.aig_lexer.proofs.Front.{reads_more, is_other_than_digit}
use Rattle.aig_lexer.proofs.lexer.digits_in.Goals as goal

small_power : (i k : ℕ) → i ≤ k → 10 ^ i ≤ 10 ^ k
small_power i k le = let some : 1 ≤ 10 = omega arith in pow-le-pow_right some le

pub returns-then-digit-gt9-clause-reads : goal.returns-then-digit-gt9-clause-reads
returns-then-digit-gt9-clause-reads c =
    let bytes = c.args.bytes.now in
    let i = c.loop-i.i in
    let value = c.loop-i.value in
    let b = slice_index_or bytes i 0 in
    reads_more (parse_digits c.args.first) (parse_digits value) (λ (bs : List ℕ). Some ((value, b), bs)) bytes i
    (omega arith) (c.loop-i.invariant.digits (omega arith))
    (digits_stop value b (is_other_than_digit b (c.digit_of-digit.ensures.other (omega arith))))

pub loop-i-preserved : goal.loop-i-preserved
loop-i-preserved c =
    let bytes = c.args.bytes.now in
    let i = c.loop-i.i in
    let value = c.loop-i.value in
    let b = slice_index_or bytes i 0 in
    let digit = c.digit_of-digit.ensures.digit (omega arith) in
    record {
      small = omega (arith, pow_more 10 (i + 1));
      digits = λ near.
          rw digit.1
          (reads_more (parse_digits c.args.first) (parse_digits value) (parse_digits (10 * value + (b - 48))) bytes i
          (omega arith) (c.loop-i.invariant.digits (omega arith))
          (digits_go value b digit.0.0 digit.0.1 (omega (arith, small_power (i + 1) 8 (omega arith)))));
    }
