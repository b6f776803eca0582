use Rattle.std.proofs.Common.{◌∙◌, ◌+◌, ◌-◌, ◌*◌, ◌%◌, ℕ, List, Some, slice_index_or, sym, ap, arith, rules}
use Rattle.aig_base.proofs.Words.{pow_more}
use Rattle.aig_format.specs.Parse.{parse_delta}
use Rattle.aig_lexer.proofs.Deltas.{groups_following, delta_starts, delta_gives, delta_goes, group_fits, near_fits}
use Rattle.aig_lexer.proofs.Front.{reads_more}
use Rattle.aig_lexer.proofs.lexer.delta_in.Goals as goal

pub loop-i-init : goal.loop-i-init
loop-i-init c = record { groups = delta_starts; small = omega arith; place = omega arith }

pub returns-then-b-lt128-clause-reads : goal.returns-then-b-lt128-clause-reads
returns-then-b-lt128-clause-reads c =
    let l = c.loop-i in
    let bytes = c.args.bytes.now in
    let b = slice_index_or bytes l.i 0 in
    let fits = group_fits l.difference l.place b l.invariant.small in
    let near = near_fits l.place l.i c.loop-i-test.true l.invariant.place in
    reads_more parse_delta (groups_following l.difference l.place (5 - l.i)) (λ (bs : List ℕ). Some (l.difference + l.place * (b % 128), bs)) bytes l.i (omega arith) l.invariant.groups
    (λ bs. delta_gives l.difference l.place l.i b bs (omega arith) c.if-b-lt128.true (omega (arith, fits, near)))

pub loop-i-preserved : goal.loop-i-preserved
loop-i-preserved c =
    let l = c.loop-i in
    let bytes = c.args.bytes.now in
    let b = slice_index_or bytes l.i 0 in
    record {
      groups = reads_more parse_delta (groups_following l.difference l.place (5 - l.i)) (groups_following (l.difference + l.place * (b % 128)) (l.place * 128) (5 - (l.i + 1))) bytes l.i (omega arith) l.invariant.groups
          (λ bs. delta_goes l.difference l.place l.i b bs (omega arith) (omega arith) (search rules));
      small = group_fits l.difference l.place b l.invariant.small;
      place = ap (λ (p : ℕ). p * 128) l.invariant.place ∙ sym (pow_more 128 l.i);
    }

pub overflow_mul-difference : goal.overflow_mul-difference
overflow_mul-difference c =
    let l = c.loop-i in
    omega (arith, group_fits l.difference l.place (slice_index_or c.args.bytes.now l.i 0) l.invariant.small, near_fits l.place l.i c.loop-i-test.true l.invariant.place)

pub overflow_add-difference : goal.overflow_add-difference
overflow_add-difference c =
    let l = c.loop-i in
    omega (arith, group_fits l.difference l.place (slice_index_or c.args.bytes.now l.i 0) l.invariant.small, near_fits l.place l.i c.loop-i-test.true l.invariant.place)

pub overflow_mul-place : goal.overflow_mul-place
overflow_mul-place c =
    let l = c.loop-i in
    omega (arith, near_fits l.place l.i c.loop-i-test.true l.invariant.place)
