use Rattle.std.proofs.Common.{◌≡◌, ◌+◌, ◌-◌, ◌<◌, ◌≤◌, decimal, length, drop, get_or, rules, arith}
use Rattle.aig_base.proofs.Words.{length-decimal-le, drop_more}
use Rattle.aig_writer.proofs.Lines.{Built-start, Built-turn, Built-line, feed_after, feed_before}
use Rattle.aig_writer.proofs.line.put_line.Goals as goal

pub loop-left-init : goal.loop-left-init
loop-left-init c = record {
  fewer = omega arith;
  room = omega arith;
  within = omega arith;
  size = search rules;
  built = Built-start _ c.args.numbers.now c.args.end _ (omega arith) (feed_after _ c.args.end (omega arith) (omega arith) c.requires.after) (feed_before _ c.args.end c.requires.blank);
}

pub write_digits-start-requires : goal.write_digits-start-requires
write_digits-start-requires c =
    let n = get_or c.args.numbers.now (c.loop-left.left - 1) 0 in
    let fits = (c.type_inv.numbers (c.loop-left.left - 1)).fits in
    let digits : length (decimal n) ≤ 20 =
    length-decimal-le 20 n (omega arith) (omega arith) fits in
    (omega arith, omega arith)

pub loop-left-preserved : goal.loop-left-preserved
loop-left-preserved c =
    let numbers = c.args.numbers.now in
    let last = c.loop-left.left - 1 in
    let n = get_or numbers last 0 in
    let fits = (c.type_inv.numbers last).fits in
    let digits : length (decimal n) ≤ 20 =
    length-decimal-le 20 n (omega arith) (omega arith) fits in
    let size : length c.write_digits-start.new.buf ≡ c.args.end + 32 = search rules in
    let w = c.write_digits-start.ensures in
    let next : last + 1 ≡ c.loop-left.left = omega arith in
    record {
      fewer = omega arith;
      room = omega arith;
      within = omega arith;
      size = size;
      built = rw (drop_more numbers last 0 (omega arith), next)
          (Built-turn c.loop-left.text c.write_digits-start.new.buf c.loop-left.start
          c.write_digits-start.result n (drop c.loop-left.left numbers) c.loop-left.invariant.built
          (omega arith) (omega arith) w.start w.written w.before);
    }

pub returns-clause-line : goal.returns-clause-line
returns-clause-line c =
    let numbers = c.args.numbers.now in
    let start = c.loop-left.start in
    let none : c.loop-left.left ≡ 0 = omega arith in
    let some : 0 < start = omega arith in
    Built-line c.loop-left.text start c.args.end numbers (rw none at c.loop-left.invariant.built)
    c.requires.some some c.loop-left.invariant.within c.loop-left.invariant.size
