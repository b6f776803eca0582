use Rattle.std.proofs.Common.{◌≤◌, ◌-◌, decimal, length, arith}
use Rattle.aig_base.proofs.Words.{length-decimal-le, length-set}
use Rattle.aig_dimacs.proofs.gate.put_number.Goals as goal

pub write_digits-requires : goal.write_digits-requires
write_digits-requires c =
    let digits : length (decimal c.args.n) ≤ 20 = length-decimal-le 20 c.args.n (omega arith) (omega arith) c.ranges.n.fits in
    (omega arith, omega (arith, length-set c.args.text.now (c.args.end - 1) 32))

pub returns-clause-short : goal.returns-clause-short
returns-clause-short c =
    let digits : length (decimal c.args.n) ≤ 20 = length-decimal-le 20 c.args.n (omega arith) (omega arith) c.ranges.n.fits in
    omega (arith, c.write_digits.ensures.start)
