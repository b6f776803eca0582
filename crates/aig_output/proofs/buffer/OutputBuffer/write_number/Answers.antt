use Rattle.std.proofs.Common.{◌-◌, decimal, drop, refl, ◌∙◌, rules, arith}
use Rattle.aig_base.proofs.Words.{length-decimal-le, take-take}
use Rattle.aig_output.proofs.Fronts.{take-number}
use Rattle.aig_output.proofs.buffer.OutputBuffer.write_number.Goals as goal

pub write_digits-start-requires : goal.write_digits-start-requires
write_digits-start-requires g c = search (rules, length-decimal-le 20)

pub returns : goal.returns
returns g c =
    let w = c.write_digits-start.ensures in
    let start = c.write_digits-start.result in
    let rest = drop start c.write_digits-start.new.buf in
    rw (take-take (21 - start) (52 - start) rest (omega arith) ∙ take-number rest (decimal c.args.n) _ start c.args.end w.start w.written refl) at c.write_front.ensures
