use Rattle.aig_base.proofs.Words.{◌-◌, drop, arith, ◌∙◌, take-take}
use Rattle.aig_writer.proofs.line.write_line.Goals as goal

pub returns : goal.returns
returns g c =
    let start = c.put_line-start.result in
    rw (take-take (64 - start) (96 - start) (drop start c.put_line-start.new.text) (omega arith) ∙ c.put_line-start.ensures.line) at c.write_front.ensures
