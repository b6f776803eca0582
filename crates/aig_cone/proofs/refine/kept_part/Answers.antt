use Rattle.std.proofs.Common.{arith}
use Rattle.aig_cone.proofs.Keeping.{kept-few, kept-there}
use Rattle.aig_cone.proofs.refine.kept_part.Goals as goal

pub old_numbers-requires : goal.old_numbers-requires
old_numbers-requires c =
    let circuit = c.args.circuit.now in
    let kept = c.args.kept.now in
    record {
      few = λ k d h. omega (arith, c.requires.few, kept-there circuit kept c.requires.circuit c.requires.kept k d h);
      count = omega (arith, c.requires.few, kept-few circuit kept c.requires.circuit c.requires.kept);
    }

pub returns : goal.returns
returns c = (c.in_ok-lists.ensures, c.in_ok-old_numbers.ensures)
