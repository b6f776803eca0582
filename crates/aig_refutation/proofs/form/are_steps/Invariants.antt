use Rattle.aig_base.proofs.Words.{◌≡◌, drop}
use Rattle.aig_refutation.specs.Binary.{groups_in}
use Rattle.aig_refutation.specs.Forms.{Letter, are_steps}
use Rattle.aig_refutation.specs.Fronts.{said_part}
use Rattle.aig_refutation.proofs.Shapes.{left_words}
use Rattle.aig_refutation.proofs.form.are_steps.Given as goal

abbrev pub invariant-loop-byte : goal.invariant-loop-byte
invariant-loop-byte l =
    are_steps l.numbered (said_part l.part) (left_words l.goes_on (drop l.byte-index l.bytes))
    ≡ are_steps l.numbered Letter (groups_in l.bytes)
