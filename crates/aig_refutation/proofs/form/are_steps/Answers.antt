use Rattle.aig_base.proofs.Words.{◌+◌, nat_le, drop, sym, ap, ◌∙◌, option_map, slice_index_or}
use Rattle.aig_refutation.specs.Forms.{are_steps}
use Rattle.aig_refutation.specs.Fronts.{said_part}
use Rattle.aig_refutation.proofs.Shapes.{left_words, shape_all, shape_more, shape_refused, shape_stays}
use Rattle.aig_refutation.proofs.form.are_steps.Goals as goal
use Rattle.aig_refutation.proofs.form.are_steps.Goals.{then-not-goes_on+in-Some, else-not-goes_on}

pub returns-in_default : goal.returns-in_default
returns-in_default c =
    let i = c.loop-byte.byte-index in
    shape_refused c.args.numbered c.args.bytes.now i (said_part c.loop-byte.part)
    c.loop-byte.goes_on c.loop-byte.invariant c.loop-byte-test.true c.if-not-goes_on.true
    (sym c.after.ensures ∙ ap (option_map said_part) c.in_default.is)

pub loop-byte-preserved : goal.loop-byte-preserved
loop-byte-preserved c =
    let i = c.loop-byte.byte-index in
    let bytes = c.args.bytes.now in
    let byte = slice_index_or bytes i 0 in
    elim c.if-not-goes_on.branch [
      | then-not-goes_on+in-Some w ↦
          ap (λ p. are_steps c.args.numbered (said_part p) (left_words (nat_le 128 byte)
          (drop (i + 1) bytes))) w.part-is
          ∙ shape_more c.args.numbered bytes i (said_part c.loop-byte.part) c.loop-byte.goes_on
          c.loop-byte.invariant c.loop-byte-test.true w.if-not-goes_on.true
          (said_part w.in-Some.next)
          (sym w.after.ensures ∙ ap (option_map said_part) w.in-Some.is)
      | else-not-goes_on w ↦
          ap (λ p. are_steps c.args.numbered (said_part p) (left_words (nat_le 128 byte)
          (drop (i + 1) bytes))) w.part-is
          ∙ shape_stays c.args.numbered bytes i (said_part c.loop-byte.part) c.loop-byte.goes_on
          c.loop-byte.invariant c.loop-byte-test.true w.if-not-goes_on.false
    ]

pub returns : goal.returns
returns c =
    shape_all c.args.numbered c.args.bytes.now c.loop-byte.byte-index (said_part c.loop-byte.part)
    c.loop-byte.goes_on c.loop-byte.invariant c.loop-byte-test.false
