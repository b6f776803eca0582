use Rattle.aig_witness_circuits.proofs.Words.{◌≡◌, ◌∙◌, ◌<◌, false, ap, arith, false≢true, get_or, length, sym, node_told}
use Rattle.aig_witness_circuits.proofs.Found.{at_within}
use Rattle.aig_witness_circuits.proofs.Saying.{one_leaf}
use Rattle.aig_witness_circuits.proofs.sharing.named.marked_node.Goals as goal
use Rattle.aig_witness_circuits.proofs.sharing.named.marked_node.Goals.{else-node-marks-via-then-node-marks+else-marks-node, else-node-marks-via-else-node-marks}

pub returns-in_default : goal.returns-in_default
returns-in_default c = λ m at is. c.in_default.ensures m is

pub returns-then-marks-node : goal.returns-then-marks-node
returns-then-marks-node c = (c.if-marks-node.true, c.in-Some.ensures)

pub returns-else-node-marks : goal.returns-else-node-marks
returns-else-node-marks c = λ m at is.
    let node = c.in-Some.node in
    let marks = c.args.marks.now in
    let same : node ≡ m =
    one_leaf (node_told c.args.variables.now) node m c.args.text.now c.in-Some.ensures is in
    let low : m < length marks = at_within marks m at in
    elim c.else-node-marks.branch [
      | else-node-marks-via-then-node-marks+else-marks-node w ↦
          false≢true
          (sym w.if-marks-node.false ∙ ap (λ n. get_or marks n false) same ∙ at)
      | else-node-marks-via-else-node-marks w ↦
          absurd (omega (arith, w.if-node-marks.false, same, low))
    ]
