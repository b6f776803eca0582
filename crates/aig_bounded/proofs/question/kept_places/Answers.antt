use Rattle.aig_base.proofs.Words.{[], All-cons, All-nil}
use Rattle.aig_circuit.specs.Circuit.{IsInRange}
use Rattle.aig_bounded.proofs.Stepped.{if_ok}
use Rattle.aig_bounded.proofs.question.kept_places.Goals as goal

pub fanin_logic_cone-requires-clause-sound : goal.fanin_logic_cone-requires-clause-sound
fanin_logic_cone-requires-clause-sound c = rw c.deref.ensures.value c.requires.frames.2.shared.gates.sound

pub fanin_logic_cone-requires-clause-there : goal.fanin_logic_cone-requires-clause-there
fanin_logic_cone-requires-clause-there c =
    let nodes = c.args.frames.now.nodes.items in
    rw c.deref.ensures.value (All-cons (IsInRange nodes) c.args.output [] c.requires.there (All-nil (IsInRange nodes)))

pub returns : goal.returns
returns c =
    if_ok c.marked_places.result _ _
    (λ kept is. record {
      marks = c.in_ok-marks.marks.items;
      reached = rw c.deref.ensures.value at c.in_ok-marks.ensures;
      exact = rw (c.deref-2.ensures.value, c.deref-3.ensures.value, c.deref-4.ensures.value) at is;
    })
    c.marked_places.ensures
