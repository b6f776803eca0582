use Rattle.aig_base.proofs.Words.{◌≡◌, Bool, List, length, map, subst, sym, ◌∙◌, take_at}
use Rattle.aig_circuit.specs.declared.edge.AigEdge.{AigEdge}
use Rattle.aig_circuit.proofs.Words.{IsMarked}
use Rattle.aig_circuit.specs.Reach.{IsFanin, IsReached, MarksExactly}
use Rattle.aig_cone.proofs.Marking.{none_marked}
use Rattle.aig_cone.proofs.cone.fanin_logic_cone.Goals as goal

pub mark_cone-requires : goal.mark_cone-requires
mark_cone-requires c = record {
  sound = c.requires.sound;
  there = c.requires.there;
  lengths = c.deref_mut.ensures.len ∙ c.in_ok-marks.ensures.len;
  unmarked = λ n m. none_marked (length c.args.nodes.now) n (subst (λ marks. IsMarked marks n) (c.deref_mut.ensures.value ∙ c.in_ok-marks.ensures.items_if_clones_equal (λ y e. e)) m);
}

pub returns : goal.returns
returns c =
    let nodes = c.args.nodes.now in
    let roots = map (λ (e : AigEdge). e.node_id) c.args.logic.now in
    let same : length c.mark_cone.new.marks ≡ c.in_ok-marks.marks.len = c.mark_cone.auto.marks ∙ c.deref_mut.ensures.len in
    subst (λ (marks : List Bool). MarksExactly nodes (IsReached (IsFanin nodes) roots) marks) (sym (take_at c.mark_cone.new.marks _ c.in_ok-marks.marks.len same))
    (record { count = same ∙ c.in_ok-marks.ensures.len; exactly = λ n h. c.mark_cone.ensures n })
