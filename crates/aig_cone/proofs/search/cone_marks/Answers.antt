use Rattle.aig_base.proofs.Words.{◌≡◌, ◌↔◌, ℕ, Bool, List, length, subst, sym, ap, ◌∙◌, take_at}
use Rattle.aig_circuit.specs.declared.node.AigNode.{AigNode}
use Rattle.aig_circuit.proofs.Words.{IsMarked, IsInCone}
use Rattle.aig_cone.proofs.Marking.{none_marked}
use Rattle.aig_cone.proofs.search.cone_marks.Goals as goal

pub mark_cone-requires : goal.mark_cone-requires
mark_cone-requires c = record {
  circuit = c.nodes.ensures.circuit;
  table = rw c.deref.ensures.value c.in_ok-next_states.ensures;
  there = c.requires.there;
  lengths = c.deref_mut.ensures.len ∙ c.in_ok-marks.ensures.len ∙ ap (λ (nodes : List AigNode). length nodes) c.nodes.ensures.value;
  unmarked = λ n m. none_marked (length c.nodes.result.now) n (subst (λ marks. IsMarked marks n) (c.deref_mut.ensures.value ∙ c.in_ok-marks.ensures.items_if_clones_equal (λ y e. e)) m);
}

pub returns : goal.returns
returns c =
    let same : length c.mark_cone.new.marks ≡ c.in_ok-marks.marks.len = c.mark_cone.auto.marks ∙ c.deref_mut.ensures.len in
    subst (λ (marks : List Bool). (n : ℕ) → IsMarked marks n ↔ IsInCone c.args.circuit.now c.args.roots.now n) (sym (take_at c.mark_cone.new.marks _ c.in_ok-marks.marks.len same)) c.in_ok-mark_cone.ensures
