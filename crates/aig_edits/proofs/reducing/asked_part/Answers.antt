use Rattle.aig_base.proofs.Words.{◌≡◌, rules, List, [], Vec, Global, ◌∙◌, ap, map, filter, nat_eq}
use Rattle.std.specs.HashSet.{contains}
use Rattle.std.proofs.lemmas.Fn.{filter_same}
use Rattle.std.proofs.lemmas.List.Elements.{filter_agree}
use Rattle.aig_edits.proofs.Sets.{contains-is_in}
use Rattle.aig_circuit.specs.declared.edge.AigEdge.{AigEdge}
use Rattle.aig_circuit.specs.declared.node.AigLatch.{AigLatch}
use Rattle.aig_circuit.proofs.Words.{Circuit, is_in, lists_circuit}
use Rattle.aig_edits.proofs.reducing.asked_part.Goals as goal

-- a circuit with these latches, outputs, justice and fairness
abbrev with_lists : Circuit → List AigLatch → List AigEdge → List (List AigEdge) → List AigEdge → Circuit
with_lists c latchs outputs justice fairness = record c {
  latchs = latchs;
  properties = record c.properties { outputs = outputs; justice = justice; fairness = fairness };
}

pub returns : goal.returns
returns c =
    let set = c.in_ok-cone.cone in
    let cone = set.keys in
    let test = λ (latch : AigLatch). is_in cone latch.input in
    let lists = lists_circuit c.in_ok-lists.lists in
    let left = filter_same _ (λ (latch : AigLatch). contains nat_eq set latch.input) _ (λ latch b f' k. search rules) lists.latchs c.retain.new.self.items c.retain.ensures.filtered
    ∙ filter_agree (λ (latch : AigLatch). contains nat_eq set latch.input) test (λ latch. contains-is_in set latch.input) lists.latchs in
    let sets = ap (map (λ (set : Vec AigEdge Global). set.items)) c.clear-2.ensures.items in
    let made : with_lists lists c.retain.new.self.items c.clear.new.self.items (map (λ (set : Vec AigEdge Global). set.items) c.clear-2.new.self.items) c.clear-3.new.self.items ≡ with_lists lists (filter test lists.latchs) [] [] [] =
    λ i. with_lists lists (left i) (c.clear.ensures.items i) (sets i) (c.clear-3.ensures.items i) in
    (c.in_ok-cone.ensures.0, (cone, c.in_ok-cone.ensures.1, made ∙ ap (λ (d : Circuit). with_lists d (filter test d.latchs) [] [] []) c.in_ok-lists.ensures.copy))
