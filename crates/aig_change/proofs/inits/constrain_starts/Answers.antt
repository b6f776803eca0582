use Rattle.std.proofs.Common.{List, ap, false, subst, take, ◌∙◌}
use Rattle.aig_circuit.specs.declared.node.AigNode.{AigNode}
use Rattle.aig_circuit.proofs.Words.{edge_to, AddsGates}
use Rattle.aig_circuit.proofs.Building.{Grows-then, take-Grows}
use Rattle.aig_change.specs.Inits.{Constrains}
use Rattle.aig_change.proofs.Grown.{IsLatch-grown}
use Rattle.aig_change.proofs.inits.constrain_starts.Goals as goal

pub constrain_all-requires-clause-sound : goal.constrain_all-requires-clause-sound
constrain_all-requires-clause-sound c = c.in_ok-leaf.ensures.grows.sound

pub constrain_all-requires-clause-latchs : goal.constrain_all-requires-clause-latchs
constrain_all-requires-clause-latchs c = λ k d h. IsLatch-grown c.args.nodes.now.items c.new_leaf_node.new.nodes.items _ c.in_ok-leaf.ensures.grows (c.requires.latchs k d h)

pub returns-in-Err : goal.returns-in-Err
returns-in-Err c =
    let nodes = c.constrain_all.new.nodes.items in
    let constraints = c.constrain_all.new.constraints.items in
    let grows = Grows-then c.args.nodes.now.items _ nodes c.in_ok-leaf.ensures.grows c.in-Err.ensures.gates.grows in
    record {
      leaf = tt;
      gates = tt;
      constrains = tt;
      err = (
        c.truncate.ensures.items ∙ ap (λ n. take n nodes) (c.len-count.ensures ∙ c.args.nodes.now.ok.0) ∙ take-Grows c.args.nodes.now.items nodes grows,
        c.truncate-in-Err.ensures.items ∙ ap (λ n. take n constraints) (c.len-before.ensures ∙ c.args.constraints.now.ok.0) ∙ c.in-Err.ensures.kept,
      );
    }

pub returns-in-Ok : goal.returns-in-Ok
returns-in-Ok c =
    let new = c.constrain_all.new.nodes.items in
    let before = c.args.constraints.now.items in
    let after = c.constrain_all.new.constraints.items in
    let constrains = subst (λ first. Constrains c.new_leaf_node.new.nodes.items new first c.args.latchs.now before after) c.from.ensures c.in-Ok.ensures.constrains in
    record {
      leaf = c.in_ok-leaf.ensures.number;
      gates = subst (λ (nodes : List AigNode). AddsGates nodes new) c.in_ok-leaf.ensures.ok c.in-Ok.ensures.gates;
      constrains = subst (λ (nodes : List AigNode). Constrains nodes new (edge_to c.in_ok-leaf.leaf false) c.args.latchs.now before after) c.in_ok-leaf.ensures.ok constrains;
      err = tt;
    }
