use Rattle.aig_base.proofs.Words.{arith, ◌∙◌}
use Rattle.aig_steps.proofs.Kept.{end_is, ends_within, in_order, nodes_have, nodes_there}
use Rattle.aig_steps.proofs.unrolling.Unrolling.nodes_of.Goals as goal

pub offset_bounds-nodes-first : goal.offset_bounds-nodes-first
offset_bounds-nodes-first c =
    let inside = c.self.inside in
    let end = c.index.ensures ∙ end_is inside.circuit inside.unrolled inside.ends.items
    c.args.self.now c.self.invariant c.self.view_is c.args.step _ c.requires in
    omega (
      arith,
      c.nodes.type_inv.1,
      in_order inside.circuit inside.unrolled inside.ends.items
          c.args.self.now c.self.invariant c.self.view_is c.args.step c.first_node-first.result
          c.index.result.now c.requires c.first_node-first.ensures end c.nodes.result.now
          c.nodes.ensures.value,
      ends_within inside.circuit inside.unrolled inside.ends.items
          c.args.self.now c.self.invariant c.self.view_is c.args.step c.first_node-first.result
          c.index.result.now c.requires c.first_node-first.ensures end c.nodes.result.now
          c.nodes.ensures.value,
    )

pub slice_bounds-result-count : goal.slice_bounds-result-count
slice_bounds-result-count c =
    let inside = c.self.inside in
    let end = c.index.ensures ∙ end_is inside.circuit inside.unrolled inside.ends.items
    c.args.self.now c.self.invariant c.self.view_is c.args.step _ c.requires in
    in_order inside.circuit inside.unrolled inside.ends.items c.args.self.now c.self.invariant
    c.self.view_is c.args.step c.first_node-first.result c.index.result.now c.requires
    c.first_node-first.ensures end c.nodes.result.now c.nodes.ensures.value

pub returns-clause-nodes : goal.returns-clause-nodes
returns-clause-nodes c =
    let inside = c.self.inside in
    let end = c.index.ensures ∙ end_is inside.circuit inside.unrolled inside.ends.items
    c.args.self.now c.self.invariant c.self.view_is c.args.step _ c.requires in
    nodes_there inside.circuit inside.unrolled inside.ends.items c.args.self.now c.self.invariant
    c.self.view_is c.args.step c.first_node-first.result c.index.result.now c.requires
    c.first_node-first.ensures end c.nodes.result.now c.nodes.ensures.value

pub returns-clause-variables : goal.returns-clause-variables
returns-clause-variables c =
    let inside = c.self.inside in
    let end = c.index.ensures ∙ end_is inside.circuit inside.unrolled inside.ends.items
    c.args.self.now c.self.invariant c.self.view_is c.args.step _ c.requires in
    nodes_have inside.circuit inside.unrolled inside.ends.items c.args.self.now c.self.invariant
    c.self.view_is c.args.step c.first_node-first.result c.index.result.now c.requires
    c.first_node-first.ensures end c.nodes.result.now c.nodes.ensures.value

pub slice_bounds-result-start : goal.slice_bounds-result-start
slice_bounds-result-start c =
    let inside = c.self.inside in
    let end = c.index.ensures ∙ end_is inside.circuit inside.unrolled inside.ends.items
    c.args.self.now c.self.invariant c.self.view_is c.args.step _ c.requires in
    omega (
      arith,
      in_order inside.circuit inside.unrolled inside.ends.items c.args.self.now
          c.self.invariant c.self.view_is c.args.step c.first_node-first.result c.index.result.now
          c.requires c.first_node-first.ensures end c.nodes.result.now c.nodes.ensures.value,
      ends_within inside.circuit inside.unrolled inside.ends.items c.args.self.now
          c.self.invariant c.self.view_is c.args.step c.first_node-first.result c.index.result.now
          c.requires c.first_node-first.ensures end c.nodes.result.now c.nodes.ensures.value,
    )

pub slice_bounds-result-end : goal.slice_bounds-result-end
slice_bounds-result-end c =
    let inside = c.self.inside in
    let end = c.index.ensures ∙ end_is inside.circuit inside.unrolled inside.ends.items
    c.args.self.now c.self.invariant c.self.view_is c.args.step _ c.requires in
    omega (
      arith,
      in_order inside.circuit inside.unrolled inside.ends.items c.args.self.now
          c.self.invariant c.self.view_is c.args.step c.first_node-first.result c.index.result.now
          c.requires c.first_node-first.ensures end c.nodes.result.now c.nodes.ensures.value,
      ends_within inside.circuit inside.unrolled inside.ends.items c.args.self.now
          c.self.invariant c.self.view_is c.args.step c.first_node-first.result c.index.result.now
          c.requires c.first_node-first.ensures end c.nodes.result.now c.nodes.ensures.value,
    )
