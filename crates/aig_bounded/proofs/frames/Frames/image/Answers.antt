use Rattle.std.proofs.Common.{None, Some, ap, ap₂, get_or, subst, sym, ◌∙◌}
use Rattle.aig_bounded.specs.Exact.{leaf_image}
use Rattle.aig_bounded.specs.Shared.{made_in, shared_and}
use Rattle.aig_bounded.proofs.Exactly.{image_of_kind, opened}
use Rattle.aig_circuit.specs.declared.node.AigNodeType.TheVariants.{And, False, Leaf}
use Rattle.aig_circuit.specs.declared.edge.AigEdge.{AigEdge}
use Rattle.aig_bounded.specs.Frames.{AddsUpTo, Shows, net_of}
use Rattle.aig_bounded.proofs.Counted.{one_more}
use Rattle.aig_bounded.proofs.Stepped.{if_ok, if_some_at, kind_read, makes_false, makes_gate, makes_open, makes_state}
use Rattle.aig_bounded.proofs.frames.Frames.image.Goals as goal

pub returns-in-False-clause-makes : goal.returns-in-False-clause-makes
returns-in-False-clause-makes c =
    let is = kind_read c.args.circuit.now.nodes c.nodes.result.now c.args.id _ False c.typ.result.now c.requires.there c.nodes.ensures.value c.typ.ensures c.in-False.is in
    makes_false c.args.circuit.now c.args.step c.args.id c.args.self.now c.constant.result c.requires.frames is c.constant.ensures

pub returns-in-Some-clause-makes : goal.returns-in-Some-clause-makes
returns-in-Some-clause-makes c =
    let is = kind_read c.args.circuit.now.nodes c.nodes.result.now c.args.id _ Leaf c.typ.result.now c.requires.there c.nodes.ensures.value c.typ.ensures c.in-Leaf.is in
    makes_state c.args.circuit.now c.args.step c.args.id c.args.self.now c.in-Some.state c.requires.frames is
    (if_some_at _ c.in-Some.state (λ (e : AigEdge). Shows c.args.circuit.now c.args.step c.args.self.now e (λ run. run c.args.step c.args.id)) c.in-Some.is c.requires.known)

pub returns-in-None-clause-makes : goal.returns-in-None-clause-makes
returns-in-None-clause-makes c =
    let is = kind_read c.args.circuit.now.nodes c.nodes.result.now c.args.id _ Leaf c.typ.result.now c.requires.there c.nodes.ensures.value c.typ.ensures c.in-Leaf.is in
    if_ok c.open.result _ _
    (λ e opens. makes_open c.args.circuit.now c.args.step c.args.id c.args.self.now c.open.new.self e c.requires.frames is (c.requires.free is c.in-None.is) opens)
    c.open.ensures.opens

pub returns-in-And-clause-makes : goal.returns-in-And-clause-makes
returns-in-And-clause-makes c =
    let a = c.in-And.fanin0 in
    let b = c.in-And.fanin1 in
    let is = kind_read c.args.circuit.now.nodes c.nodes.result.now c.args.id _ (And a b) c.typ.result.now c.requires.there c.nodes.ensures.value c.typ.ensures c.in-And.is in
    if_ok c.and.result _ _
    (λ e. makes_gate c.args.circuit.now c.args.step c.args.id c.args.self.now c.and.new.self c.args.images.now a b c.image_of-first.result c.image_of-second.result e c.nodes.ensures.circuit c.requires.frames is c.requires.operands c.image_of-first.ensures c.image_of-second.ensures)
    c.and.ensures.gives

pub returns-in-None-clause-size : goal.returns-in-None-clause-size
returns-in-None-clause-size c =
    let is = kind_read c.args.circuit.now.nodes c.nodes.result.now c.args.id _ Leaf c.typ.result.now c.requires.there c.nodes.ensures.value c.typ.ensures c.in-Leaf.is in
    let one = one_more c.args.circuit.now.nodes c.args.id Leaf c.nodes.ensures.circuit.nodes is (λ e. cc) in
    subst (λ n. AddsUpTo n c.args.self.now c.open.new.self c.open.result) (sym one) c.open.ensures.size

pub returns-in-And-clause-size : goal.returns-in-And-clause-size
returns-in-And-clause-size c =
    let kind = And c.in-And.fanin0 c.in-And.fanin1 in
    let is = kind_read c.args.circuit.now.nodes c.nodes.result.now c.args.id _ kind c.typ.result.now c.requires.there c.nodes.ensures.value c.typ.ensures c.in-And.is in
    let one = one_more c.args.circuit.now.nodes c.args.id kind c.nodes.ensures.circuit.nodes is (λ e. cc) in
    subst (λ n. AddsUpTo n c.args.self.now c.and.new.self c.and.result) (sym one) c.and.ensures.size

pub returns-in-False-clause-exact : goal.returns-in-False-clause-exact
returns-in-False-clause-exact c =
    let is = kind_read c.args.circuit.now.nodes c.nodes.result.now c.args.id _ False c.typ.result.now c.requires.there c.nodes.ensures.value c.typ.ensures c.in-False.is in
    image_of_kind c.args.self.now c.args.self.now c.args.circuit.now c.args.step c.args.id (get_or c.args.states.now c.args.id None) c.args.images.now (Some False) c.constant.result is (ap (made_in (net_of c.args.self.now)) c.constant.ensures)

pub returns-in-Some-clause-exact : goal.returns-in-Some-clause-exact
returns-in-Some-clause-exact c =
    let is = kind_read c.args.circuit.now.nodes c.nodes.result.now c.args.id _ Leaf c.typ.result.now c.requires.there c.nodes.ensures.value c.typ.ensures c.in-Leaf.is in
    image_of_kind c.args.self.now c.args.self.now c.args.circuit.now c.args.step c.args.id (get_or c.args.states.now c.args.id None) c.args.images.now (Some Leaf) c.in-Some.state is
    (sym (ap (λ s. leaf_image s (record { step = c.args.step; leaf = c.args.id }) (net_of c.args.self.now)) c.in-Some.is))

pub returns-in-None-clause-exact : goal.returns-in-None-clause-exact
returns-in-None-clause-exact c =
    let is = kind_read c.args.circuit.now.nodes c.nodes.result.now c.args.id _ Leaf c.typ.result.now c.requires.there c.nodes.ensures.value c.typ.ensures c.in-Leaf.is in
    if_ok c.open.result _ _
    (λ e opens. image_of_kind c.args.self.now c.open.new.self c.args.circuit.now c.args.step c.args.id (get_or c.args.states.now c.args.id None) c.args.images.now (Some Leaf) e is
    (opened c.args.self.now c.open.new.self (record { step = c.args.step; leaf = c.args.id }) e opens
    ∙ sym (ap (λ s. leaf_image s (record { step = c.args.step; leaf = c.args.id }) (net_of c.args.self.now)) c.in-None.is)))
    c.open.ensures.opens

pub returns-in-And-clause-exact : goal.returns-in-And-clause-exact
returns-in-And-clause-exact c =
    let a = c.in-And.fanin0 in
    let b = c.in-And.fanin1 in
    let is = kind_read c.args.circuit.now.nodes c.nodes.result.now c.args.id _ (And a b) c.typ.result.now c.requires.there c.nodes.ensures.value c.typ.ensures c.in-And.is in
    if_ok c.and.result _ _
    (λ e exact. image_of_kind c.args.self.now c.and.new.self c.args.circuit.now c.args.step c.args.id (get_or c.args.states.now c.args.id None) c.args.images.now (Some (And a b)) e is
    (exact ∙ ap₂ (shared_and (net_of c.args.self.now)) c.image_of-first.ensures c.image_of-second.ensures))
    c.and.ensures.exact
