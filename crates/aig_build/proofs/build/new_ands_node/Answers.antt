use Rattle.aig_base.proofs.Words.{false, true, length, take, get_or, refl, sym, ap, subst, ◌∙◌, arith, ◌≡◌, take_all, take_more}
use Rattle.aig_circuit.specs.declared.edge.AigEdge.{AigEdge}
use Rattle.aig_circuit.proofs.Words.{edge_to, AddsGates, FoldsOrAdds, FoldsOrAddsAll, JoinsByAnd}
use Rattle.aig_circuit.proofs.Building.{AddsGates-itself}
use Rattle.aig_circuit.proofs.Joining.{AndSoFar-none, AndSoFar-push, joins_from_left_push, adds_none-true}
use Rattle.aig_build.proofs.Joined.{cut_back, still_there}
use Rattle.aig_build.proofs.build.new_ands_node.Goals as goal

pub loop-fanin-init : goal.loop-fanin-init
loop-fanin-init c = record {
  joined = rw c.constant-all.ensures (AndSoFar-none c.args.nodes.now.items c.requires.sound);
  rule = (refl, c.constant-all.ensures);
}

pub loop-fanin-preserved : goal.loop-fanin-preserved
loop-fanin-preserved c =
    let d = edge_to 0 false in
    let before = c.loop-fanin.nodes.items in
    let after = c.new_and_node.new.nodes.items in
    let f = get_or c.args.fanins.now c.loop-fanin.fanin-index d in
    let so_far = c.loop-fanin.invariant.joined in
    let more = take_more c.args.fanins.now c.loop-fanin.fanin-index d c.loop-fanin-test.true in
    record {
      joined = rw more
          (AndSoFar-push c.args.nodes.now.items before after (take c.loop-fanin.fanin-index c.args.fanins.now) c.loop-fanin.all f c.in-Ok.e c.requires.sound so_far (c.requires.edges c.loop-fanin.fanin-index d c.loop-fanin-test.true) c.in-Ok.ensures.gates c.in-Ok.ensures.gives
          (λ h. adds_none-true before after f c.in-Ok.e (subst (λ (a : AigEdge). FoldsOrAdds before after a f c.in-Ok.e) (so_far.joins.none h).0 c.in-Ok.ensures.rule)));
      rule = rw more
          (joins_from_left_push FoldsOrAdds c.args.nodes.now.items (edge_to 0 true) (take c.loop-fanin.fanin-index c.args.fanins.now) before after c.loop-fanin.all f c.in-Ok.e c.loop-fanin.invariant.rule c.in-Ok.ensures.rule);
    }

pub new_and_node-requires-clause-sound : goal.new_and_node-requires-clause-sound
new_and_node-requires-clause-sound c = c.loop-fanin.invariant.joined.gates.grows.sound

pub new_and_node-requires-clause-first : goal.new_and_node-requires-clause-first
new_and_node-requires-clause-first c = c.loop-fanin.invariant.joined.joins.gives.there

pub new_and_node-requires-clause-second : goal.new_and_node-requires-clause-second
new_and_node-requires-clause-second c =
    still_there c.args.nodes.now.items c.loop-fanin.nodes.items (get_or c.args.fanins.now c.loop-fanin.fanin-index (edge_to 0 false)) c.loop-fanin.invariant.joined.gates.grows (c.requires.edges c.loop-fanin.fanin-index (edge_to 0 false) c.loop-fanin-test.true)

-- what stands after a refusal
refused : (c : goal.After-truncate) → c.truncate.new.self.items ≡ c.args.nodes.now.items
refused c =
    let before : c.len-before.result ≡ length c.args.nodes.now.items = omega arith in
    cut_back c.args.nodes.now.items c.loop-fanin.nodes.items c.truncate.new.self.items c.len-before.result c.loop-fanin.invariant.joined.gates.grows before (c.truncate.ensures.items ∙ ap (take c.len-before.result) c.in-Err.ensures.err)

pub returns-in-Err-clause-err : goal.returns-in-Err-clause-err
returns-in-Err-clause-err c = refused c

pub returns-in-Err-clause-gates : goal.returns-in-Err-clause-gates
returns-in-Err-clause-gates c = subst (AddsGates c.args.nodes.now.items) (sym (refused c)) (AddsGates-itself c.args.nodes.now.items c.requires.sound)

pub returns-clause-rule : goal.returns-clause-rule
returns-clause-rule c =
    let whole = take_all c.loop-fanin.fanin-index c.args.fanins.now c.loop-fanin-test.false in
    subst (λ l. FoldsOrAddsAll c.args.nodes.now.items l c.loop-fanin.nodes.items c.loop-fanin.all) whole c.loop-fanin.invariant.rule

pub returns-clause-joins : goal.returns-clause-joins
returns-clause-joins c =
    let whole = take_all c.loop-fanin.fanin-index c.args.fanins.now c.loop-fanin-test.false in
    subst (λ l. JoinsByAnd c.args.nodes.now.items c.loop-fanin.nodes.items l c.loop-fanin.all) whole c.loop-fanin.invariant.joined.joins

pub returns-clause-gates : goal.returns-clause-gates
returns-clause-gates c = c.loop-fanin.invariant.joined.gates
