use Rattle.std.proofs.Common.{◌≡◌, ◌++◌, [], ◌∷◌, false, length, subst, sym, ap, ◌∙◌, arith}
use Rattle.aig_circuit.specs.declared.node.AigNode.{AigNode}
use Rattle.aig_circuit.proofs.Words.{edge_to, and_of, AddsGate, AddsGates}
use Rattle.aig_circuit.proofs.Building.{AddsGates-itself, AddsGates-with_node, GivesEdge-AddsGate}
use Rattle.aig_build.proofs.build.trivial_new_and_node.Goals as goal

-- the gate is added
adds : (c : goal.After-from)
    → AddsGate c.args.nodes.now.items c.push.new.self.items c.args.fanin0 c.args.fanin1
    c.from.result
adds c =
    let old = c.args.nodes.now.items in
    let id : c.len-id.result ≡ length old = omega arith in
    record {
      gate = c.in_ok-push.ensures.items ∙ ap (λ (node : AigNode). old ++ (node ∷ [])) c.gate_node.ensures ∙ ap (λ n. old ++ (record { node_id = n; typ = and_of c.args.fanin0 c.args.fanin1 } ∷ [])) id;
      edge = c.from.ensures ∙ ap (λ n. edge_to n false) id;
    }

pub returns-clause-ok : goal.returns-clause-ok
returns-clause-ok c = adds c

pub returns-clause-gives : goal.returns-clause-gives
returns-clause-gives c = GivesEdge-AddsGate _ _ _ _ _ c.requires.sound c.requires.first c.requires.second (adds c)

pub returns-clause-gates : goal.returns-clause-gates
returns-clause-gates c = subst (AddsGates c.args.nodes.now.items) (sym (adds c).gate) (AddsGates-with_node c.args.nodes.now.items c.args.fanin0 c.args.fanin1 c.requires.sound c.requires.first c.requires.second)

pub returns-in_err-push-clause-gates : goal.returns-in_err-push-clause-gates
returns-in_err-push-clause-gates c = subst (AddsGates c.args.nodes.now.items) (sym c.in_err-push.ensures.items) (AddsGates-itself c.args.nodes.now.items c.requires.sound)
