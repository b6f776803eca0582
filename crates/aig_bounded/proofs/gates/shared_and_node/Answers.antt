use Rattle.std.proofs.Common.{◌≡◌, Some, None, length, cond, sym, ap, ◌∙◌, arith}
use Rattle.std.specs.HashMap.{get}
use Rattle.aig_circuit.specs.Node.{and_of}
use Rattle.aig_bounded.specs.Gates.{are_same, operand_literals}
use Rattle.aig_bounded.specs.Shared.{made_in}
use Rattle.aig_bounded.proofs.Sharing.{gives_found, more, net_with, ruled, shared}
use Rattle.aig_bounded.proofs.gates.shared_and_node.Goals as goal

pub returns-in-Some-clause-exact : goal.returns-in-Some-clause-exact
returns-in-Some-clause-exact c = λ inputs places.
    let gates = c.args.gates.now in
    let a = c.args.fanin0 in
    let b = c.args.fanin1 in
    let look : get are_same gates (operand_literals (and_of a b)) ≡ Some c.in-Some.n = ap (get are_same gates) (sym c.key_of-key.ensures) ∙ sym c.get.ensures.value ∙ sym c.copied.ensures ∙ c.in-Some.is in
    ap (made_in (net_with c.args.nodes.now.items inputs places)) c.from.ensures ∙ shared c.args.nodes.now.items gates c.requires.gates a b c.in-Some.n look inputs places

pub returns-in-Some-clause-gives : goal.returns-in-Some-clause-gives
returns-in-Some-clause-gives c =
    let gates = c.args.gates.now in
    let a = c.args.fanin0 in
    let b = c.args.fanin1 in
    let look : get are_same gates (operand_literals (and_of a b)) ≡ Some c.in-Some.n = ap (get are_same gates) (sym c.key_of-key.ensures) ∙ sym c.get.ensures.value ∙ sym c.copied.ensures ∙ c.in-Some.is in
    rw c.from.ensures (gives_found c.args.nodes.now.items gates c.requires.gates a b c.in-Some.n look)

pub returns-clause-exact : goal.returns-clause-exact
returns-clause-exact c = λ inputs places.
    let gates = c.args.gates.now in
    let a = c.args.fanin0 in
    let b = c.args.fanin1 in
    let look : get are_same gates (operand_literals (and_of a b)) ≡ None = ap (get are_same gates) (sym c.key_of-key.ensures) ∙ sym c.get.ensures.value ∙ sym c.copied.ensures ∙ c.in_default.is in
    ruled c.args.nodes.now.items gates c.requires.gates c.new_and_node.new.nodes.items a b c.in_ok-edge.edge look c.in_ok-edge.ensures.rule inputs places

pub returns-clause-gates : goal.returns-clause-gates
returns-clause-gates c =
    let gates = c.args.gates.now in
    let a = c.args.fanin0 in
    let b = c.args.fanin1 in
    let old = c.args.nodes.now.items in
    let look : get are_same gates (operand_literals (and_of a b)) ≡ None = ap (get are_same gates) (sym c.key_of-key.ensures) ∙ sym c.get.ensures.value ∙ sym c.copied.ensures ∙ c.in_default.is in
    let count : c.len-before.result ≡ length old = omega arith in
    let step = c.in_ok-insert.ensures.updates.0 in
    more old gates c.requires.gates c.new_and_node.new.nodes.items c.insert.new.self a b c.in_ok-edge.edge look c.in_ok-edge.ensures.rule c.in_ok-edge.ensures.gates.grows
    (λ same. absurd (omega (arith, same, c.if-len-before.false)))
    (λ q. step q ∙ ap (λ k. cond (are_same k q) (Some c.len-before.result) (get are_same gates q)) c.key_of-key.ensures ∙ ap (λ n. cond (are_same (operand_literals (and_of a b)) q) (Some n) (get are_same gates q)) count)
