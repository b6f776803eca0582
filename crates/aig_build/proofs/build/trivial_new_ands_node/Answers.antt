use Rattle.aig_base.proofs.Words.{◌≡◌, ℕ, suc, ◌+◌, ◌-◌, ◌≤◌, [], ◌∷◌, false, length, take, get_or, refl, sym, ap, subst, ◌∙◌, arith, length-append, All-head, All-tail, All-same}
use Rattle.std.proofs.lemmas.List.{nil_from_length, take_all, take_more}
use Rattle.aig_circuit.specs.declared.node.AigNode.{AigNode}
use Rattle.aig_circuit.proofs.Words.{edge_to, IsInRange, AddsGate, AddsGateForEach, AddsGates, JoinsByAnd, JoinsFromLeft}
use Rattle.aig_circuit.proofs.Building.{AddsGates-itself, Grows-longer}
use Rattle.aig_circuit.proofs.Joining.{AndSoFar-one, AndSoFar-push, JoinsByAnd-none, joins_from_left_push}
use Rattle.aig_build.proofs.Joined.{cut_back}
use Rattle.aig_build.proofs.build.trivial_new_ands_node.Goals as goal

-- one node for each edge after the first
one_each : (old new i rest all : ℕ) → new ≡ old + i → i ≤ rest → rest ≤ i → all ≡ suc rest
    → new ≡ old + (all - 1)
one_each old new i rest all count low high split = omega arith

pub returns-in_default-clause-joins : goal.returns-in_default-clause-joins
returns-in_default-clause-joins c =
    let none : c.args.fanins.now ≡ [] = nil_from_length c.args.fanins.now c.in_default.ensures.cases in
    rw (none, c.constant.ensures) (JoinsByAnd-none c.args.nodes.now.items c.requires.sound, omega arith)

pub loop-fanin-init : goal.loop-fanin-init
loop-fanin-init c =
    let there : IsInRange c.args.nodes.now.items c.in-Some.first.now = All-head (IsInRange c.args.nodes.now.items) c.in-Some.first.now c.in-Some.rest.now (All-same (IsInRange c.args.nodes.now.items) _ _ (sym c.in-Some.ensures.cases.0) c.requires.edges) in
    record { joined = AndSoFar-one c.args.nodes.now.items c.requires.sound c.in-Some.first.now there; rule = (refl, refl); count = omega arith }

pub trivial_new_and_node-requires-clause-second : goal.trivial_new_and_node-requires-clause-second
trivial_new_and_node-requires-clause-second c =
    let rest = All-tail (IsInRange c.args.nodes.now.items) c.in-Some.first.now c.in-Some.rest.now (All-same (IsInRange c.args.nodes.now.items) _ _ (sym c.in-Some.ensures.cases.0) c.requires.edges) in
    omega (arith, rest c.loop-fanin.fanin-index (edge_to 0 false) c.loop-fanin-test.true, Grows-longer _ _ c.loop-fanin.invariant.joined.gates.grows)

pub loop-fanin-preserved : goal.loop-fanin-preserved
loop-fanin-preserved c =
    let d = edge_to 0 false in
    let i = c.loop-fanin.fanin-index in
    let rest = All-tail (IsInRange c.args.nodes.now.items) c.in-Some.first.now c.in-Some.rest.now (All-same (IsInRange c.args.nodes.now.items) _ _ (sym c.in-Some.ensures.cases.0) c.requires.edges) in
    record {
      joined = rw (take_more c.in-Some.rest.now i d c.loop-fanin-test.true)
          (AndSoFar-push c.args.nodes.now.items c.loop-fanin.nodes.items c.trivial_new_and_node.new.nodes.items (c.in-Some.first.now ∷ take i c.in-Some.rest.now) c.loop-fanin.all (get_or c.in-Some.rest.now i d) c.in-Ok.e c.requires.sound c.loop-fanin.invariant.joined (rest i d c.loop-fanin-test.true) c.in-Ok.ensures.gates c.in-Ok.ensures.gives (λ h. cc));
      rule = rw (take_more c.in-Some.rest.now i d c.loop-fanin-test.true)
          (joins_from_left_push AddsGate c.args.nodes.now.items c.in-Some.first.now (take i c.in-Some.rest.now) c.loop-fanin.nodes.items c.trivial_new_and_node.new.nodes.items c.loop-fanin.all (get_or c.in-Some.rest.now i d) c.in-Ok.e c.loop-fanin.invariant.rule c.in-Ok.ensures.ok);
      count = rw c.in-Ok.ensures.ok.gate (omega (arith, length-append {A = AigNode}));
    }

pub returns-in_default-clause-rule : goal.returns-in_default-clause-rule
returns-in_default-clause-rule c =
    let none : c.args.fanins.now ≡ [] = nil_from_length c.args.fanins.now c.in_default.ensures.cases in
    rw none (refl, c.constant.ensures)

pub returns-in_default-clause-gates : goal.returns-in_default-clause-gates
returns-in_default-clause-gates c = AddsGates-itself c.args.nodes.now.items c.requires.sound

pub trivial_new_and_node-requires-clause-sound : goal.trivial_new_and_node-requires-clause-sound
trivial_new_and_node-requires-clause-sound c = c.loop-fanin.invariant.joined.gates.grows.sound

pub trivial_new_and_node-requires-clause-first : goal.trivial_new_and_node-requires-clause-first
trivial_new_and_node-requires-clause-first c = c.loop-fanin.invariant.joined.joins.gives.there

-- what stands after a refusal
refused : (c : goal.After-truncate) → c.truncate.new.self.items ≡ c.args.nodes.now.items
refused c =
    let before : c.len-before.result ≡ length c.args.nodes.now.items = omega arith in
    cut_back c.args.nodes.now.items c.loop-fanin.nodes.items c.truncate.new.self.items c.len-before.result c.loop-fanin.invariant.joined.gates.grows before (c.truncate.ensures.items ∙ ap (take c.len-before.result) c.in-Err.ensures.err)

pub returns-in-Err-clause-err : goal.returns-in-Err-clause-err
returns-in-Err-clause-err c = refused c

pub returns-in-Err-clause-gates : goal.returns-in-Err-clause-gates
returns-in-Err-clause-gates c = subst (AddsGates c.args.nodes.now.items) (sym (refused c)) (AddsGates-itself c.args.nodes.now.items c.requires.sound)

pub returns-clause-rule : goal.returns-clause-rule
returns-clause-rule c =
    let old = c.args.nodes.now.items in
    let new = c.loop-fanin.nodes.items in
    let whole = take_all c.loop-fanin.fanin-index c.in-Some.rest.now c.loop-fanin-test.false in
    subst (λ l. AddsGateForEach old l new c.loop-fanin.all) (sym c.in-Some.ensures.cases.0) (subst (λ l. JoinsFromLeft AddsGate old c.in-Some.first.now l new c.loop-fanin.all) whole c.loop-fanin.invariant.rule)

pub returns-clause-joins : goal.returns-clause-joins
returns-clause-joins c =
    let old = c.args.nodes.now.items in
    let new = c.loop-fanin.nodes.items in
    let first = c.in-Some.first.now in
    let rest = c.in-Some.rest.now in
    let whole = take_all c.loop-fanin.fanin-index rest c.loop-fanin-test.false in
    let split = c.in-Some.ensures.cases.0 in (
      subst (λ l. JoinsByAnd old new l c.loop-fanin.all) (sym split) (subst (λ l. JoinsByAnd old new (first ∷ l) c.loop-fanin.all) whole c.loop-fanin.invariant.joined.joins),
      one_each (length old) (length new) c.loop-fanin.fanin-index (length rest) (length c.args.fanins.now) c.loop-fanin.invariant.count c.loop-fanin.auto.fanin-index-end c.loop-fanin-test.false (ap length split),
    )

pub returns-clause-gates : goal.returns-clause-gates
returns-clause-gates c = c.loop-fanin.invariant.joined.gates
