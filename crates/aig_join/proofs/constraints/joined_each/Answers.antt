use Rattle.std.proofs.Common.{false, arith, take}
use Rattle.aig_circuit.specs.Edge.{edge_to}
use Rattle.aig_join.proofs.JoinedEach.{AreJoined-gates, AreJoined-more}
use Rattle.aig_join.proofs.constraints.joined_each.Goals as goal

pub new_and_node-requires : goal.new_and_node-requires
new_and_node-requires c =
    let so_far = AreJoined-gates c.args.nodes.now.items c.args.all
    (take c.loop-e.e-index c.args.edges.now) c.loop-e.made.items c.loop-e.nodes.items
    c.requires.sound c.loop-e.invariant in
    let longer = so_far.grows.longer in
    record {
      sound = so_far.grows.sound;
      first = omega (
        arith,
        longer,
        c.requires.edges c.loop-e.e-index (edge_to 0 false) c.loop-e-test.true,
      );
      second = omega (arith, longer, c.requires.all);
    }

pub loop-e-preserved : goal.loop-e-preserved
loop-e-preserved c =
    AreJoined-more c.args.nodes.now.items c.args.all c.args.edges.now c.loop-e.made.items
    c.push.new.self.items c.loop-e.nodes.items c.new_and_node.new.nodes.items c.in_ok-joint.joint
    c.loop-e.e-index (edge_to 0 false) c.loop-e-test.true c.loop-e.invariant
    c.in_ok-joint.ensures.gates c.in_ok-joint.ensures.rule c.in_ok-joint.ensures.gives
    c.in_ok-push.ensures.items

pub returns-clause-gates : goal.returns-clause-gates
returns-clause-gates c =
    AreJoined-gates c.args.nodes.now.items c.args.all (take c.loop-e.e-index c.args.edges.now)
    c.loop-e.made.items c.loop-e.nodes.items c.requires.sound c.loop-e.invariant
