use Rattle.aig_base.proofs.Words.{◌<◌, false, length, get_or, refl, subst, arith, take_all}
use Rattle.aig_circuit.specs.Edge.{edge_to}
use Rattle.aig_bounded.specs.Depths.{HaveNoDepth}
use Rattle.aig_bounded.proofs.Attained.{AreRead-set}
use Rattle.aig_bounded.proofs.Lowered.{AreNoDeeper-same, AreNoDeeper-set, AreNoDeeper-then, HaveNoDepth-more}
use Rattle.aig_bounded.proofs.depths.clear_depths.Goals as goal

pub loop-edge-init : goal.loop-edge-init
loop-edge-init c = record {
  none = λ k d h. absurd (omega arith);
  lower = AreNoDeeper-same c.args.depths.now c.args.depths.now refl;
  read = λ circuit last all read. read;
}

pub loop-edge-preserved : goal.loop-edge-preserved
loop-edge-preserved c =
    let d = edge_to 0 false in
    let ds = c.loop-edge.depths in
    let i = c.loop-edge.edge-index in
    let edge = get_or c.args.edges.now i d in
    let within = c.requires i d c.loop-edge-test.true in
    let there : edge.node_id < length ds = omega arith in
    rw c.node_id.ensures (record {
      none = HaveNoDepth-more c.args.edges.now i d ds c.loop-edge-test.true there c.loop-edge.invariant.none;
      lower = AreNoDeeper-then c.args.depths.now ds _ c.loop-edge.invariant.lower (AreNoDeeper-set ds edge.node_id 0 there (omega arith));
      read = λ circuit last all read. AreRead-set circuit last ds edge.node_id 0 there (all i d c.loop-edge-test.true) (c.loop-edge.invariant.read circuit last all read);
    })

pub returns-clause-none : goal.returns-clause-none
returns-clause-none c =
    subst (λ l. HaveNoDepth l c.loop-edge.depths) (take_all c.loop-edge.edge-index c.args.edges.now c.loop-edge-test.false) c.loop-edge.invariant.none

pub returns-clause-lower : goal.returns-clause-lower
returns-clause-lower c = c.loop-edge.invariant.lower

pub returns-clause-read : goal.returns-clause-read
returns-clause-read c = c.loop-edge.invariant.read
