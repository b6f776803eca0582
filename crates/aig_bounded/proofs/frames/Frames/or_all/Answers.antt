use Rattle.aig_base.proofs.Words.{◌≡◌, false, map, ap, length, subst, arith, take_all, err_from_is_err_and}
use Rattle.aig_circuit.specs.declared.edge.AigEdge.{AigEdge}
use Rattle.aig_circuit.specs.Edge.{edge_to}
use Rattle.aig_unroll.specs.Frame.{image_in}
use Rattle.aig_bounded.specs.Frames.{MakesEdge, net_of}
use Rattle.aig_bounded.specs.Shared.{made_in, shared_ors}
use Rattle.aig_bounded.proofs.Exactly.{ors-more}
use Rattle.aig_bounded.proofs.Counted.{AddsUpTo-done, AddsUpTo-stops}
use Rattle.aig_bounded.proofs.Joined.{Gives-false, any_true, any_true-more}
use Rattle.aig_bounded.proofs.frames.Frames.or_all.Goals as goal

pub loop-edge-init : goal.loop-edge-init
loop-edge-init c = record {
  so_far = Gives-false c.args.self.now c.constant-any.result c.requires.shared c.constant-any.ensures;
  exact = ap (made_in (net_of c.args.self.now)) c.constant-any.ensures;
  few = omega arith;
}

pub loop-edge-preserved : goal.loop-edge-preserved
loop-edge-preserved c =
    let d = edge_to 0 false in
    let i = c.loop-edge.edge-index in
    record {
      so_far = any_true-more c.args.self.now c.loop-edge.self c.or.new.self c.args.images.now c.args.edges.now i d c.loop-edge.any c.in_ok-any.any c.image_of.result c.loop-edge-test.true c.image_of.ensures (c.requires.images i d c.loop-edge-test.true) c.loop-edge.invariant.so_far c.in_ok-any.ensures.gives;
      exact = ors-more (net_of c.args.self.now) (net_of c.loop-edge.self) (net_of c.or.new.self) c.args.images.now c.args.edges.now i d c.loop-edge.any c.in_ok-any.any c.image_of.result c.loop-edge-test.true c.image_of.ensures (made_in (net_of c.args.self.now) (edge_to 0 false)) c.loop-edge.invariant.exact c.in_ok-any.ensures.exact;
      few = omega (arith, c.in_ok-any.ensures.size.few, c.loop-edge.invariant.few);
    }

pub or-requires-clause-shared : goal.or-requires-clause-shared
or-requires-clause-shared c = c.loop-edge.invariant.so_far.adds.shared

pub or-requires-clause-first : goal.or-requires-clause-first
or-requires-clause-first c = c.loop-edge.invariant.so_far.edge.there

pub or-requires-clause-second : goal.or-requires-clause-second
or-requires-clause-second c =
    omega (arith, c.requires.images c.loop-edge.edge-index (edge_to 0 false) c.loop-edge-test.true, c.loop-edge.invariant.so_far.adds.nodes.grows.longer, ap (λ (e : AigEdge). e.node_id) c.image_of.ensures)

pub returns-clause-exact : goal.returns-clause-exact
returns-clause-exact c =
    let whole = take_all c.loop-edge.edge-index c.args.edges.now c.loop-edge-test.false in
    subst (λ es. made_in (net_of c.loop-edge.self) c.loop-edge.any ≡ shared_ors (made_in (net_of c.args.self.now) (edge_to 0 false)) (map (image_in c.args.images.now) es)) whole c.loop-edge.invariant.exact

pub returns-clause-gives : goal.returns-clause-gives
returns-clause-gives c =
    let whole = take_all c.loop-edge.edge-index c.args.edges.now c.loop-edge-test.false in
    subst (λ es. MakesEdge (any_true c.args.self.now c.args.images.now es) c.args.self.now
    c.loop-edge.self c.loop-edge.any) whole c.loop-edge.invariant.so_far

pub returns-in_err-any-clause-size : goal.returns-in_err-any-clause-size
returns-in_err-any-clause-size c =
    let p = err_from_is_err_and c.from_residual.result c.from_residual.ensures.1 in
    let within = c.loop-edge-test.true in
    rw (p.1, p.2) (AddsUpTo-stops (length c.args.edges.now) 1 c.args.self.now c.loop-edge.self c.or.new.self c.in_err-any.field-0.0 c.loop-edge.invariant.so_far.adds.limit (omega (arith, c.loop-edge.invariant.few)) c.in_err-any.ensures.size)

pub returns-clause-size : goal.returns-clause-size
returns-clause-size c =
    AddsUpTo-done (length c.args.edges.now) c.args.self.now c.loop-edge.self c.loop-edge.any (omega (arith, c.loop-edge.invariant.few))
