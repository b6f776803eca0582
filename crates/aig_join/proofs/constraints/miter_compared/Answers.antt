use Rattle.aig_base.proofs.Words.{subst, sym, IfOk-weaker}
use Rattle.aig_circuit.proofs.Words.{lists_circuit}
use Rattle.aig_join.specs.Alike.{IsMiterFrom}
use Rattle.aig_join.specs.Miter.{HaveSameCounts}
use Rattle.aig_join.proofs.DeferredCircuit.{deferred-counts}
use Rattle.aig_join.proofs.constraints.miter_compared.Goals as goal

pub miter_from-requires : goal.miter_from-requires
miter_from-requires c =
    subst (HaveSameCounts c.new.result) (sym c.new-2.ensures)
    (subst (λ d. HaveSameCounts d (lists_circuit c.in_ok-second.second)) (sym c.new.ensures)
    (deferred-counts c.args.a.now c.args.b.now (lists_circuit c.in_ok-first.first)
    (lists_circuit c.in_ok-second.second) c.requires c.in_ok-first.ensures.defers
    c.in_ok-second.ensures.defers))

pub returns-clause-miter : goal.returns-clause-miter
returns-clause-miter c =
    let one = lists_circuit c.in_ok-first.first in
    let two = lists_circuit c.in_ok-second.second in
    IfOk-weaker c.miter_from.result _ _
    (λ lists miters. (
      one,
      two,
      c.in_ok-first.ensures.defers,
      c.in_ok-second.ensures.defers,
      subst (λ d. IsMiterFrom c.args.starts one d (lists_circuit lists)) c.new-2.ensures
          (subst (λ d. IsMiterFrom c.args.starts d c.new-2.result (lists_circuit lists))
          c.new.ensures miters),
    )) c.miter_from.ensures.miter
