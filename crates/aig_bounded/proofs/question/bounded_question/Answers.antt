use Rattle.std.proofs.Common.{arith, subst}
use Rattle.aig_bounded.specs.Cut.{IsCutOf}
use Rattle.aig_bounded.specs.Shared.{Made}
use Rattle.aig_circuit.specs.View.{lists_circuit}
use Rattle.aig_bounded.proofs.Cut.{IsQuestion-cut, small_cut}
use Rattle.aig_bounded.proofs.question.bounded_question.Goals as goal

pub returns-clause-question : goal.returns-clause-question
returns-clause-question c =
    let circuit = c.in_ok-frames.ensures.circuit in
    IsQuestion-cut c.args.circuit.now c.args.last c.in_ok-frames.frames c.in_ok-frames.reached (lists_circuit c.in_ok-made.made.circuit) c.in_ok-made.made.places.items circuit c.requires.starts c.in_ok-frames.ensures.frames c.in_ok-frames.ensures.shows c.in_ok-made.ensures
    c.refining_is_circuit.ensures c.refining_keeps_runs.ensures
    (record {
      read = c.in_ok-frames.ensures.exact.0;
      reads = c.in_ok-frames.ensures.exact.1;
      cut = subst (λ (m : Made). IsCutOf m.net m.edge (lists_circuit c.in_ok-made.made.circuit) c.in_ok-made.made.places.items) c.in_ok-frames.ensures.exact.2 c.in_ok-made.ensures;
    })

pub returns-clause-small : goal.returns-clause-small
returns-clause-small c =
    let are = c.in_ok-frames.ensures.frames in
    omega (arith, small_cut c.args.circuit.now _ 0 c.in_ok-frames.frames c.in_ok-frames.reached (lists_circuit c.in_ok-made.made.circuit) c.in_ok-made.made.places.items are c.in_ok-frames.ensures.shows.there c.in_ok-made.ensures, c.in_ok-frames.ensures.limit)
