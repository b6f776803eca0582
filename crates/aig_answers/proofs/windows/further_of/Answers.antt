use Rattle.std.proofs.Common.{◌+◌, ◌*◌, ◌++◌, length, sym, ap, subst, ◌∙◌}
use Rattle.aig_answers.proofs.Words.{Circuit, UnrollsTo, states_clauses}
use Rattle.aig_answers.proofs.Asking.{states_count}
use Rattle.aig_answers.proofs.windows.further_of.Goals as goal

pub tell_apart-requires-clause-states : goal.tell_apart-requires-clause-states
tell_apart-requires-clause-states c =
    let source = c.requires.watched in
    let steps = subst (λ w. UnrollsTo w (c.args.k + 1) c.args.unrolled.now) source.1 c.requires.unrolls in
    λ is. states_count c.args.form source.0 c.args.unrolled.now (c.args.k + 1) steps is ∙ ap (λ (w : Circuit). (c.args.k + 1 + 1) * length w.latchs) (sym source.1)

pub returns-clause-exact : goal.returns-clause-exact
returns-clause-exact c =
    let u = c.args.unrolled.now in
    c.in_ok-tell_apart.ensures
    ∙ ap (λ all. all ++ states_clauses c.args.form (length u.nodes) c.args.circuit.now c.args.k u) c.in_ok-extra.ensures.exact
