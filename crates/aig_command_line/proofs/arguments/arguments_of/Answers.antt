use Rattle.aig_base.proofs.Words.{sym, ◌∙◌, same_text}
use Rattle.aig_command_line.proofs.Giving.{all_given, no_further, no_other, no_settings, no_step}
use Rattle.aig_command_line.proofs.arguments.arguments_of.Goals as goal

pub returns-in_err-step-clause-none : goal.returns-in_err-step-clause-none
returns-in_err-step-clause-none c =
    rw c.from_residual-in_err-step.ensures (no_step c.args.name.now c.args.form c.args.words.now c.in_ok-first.first.now c.in_ok-first.rest.now c.in_ok-first.ensures.cases.0 c.in_ok-paths.paths.now c.in_ok-paths.rest.now c.in_ok-paths.ensures.cases c.in_err-step.ensures.none)

pub returns-in_err-further-clause-none : goal.returns-in_err-further-clause-none
returns-in_err-further-clause-none c =
    let step = c.in_ok-step.ensures.some in
    rw c.from_residual-in_err-further.ensures (no_further c.args.name.now c.args.form c.args.words.now c.in_ok-first.first.now c.in_ok-first.rest.now c.in_ok-first.ensures.cases.0 c.in_ok-paths.paths.now c.in_ok-paths.rest.now c.in_ok-paths.ensures.cases c.in_ok-step.step step.0 step.1 c.in_ok-step.rest.now step.2 c.in_err-further.ensures.none)

pub returns-in_err-distinct-clause-none : goal.returns-in_err-distinct-clause-none
returns-in_err-distinct-clause-none c =
    let step = c.in_ok-step.ensures.some in
    let none = c.in_err-distinct.was in
    let exact = rw none at c.settings.ensures in
    rw c.from_residual-in_err-distinct.ensures (no_settings c.args.name.now c.args.form c.args.words.now c.in_ok-first.first.now c.in_ok-first.rest.now c.in_ok-first.ensures.cases.0 c.in_ok-paths.paths.now c.in_ok-paths.rest.now c.in_ok-paths.ensures.cases c.in_ok-step.step step.0 step.1 c.in_ok-step.rest.now step.2 c.in_ok-further.further.now c.in_ok-further.rest.now c.in_ok-further.ensures.some (λ d o are. let some = (exact d o).1 are in cc))

pub returns-clause-some : goal.returns-clause-some
returns-clause-some c =
    let step = c.in_ok-step.ensures.some in
    let settings = (c.settings.ensures c.in_ok-distinct.distinct c.in_ok-distinct.optimize).0 c.in_ok-distinct.was in
    all_given c.args.name.now c.args.form c.args.words.now c.in_ok-first.first.now c.in_ok-first.rest.now c.in_ok-first.ensures.cases.0 c.in_ok-paths.paths.now c.in_ok-paths.rest.now c.in_ok-paths.ensures.cases c.in_ok-step.step step.0 step.1 c.in_ok-step.rest.now step.2 c.in_ok-further.further.now c.in_ok-further.rest.now c.in_ok-further.ensures.some c.in_ok-distinct.distinct c.in_ok-distinct.optimize settings (sym c.as_str.ensures.value ∙ same_text c.as_str.result.now c.args.name.now (no_other _ c.if-ne.ensures))
