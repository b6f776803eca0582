use Rattle.aig_check_commands.proofs.Words.{CanBeAsked, subst, lists_circuit, IsTextOfQuestion, Printed, Question}
use Rattle.aig_answers.specs.declared.plans.asking.Ask.TheVariants as asks
use Rattle.aig_check_commands.proofs.check_lemmas.Questioning.{any_text, asked_is}
use Rattle.aig_check_commands.proofs.checks.questions.print_clauses.Goals as goal

pub print_first-requires-clause-asked : goal.print_first-requires-clause-asked
print_first-requires-clause-asked g c =
    rw c.new-view.ensures (subst (λ ask. CanBeAsked c.args.limit ask (lists_circuit c.args.circuit))
    c.in-UpTo.is c.requires.asked)

pub returns-in-Step : goal.returns-in-Step
returns-in-Step g c =
    let a = c.args in
    let m = lists_circuit a.circuit in
    subst (λ (q : Question). Printed g.W.Sink.held g.W.Sink.failed (IsTextOfQuestion a.limit
    a.subject q m a.sum) a.w.now c.print_step.result c.print_step.new.w)
    (asked_is a.question (asks.Step c.in-Step.k) c.in-Step.is)
    (any_text a.limit a.subject _ m a.sum c.print_step.ensures)

pub returns-in-UpTo : goal.returns-in-UpTo
returns-in-UpTo g c =
    let a = c.args in
    let m = lists_circuit a.circuit in
    subst (λ (q : Question). Printed g.W.Sink.held g.W.Sink.failed (IsTextOfQuestion a.limit
    a.subject q m a.sum) a.w.now c.print_first.result c.print_first.new.w)
    (asked_is a.question (asks.UpTo c.in-UpTo.k) c.in-UpTo.is)
    (rw c.new-view.ensures at c.print_first.ensures)

pub returns-in-Window : goal.returns-in-Window
returns-in-Window g c =
    let a = c.args in
    let m = lists_circuit a.circuit in
    subst (λ (q : Question). Printed g.W.Sink.held g.W.Sink.failed (IsTextOfQuestion a.limit
    a.subject q m a.sum) a.w.now c.print_window.result c.print_window.new.w)
    (asked_is a.question (asks.Window c.in-Window.k c.in-Window.form) c.in-Window.is)
    (any_text a.limit a.subject _ m a.sum c.print_window.ensures)
