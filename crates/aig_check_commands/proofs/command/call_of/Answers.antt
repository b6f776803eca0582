use Rattle.std.proofs.Common.{refl, sym, ◌∙◌}
use Rattle.aig_check_commands.proofs.Calling.{fits_none, unasked_none, uncompared_none, unjust_none, unsaid_none}
use Rattle.aig_check_commands.proofs.command.call_of.Goals as goal

pub returns-in_err-limit-clause-none : goal.returns-in_err-limit-clause-none
returns-in_err-limit-clause-none c =
    let none = c.in_err-limit.ensures.none in
    rw c.from_residual.ensures (λ limit d paths further g. none limit g.rest g.limited)

pub returns-in_err-subject-clause-none : goal.returns-in_err-subject-clause-none
returns-in_err-subject-clause-none c =
    rw c.from_residual-in_err-subject.ensures
    (unjust_none _ _ c.in_ok-limit.limit c.in_ok-limit.ensures.some c.in_err-subject.ensures.none)

pub returns-in_err-constraints-clause-none : goal.returns-in_err-constraints-clause-none
returns-in_err-constraints-clause-none c =
    rw c.from_residual-in_err-constraints.ensures
    (unsaid_none _ _ _ c.in_ok-limit.limit c.in_ok-subject.subject c.in_ok-limit.ensures.some
    c.in_ok-subject.ensures.some c.in_err-constraints.ensures.none)

pub returns-in_err-usual-clause-none : goal.returns-in_err-usual-clause-none
returns-in_err-usual-clause-none c =
    rw c.from_residual-in_err-usual.ensures
    (fits_none _ _ _ _ c.in_ok-limit.limit c.in_ok-subject.subject c.in_ok-constraints.constraints
    c.in_ok-limit.ensures.some c.in_ok-subject.ensures.some c.in_ok-constraints.ensures.some
    c.in_err-usual.ensures.none)

pub returns-in_err-command-clause-none : goal.returns-in_err-command-clause-none
returns-in_err-command-clause-none c =
    rw c.from_residual-in_err-command.ensures
    (uncompared_none _ _ _ _ c.in_ok-limit.limit c.in_ok-subject.subject c.in_ok-constraints.constraints
    c.in_ok-usual.usual _ c.in_ok-limit.ensures.some c.in_ok-subject.ensures.some
    c.in_ok-constraints.ensures.some c.in_ok-usual.ensures.some (sym c.in_err-command.ensures.exact))

pub returns-then-not-is_asked-clause-none : goal.returns-then-not-is_asked-clause-none
returns-then-not-is_asked-clause-none c =
    unasked_none _ _ _ _ c.in_ok-limit.limit c.in_ok-subject.subject c.in_ok-constraints.constraints
    c.in_ok-usual.usual c.in_ok-command.command _
    c.in_ok-limit.ensures.some c.in_ok-subject.ensures.some c.in_ok-constraints.ensures.some
    c.in_ok-usual.ensures.some (sym c.in_ok-command.ensures.exact)
    (sym c.is_asked.ensures ∙ c.if-not-is_asked.true)

pub returns-clause-some : goal.returns-clause-some
returns-clause-some c = record {
  rest = _;
  limited = c.in_ok-limit.ensures.some;
  more = _;
  asked = c.in_ok-subject.ensures.some;
  constraints = _;
  others = _;
  said = c.in_ok-constraints.ensures.some;
  usual = _;
  arguments = _;
  gives = c.in_ok-usual.ensures.some;
  command = sym c.in_ok-command.ensures.exact;
  allowed = sym c.is_asked.ensures ∙ c.if-not-is_asked.false;
  on = refl;
  beside = refl;
}

pub returns-clause-fits : goal.returns-clause-fits
returns-clause-fits c = record {
  limit = c.in_ok-limit.ensures.limit;
  asked = sym c.is_asked.ensures ∙ c.if-not-is_asked.false;
  paths = c.in_ok-usual.ensures.paths ∙ sym c.in_ok-command.ensures.paths;
  further = c.in_ok-usual.ensures.further ∙ sym c.in_ok-command.ensures.beside;
  small = rw c.in_ok-command.ensures.step c.in_ok-usual.ensures.small;
}
