use Rattle.std.proofs.Common.{refl, sym, ◌∙◌}
use Rattle.aig_edit_commands.proofs.Calling.{action_paths, fits_none, further_none, under_none, under_paths, unsaid_none}
use Rattle.aig_edit_commands.proofs.command.call_of.Goals as goal

pub returns-in_err-limit : goal.returns-in_err-limit
returns-in_err-limit c =
    let none = c.in_err-limit.ensures.none in
    rw c.from_residual.ensures (record {
      some = tt;
      none = λ limit d paths g. none limit g.rest g.limited;
      limit = tt;
      paths = tt;
    })

pub returns-in_err-constraints : goal.returns-in_err-constraints
returns-in_err-constraints c =
    rw c.from_residual-in_err-constraints.ensures (record {
      some = tt;
      none = unsaid_none _ _ c.in_ok-limit.limit c.in_ok-limit.ensures.some c.in_err-constraints.ensures.none;
      limit = tt;
      paths = tt;
    })

pub returns-in_err-action : goal.returns-in_err-action
returns-in_err-action c =
    rw c.from_residual-in_err-action.ensures (record {
      some = tt;
      none = fits_none _ _ _ c.in_ok-limit.limit c.in_ok-constraints.constraints
          c.in_ok-limit.ensures.some c.in_ok-constraints.ensures.some c.in_err-action.ensures.none;
      limit = tt;
      paths = tt;
    })

pub returns-in_err-usual : goal.returns-in_err-usual
returns-in_err-usual c =
    rw c.from_residual-in_err-usual.ensures (record {
      some = tt;
      none = further_none _ _ _ c.in_ok-limit.limit c.in_ok-constraints.constraints
          c.in_ok-limit.ensures.some c.in_ok-constraints.ensures.some c.in_ok-action.action _
          c.in_ok-action.ensures.some c.in_err-usual.ensures.none;
      limit = tt;
      paths = tt;
    })

pub returns-in_err-command : goal.returns-in_err-command
returns-in_err-command c =
    rw c.from_residual-in_err-command.ensures (record {
      some = tt;
      none = under_none _ _ _ c.in_ok-limit.limit c.in_ok-constraints.constraints
          c.in_ok-limit.ensures.some c.in_ok-constraints.ensures.some c.in_ok-action.action _ _
          c.in_ok-action.ensures.some c.in_ok-usual.ensures.some
          (sym c.under.ensures ∙ c.in_err-command.was);
      limit = tt;
      paths = tt;
    })

pub returns-clause-some : goal.returns-clause-some
returns-clause-some c = record {
  rest = _;
  limited = c.in_ok-limit.ensures.some;
  constraints = c.in_ok-constraints.constraints;
  more = _;
  said = c.in_ok-constraints.ensures.some;
  action = c.in_ok-action.action;
  arguments = _;
  gives = c.in_ok-action.ensures.some;
  usual = _;
  command = c.in_ok-usual.ensures.some;
  compares = sym c.under.ensures ∙ c.in_ok-command.was;
  on = refl;
}

pub returns-clause-limit : goal.returns-clause-limit
returns-clause-limit c = c.in_ok-limit.ensures.limit

pub returns-clause-paths : goal.returns-clause-paths
returns-clause-paths c =
    let usual = c.in_ok-usual.usual in
    c.in_ok-action.ensures.paths
    ∙ action_paths c.in_ok-action.action _ _ usual c.in_ok-usual.ensures.some
    ∙ under_paths c.in_ok-constraints.constraints usual c.in_ok-command.command
    (sym c.under.ensures ∙ c.in_ok-command.was)
