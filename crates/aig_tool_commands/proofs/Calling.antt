-- Words give one command.
use Rattle.aig_base.proofs.Words.{◌≡◌, ◌↔◌, ℕ, List, Some, refl, sym, ap, subst, ◌∙◌, arith, same_Some}
use Rattle.std.specs.List.{position_or_len}
use Rattle.std.specs.Prelude.{All, Contains, Err, Ok, Result, not}
use Rattle.std.proofs.Common.{lit<}
use Rattle.aig_command_line.specs.declared.status.Ending.TheVariants as endings
use Rattle.aig_command_line.specs.Arguments.{Arguments}
use Rattle.aig_command_line.specs.Ending.{ended}
use Rattle.aig_command_line.proofs.Apart as apart
use Rattle.aig_tool_commands.specs.declared.command.Action.{Action}
use Rattle.aig_tool_commands.specs.declared.command.Action.TheVariants as actions
use Rattle.aig_tool_commands.specs.declared.command.Command.{Command}
use Rattle.aig_tool_commands.specs.declared.command.TheConstants.Action.{ALL}
use Rattle.aig_tool_commands.specs.CommandWords.{Give, IsCall, command_of, form_of, name_of}

-- each command is in the list, at the place of the first that doesn't exclude it
pub among : (a : Action) → Contains ALL a
among actions.Text = (0, omega arith, refl)
among a =
    (position_or_len (λ b. not (apart.exclude name_of form_of a b)) ALL, lit< tt, refl)

-- what holds of each in the list holds of each
pub each : (P : Action → Type 0) → All P ALL → (a : Action) → P a
each = apart.each name_of form_of ALL refl among

-- words give one command, with one list of paths
pub one_call : (words : List (List ℕ)) (c d : Command) (p q : List (List ℕ)) → IsCall words c p
    → IsCall words d q → (c ≡ d) × (p ≡ q)
one_call words c d p q g h =
    let same = apart.one_fits name_of form_of ALL refl among words g.action h.action g.arguments
    h.arguments g.gives h.gives in (
      g.command ∙ ap (λ a. command_of a g.arguments.step g.arguments.optimize) same.0
          ∙ ap (λ (x : Arguments). command_of h.action x.step x.optimize) same.1 ∙ sym h.command,
      g.on ∙ ap (λ (x : Arguments). x.paths) same.1 ∙ sym h.on,
    )

-- so what they give is told exactly
pub gives_exactly : (words : List (List ℕ)) (c : Command) (paths : List (List ℕ))
    → IsCall words c paths
    → (d : Command) → (Some c ≡ Some d) ↔ Give words d
gives_exactly words c paths g d = (
  λ is. (paths, subst (λ e. IsCall words e paths) (same_Some _ _ is) g),
  λ h. ap Some (one_call words c d paths h.0 g h.1).0,
)

-- a command that was run ends the program otherwise than words that give none
pub never_none : {E : Type 0} (done : Result (Unit {0}) E) → ended done ≡ endings.NoCommand → ⊥
never_none (Ok u) is = cc
never_none (Err e) is = cc
