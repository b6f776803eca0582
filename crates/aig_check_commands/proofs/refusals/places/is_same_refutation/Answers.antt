use Rattle.std.proofs.Common.{◌∙◌, rules, sym}
use denote.Enum.Bare.{same_true}
use Rattle.aig_refutation.specs.contracts.error.RefutationError.{the_type}
use Rattle.aig_check_commands.proofs.refusals.places.is_same_refutation.Goals as goal

pub returns : goal.returns
returns c = λ is. same_true the_type (search rules) _ _ (sym c.eq.ensures ∙ is)
