use Rattle.std.specs.Prelude.{Option, Some, None, IfSome}
use Rattle.aig_base.proofs.Words.{Contains-append_right}
use Rattle.aig_check_commands.proofs.refusals.explaining.unopened.Goals as goal

-- what holds of a value, with a weaker fact
more : {X : Type 0} (P Q : X → Type 0) (o : Option X) → ((x : X) → P x → Q x) → IfSome o P
    → IfSome o Q
more P Q (Some x) weaker holds = weaker x holds
more P Q None weaker holds = tt

pub returns-in-None : goal.returns-in-None
returns-in-None g c =
    more _ _ c.first_unopened-in-None.result
    (λ path h. (Contains-append_right _ _ path.now h.0, h.1)) c.first_unopened-in-None.ensures
