use Rattle.aig_base.proofs.Words.{ap, map, string_bytes}
use Rattle.aig_edits.proofs.ConstraintWords.{no_constraints}
use Rattle.aig_edits.proofs.words.said_first.Goals as goal

pub returns-in_err-constraints_of-clause-none : goal.returns-in_err-constraints_of-clause-none
returns-in_err-constraints_of-clause-none c =
    rw c.from_residual-in_err-constraints_of.ensures (no_constraints
    (map string_bytes c.args.words.now) (map string_bytes c.in_ok-first.rest.now)
    (string_bytes c.in_ok-first.first.now)
    (ap (λ l. map string_bytes l) c.in_ok-first.ensures.cases.0)
    (rw c.as_str.ensures.value at c.in_err-constraints_of.ensures.none))
