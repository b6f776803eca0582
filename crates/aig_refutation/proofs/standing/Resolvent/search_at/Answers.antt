use Rattle.aig_base.proofs.Words.{◌+◌, ◌*◌, ◌<◌, ◌≡◌, List, length, sym, subst, ◌∙◌, All}
use Rattle.aig_base.specs.declared.logic.literal.Lit.{Lit}
use Rattle.aig_base.specs.Clauses.{variable_of}
use Rattle.aig_refutation.specs.Propagation.{FitsMarks}
use Rattle.aig_refutation.specs.Rat.{resolvent}
use Rattle.aig_refutation.proofs.Apart.{resolved_literals}
use Rattle.aig_refutation.proofs.Literals.{clause_there}
use Rattle.aig_refutation.proofs.standing.Resolvent.search_at.Goals as goal

pub is_tautology-requires : goal.is_tautology-requires
is_tautology-requires c =
    let marks = c.args.marks.now in
    let P : Lit → Type 0 = λ lit. 2 * variable_of lit + 1 < length marks in
    let clauses : All (FitsMarks marks) c.clauses.result.now =
    subst (λ (list : List (List Lit)). All (FitsMarks marks) list) (sym c.clauses.ensures)
    c.requires.clauses in
    let other = c.clause-other.result.now in
    let fits : All P other = clause_there (FitsMarks marks) c.clauses.result.now _ other
    c.clause-other.ensures clauses in
    let made : c.deref.result.now ≡ resolvent c.args.pivot c.args.clause.now other =
    c.deref.ensures.value ∙ c.in_ok-resolve.ensures.clause in
    subst (λ (list : List Lit). All P list) (sym made)
    (resolved_literals P c.args.pivot c.args.clause.now other c.requires.clause fits)
