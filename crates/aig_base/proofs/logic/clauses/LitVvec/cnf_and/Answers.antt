use Rattle.std.proofs.Common.{◌≡◌, ◌<◌, ◌≤◌, ◌++◌, ◌∷◌, [], List, length, get_or, refl, sym, ap, ◌∙◌, arith}
use Rattle.aig_base.specs.declared.logic.literal.Lit.{Lit}
use Rattle.aig_base.specs.Clauses.{and_clauses}
use Rattle.aig_base.proofs.Literals.{are_true-and_clauses}
use Rattle.aig_base.proofs.logic.clauses.LitVvec.cnf_and.Goals as goal

two_of : (lits : List Lit) (d : Lit) → 2 ≤ length lits → length lits < 3
    → lits ≡ get_or lits 0 d ∷ get_or lits 1 d ∷ []
two_of [] d at_least below = absurd (omega arith)
two_of (a ∷ []) d at_least below = absurd (omega arith)
two_of (a ∷ b ∷ []) d at_least below = refl
two_of (a ∷ b ∷ e ∷ lits) d at_least below = absurd (omega arith)

pub returns-in-len2-clause-clauses : goal.returns-in-len2-clause-clauses
returns-in-len2-clause-clauses c =
    c.near.ensures ∙ c.of_and.ensures
    ∙ ap (and_clauses c.args.n) (sym (two_of c.args.lits.now (record { code = 0 }) c.in-len2.len_at_least c.in-len2.len_below))

pub returns-in-len2-clause-relation : goal.returns-in-len2-clause-relation
returns-in-len2-clause-relation c = λ v. rw (returns-in-len2-clause-clauses c) (are_true-and_clauses v c.args.n c.args.lits.now)

pub returns-clause-clauses : goal.returns-clause-clauses
returns-clause-clauses c = c.in_ok-push_and.ensures ∙ ap (λ rel. rel ++ and_clauses c.args.n c.args.lits.now) c.new-rel.ensures

pub returns-clause-relation : goal.returns-clause-relation
returns-clause-relation c = λ v. rw (returns-clause-clauses c) (are_true-and_clauses v c.args.n c.args.lits.now)
