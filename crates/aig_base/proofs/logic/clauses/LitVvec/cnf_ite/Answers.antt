use Rattle.aig_base.proofs.Words.{◌≡◌, arith, common_steps}
use Rattle.aig_base.specs.Clauses.{ite_clauses}
use Rattle.aig_base.proofs.Literals.{are_true-ite_clauses}
use Rattle.aig_base.proofs.logic.clauses.LitVvec.cnf_ite.Goals as goal

pub returns-clause-relation : goal.returns-clause-relation
returns-clause-relation c = λ v.
    let made : c.near.result ≡ ite_clauses c.args.n c.args.c c.args.t c.args.e = grind (arith, common_steps) in
    rw made (are_true-ite_clauses v c.args.n c.args.c c.args.t c.args.e)
