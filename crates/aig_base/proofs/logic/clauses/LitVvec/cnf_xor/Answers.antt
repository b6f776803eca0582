use Rattle.aig_base.proofs.Words.{◌≡◌, arith, common_steps}
use Rattle.aig_base.specs.Clauses.{xor_clauses}
use Rattle.aig_base.proofs.Literals.{are_true-xor_clauses}
use Rattle.aig_base.proofs.logic.clauses.LitVvec.cnf_xor.Goals as goal

pub returns-clause-relation : goal.returns-clause-relation
returns-clause-relation c = λ v.
    let made : c.near.result ≡ xor_clauses c.args.n c.args.x c.args.y = grind (arith, common_steps) in
    rw made (are_true-xor_clauses v c.args.n c.args.x c.args.y)
