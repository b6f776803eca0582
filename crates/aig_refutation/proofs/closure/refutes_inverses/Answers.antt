use Rattle.std.proofs.Common.{Bool, sym, subst, ◌∙◌}
use Rattle.aig_base.specs.declared.logic.literal.Lit.{Lit}
use Rattle.aig_refutation.specs.Closure.{AreAmong, Entails}
use Rattle.aig_refutation.specs.Propagation.{marked}
use Rattle.aig_refutation.specs.Tables.{Table}
use Rattle.aig_refutation.proofs.Closing.{entails_start}
use Rattle.aig_refutation.proofs.closure.refutes_inverses.Goals as goal

pub returns-then-follow_all-clause-implied : goal.returns-then-follow_all-clause-implied
returns-then-follow_all-clause-implied c done =
    let t : Table = c.args.numbered.now in
    let clause = c.args.clause.now in
    c.follow_all.ensures.conflict c.if-follow_all.true clause
    (subst (Entails t clause) (sym c.assume_false.ensures.assumed) (entails_start t clause))

pub loop-init : goal.loop-init
loop-init c =
    let t : Table = c.args.numbered.now in
    let clause = c.args.clause.now in
    record {
      length = c.follow_all.ensures.length ∙ c.assume_false.ensures.length;
      start = subst (λ (holds : Lit → Bool). AreAmong holds (marked c.follow_all.new.marks))
          c.assume_false.ensures.assumed c.follow_all.ensures.kept;
      entails = c.follow_all.ensures.entails c.if-follow_all.false clause
          (subst (Entails t clause) (sym c.assume_false.ensures.assumed)
          (entails_start t clause));
    }
