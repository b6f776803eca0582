use Rattle.std.proofs.Common.{ap, sym, subst}
use Rattle.aig_refutation.specs.Checking.{deleted}
use Rattle.aig_refutation.specs.Tables.{Holds, Table}
use Rattle.aig_refutation.proofs.Adding.{moves_freed}
use Rattle.aig_refutation.proofs.Following.{kept_either}
use Rattle.aig_refutation.proofs.Kept.{moved_kept}
use Rattle.aig_refutation.proofs.checker.Checker.delete.Goals as goal

pub invariant_of-self-2 : goal.invariant_of-self-2
invariant_of-self-2 c =
    let inside = c.self.inside in (
      c.self.invariant.0,
      kept_either c.reclaim.result inside.variables inside.numbered.clauses
          c.remove_all.new.numbered.clauses c.reclaim.new.self.clauses c.remove_all.ensures.same
          c.reclaim.ensures.kept c.reclaim.ensures.err c.self.invariant.1,
    )

pub returns-clause-moves : goal.returns-clause-moves
returns-clause-moves c live h =
    let before : Holds c.self.inside.numbered live = subst (λ (t : Table). Holds t live) (sym (ap
    (λ t. t.table) c.self.view_is)) h in
    let then = c.in_ok-remove_all.ensures.moves live before in
    moves_freed c.reclaim.new.self c.reclaim.result (deleted live c.args.numbers.now) then.0 then.1
    c.reclaim.ensures.memory (c.reclaim.ensures.holds then.0 then.2)

pub returns-clause-keeps : goal.returns-clause-keeps
returns-clause-keeps c live h =
    moved_kept live c.args.numbers.now c.reclaim.new.self c.reclaim.result
    (returns-clause-moves c live h)
