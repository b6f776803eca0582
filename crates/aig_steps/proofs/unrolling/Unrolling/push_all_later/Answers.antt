use Rattle.aig_base.proofs.Words.{◌≡◌, ◌+◌, ◌++◌, add-one, arith, on_ok_weaker, subst}
use Rattle.aig_steps.specs.Ends.{all_later}
use Rattle.aig_steps.proofs.Ends.{later_more}
use Rattle.aig_steps.proofs.unrolling.Unrolling.push_all_later.Goals as goal

pub loop-s-preserved : goal.loop-s-preserved
loop-s-preserved c =
    later_more c.args.self.now.circuit c.args.clauses.now c.loop-s.clauses c.push_later.new.clauses
    c.loop-s.s (c.loop-s.s + 1) c.loop-s.invariant c.in_ok-push_later.ensures.clauses (add-one
    c.loop-s.s)

pub returns : goal.returns
returns c =
    let circuit = c.args.self.now.circuit in
    let old = c.args.clauses.now in
    let done : c.loop-s.s ≡ c.args.step = omega arith in
    let before =
    subst (λ n. c.loop-s.clauses ≡ old ++ all_later circuit n) done c.loop-s.invariant in
    on_ok_weaker c.push_later-2.result
    (λ more. later_more circuit old c.loop-s.clauses c.push_later-2.new.clauses c.args.step
    (c.args.step + 1) before more (add-one c.args.step)) c.push_later-2.ensures.clauses
