use Rattle.aig_check_commands.proofs.Words.{◌≤◌, ◌^◌, arith, length, subst, sym, Circuit, UnrollsTo}
use Rattle.aig_answers.specs.Answers.{AreWrittenFrom, AskWith}
use Rattle.aig_runs.specs.WindowClauses.{AsksWindow}
use Rattle.aig_runs.specs.declared.window.Window.TheVariants.{Plain}
use Rattle.aig_check_commands.proofs.checks.pairs.part_window.Goals as goal

pub returns-clause-asks : goal.returns-clause-asks
returns-clause-asks c =
    let optimize = c.args.optimize in
    subst (λ (d : Circuit). AskWith d optimize
    (λ lists. AsksWindow Plain c.args.joint.now 0 optimize lists.clauses lists.extra) c.in_ok-parts.parts)
    c.new.ensures c.in_ok-parts.ensures.asks

pub window_parts-requires-clause-few : goal.window_parts-requires-clause-few
window_parts-requires-clause-few c =
    let size = c.in_ok-stepped.ensures.unrolls.size in
    subst (λ (d : Circuit). length d.nodes ≤ 2 ^ 31) (sym c.new.ensures)
    (omega (arith, c.requires, size))

pub window_parts-requires-clause-unrolls : goal.window_parts-requires-clause-unrolls
window_parts-requires-clause-unrolls c =
    subst (UnrollsTo c.args.joint.now 1) (sym c.new.ensures) c.in_ok-stepped.ensures.unrolls

pub returns-clause-written : goal.returns-clause-written
returns-clause-written c =
    subst (λ (d : Circuit). AreWrittenFrom d c.args.optimize c.in_ok-parts.parts) c.new.ensures
    c.in_ok-parts.ensures.written
