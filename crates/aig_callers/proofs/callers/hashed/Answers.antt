use Rattle.aig_callers.proofs.callers.hashed.Goals as goal

pub returns-clause-leaves : goal.returns-clause-leaves
returns-clause-leaves c x y = c.leaves_fix_values.ensures c.args.aig.now x y c.strash.ensures.circuit
