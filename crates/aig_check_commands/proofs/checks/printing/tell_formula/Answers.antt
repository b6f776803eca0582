use Rattle.std.proofs.Common.{◌+◌, arith}
use Rattle.aig_dimacs.proofs.Pieces.{IsFormula-from}
use Rattle.aig_check_commands.proofs.checks.printing.tell_formula.Goals as goal

pub returns-clause-formula : goal.returns-clause-formula
returns-clause-formula c = IsFormula-from c.args.clauses.now c.args.extra.now (c.num_clauses.result + c.len.result) c.num_vars.ensures.relations c.requires (omega (arith, c.num_clauses.ensures.count, c.len.ensures.count)) (omega (arith, c.num_clauses.ensures.few, c.len.ensures.few))
