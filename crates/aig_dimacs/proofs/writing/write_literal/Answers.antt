use Rattle.std.proofs.Common.{[], ◌∷◌, ◌++◌, ◌+◌, decimal, rules}
use Rattle.aig_base.specs.Clauses.{variable_of}
use Rattle.aig_output.proofs.Putting.{failed_first, then_call}
use Rattle.aig_dimacs.proofs.writing.write_literal.Goals as goal

pub returns-in_err-write_sign : goal.returns-in_err-write_sign
returns-in_err-write_sign g c =
    failed_first ((decimal (variable_of c.args.lit + 1) ++ 32 ∷ []) ∷ []) c.in_err-write_sign.ensures (search rules)

pub returns : goal.returns
returns g c = then_call c.in_ok-write_sign.ensures.ok (rw (c.from.ensures, c.var.ensures) at c.write_number.ensures)
