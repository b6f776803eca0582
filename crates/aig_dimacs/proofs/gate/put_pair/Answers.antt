use Rattle.aig_dimacs.proofs.Puts.{pair_line, puts_then}
use Rattle.aig_dimacs.proofs.gate.put_pair.Goals as goal

pub returns-clause-puts : goal.returns-clause-puts
returns-clause-puts c =
    rw (pair_line c.args.a c.args.b)
    (puts_then (puts_then c.put_end-last.ensures.puts c.put_literal-second.ensures.puts) c.put_literal.ensures.puts)
