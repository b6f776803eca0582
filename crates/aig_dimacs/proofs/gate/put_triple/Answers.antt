use Rattle.aig_dimacs.proofs.Puts.{puts_then, triple_line}
use Rattle.aig_dimacs.proofs.gate.put_triple.Goals as goal

pub returns-clause-puts : goal.returns-clause-puts
returns-clause-puts c =
    rw (triple_line c.args.a c.args.b c.args.c)
    (puts_then (puts_then (puts_then c.put_end-last.ensures.puts c.put_literal-third.ensures.puts) c.put_literal-second.ensures.puts) c.put_literal.ensures.puts)
