use Rattle.aig_base.proofs.Words.{arith}
use Rattle.aig_dimacs.proofs.ByMarks.{formula_of}
use Rattle.aig_check_commands.proofs.checks.printing.tell_circuit_with.Goals as goal

pub returns : goal.returns
returns c =
    let h = c.requires.needed in
    let needed = c.args.needed.now in (
      h.lists,
      h.has_clauses,
      formula_of c.args.circuit.now c.args.optimize needed.marks.items needed.clauses c.args.free
          c.args.extra.now c.requires.few h c.requires.below
          (omega (arith, c.len.ensures.few, c.len.ensures.count)),
    )
