use Rattle.aig_refutation.proofs.words.End.fault.Goals as goal

pub returns-in-Line : goal.returns-in-Line
returns-in-Line c = rw c.in-Line.is
