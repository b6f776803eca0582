use Rattle.aig_calls.proofs.pair_checks.simulate.Goals as goal

pub returns : goal.returns
returns c =
    let run = c.check_simulated in
    let read = rw (
      c.new.ensures,
      c.new-2.ensures,
      c.new-3.ensures,
      c.new-4.ensures,
      c.new-5.ensures,
      c.new-6.ensures,
      c.new-7.ensures,
    ) at run.ensures.reads in
    (run.result, run.new.file, run.new.witness, read, c.status_of.ensures)
