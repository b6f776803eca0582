use Rattle.aig_base.proofs.Words.{Err, refl}
use Rattle.aig_tool_commands.proofs.acting.write_to.Goals as goal

pub returns-in-true : goal.returns-in-true
returns-in-true g c = record {
  written = Err c.in-Err.fault;
  made = c.run_on.new.w;
  runs = c.in-Err.ensures;
  ok = tt;
  err = (rw (← c.in-true.ensures) refl, λ is. cc);
}

pub returns-in-false : goal.returns-in-false
returns-in-false g c = record {
  written = Err c.in-Err.fault;
  made = c.run_on.new.w;
  runs = c.in-Err.ensures;
  ok = tt;
  err = (rw (← c.in-false.ensures) refl, λ is. cc);
}
