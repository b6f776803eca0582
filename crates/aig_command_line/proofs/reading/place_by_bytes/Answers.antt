use Rattle.aig_base.proofs.Words.{◌≡◌, inr, prepend_known}
use Rattle.aig_command_line.proofs.reading.place_by_bytes.Goals as goal

pub returns-in-Err : goal.returns-in-Err
returns-in-Err g c =
    let same : c.in-Err.again ≡ c.args.error = c.is_same.ensures c.if-is_same.true in
    inr (record {
      measure = c.args.measure;
      told = c.requires.told;
      at = c.place.ensures;
      rest = prepend_known c.read.new.r.buffer (g.R.Source.left c.read.new.r.source);
      failed = c.read.new.r.failed;
      refused = rw (← same, ← c.new-counted.ensures) c.in-Err.ensures.verdict;
    })
