use Rattle.aig_base.proofs.Words.{rules, on_ok_weaker, on_err_weaker}
use Rattle.aig_output.proofs.Putting.{Buffers-through, Stops-before, Stops-put, failed_now}
use Rattle.aig_output.proofs.buffer.OutputBuffer.flush_and_push.Goals as goal

pub returns-in_err-flush : goal.returns-in_err-flush
returns-in_err-flush g c = failed_now (Stops-before c.args.piece.now c.in_err-flush.ensures.writes.err) (search rules)

pub returns-then-piece-gt-SIZE : goal.returns-then-piece-gt-SIZE
returns-then-piece-gt-SIZE g c =
    let flushed = c.in_ok-flush.ensures in
    record {
      ok = on_ok_weaker _ (Buffers-through _ _ _ _ _ _ flushed.writes.ok flushed.empty) c.put_all.ensures.ok;
      err = on_err_weaker _ (Stops-put _ _ _ _ _ _ flushed.writes.ok) c.put_all.ensures.err;
    }
