use Rattle.aig_check_commands.proofs.Words.{[], ◌∷◌, ◌++◌, err_from_is_err_and, said_unflushed}
use Rattle.aig_check_commands.specs.declared.error.CheckError.TheVariants as errors
use Rattle.aig_check_commands.proofs.acting.say.Goals as goal

pub returns-in_err-flush : goal.returns-in_err-flush
returns-in_err-flush g c =
    let p = err_from_is_err_and c.from_residual-in_err-flush.result c.from_residual-in_err-flush.ensures.1 in
    let failed = rw c.in_err-flush.was at c.flush.ensures.tells in
    rw (p.1, p.2) (said_unflushed g.W.Sink.held g.W.Sink.failed g.W.Flush.flushed errors.Write (c.args.text.now ++ 10 ∷ []) c.args.w.now c.write_text.new.w c.flush.new.self (rw c.as_bytes.ensures.value at c.in_ok-write_text.ensures.ok) c.flush.ensures.kept failed)
