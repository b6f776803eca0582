use Rattle.aig_base.proofs.Words.{Err, Ok, err_from_is_err_and, map, string_bytes}
use Rattle.aig_check_commands.specs.declared.error.CheckError.TheVariants as errors
use Rattle.aig_check_commands.proofs.check_lemmas.Flushing.{acts_ended}
use Rattle.aig_check_commands.proofs.acting.print.Goals as goal

pub returns-in_err-flush-clause-acts : goal.returns-in_err-flush-clause-acts
returns-in_err-flush-clause-acts g c =
    let p = err_from_is_err_and c.from_residual-in_err-flush.result c.from_residual-in_err-flush.ensures.1 in
    let failed = rw c.in_err-flush.was at c.flush.ensures.tells in
    rw (p.1, p.2) (acts_ended g.W.Sink.held g.W.Sink.failed c.args.w.now c.act_on.new.w c.flush.new.self
    c.flush.ensures.kept tt (Err errors.Write) failed g.F.File.Source.left g.F.File.Source.failed
    c.args.call.now.limit (g.F.Opens.opens c.args.files.now) c.args.call.now.asked
    (map string_bytes c.args.call.now.paths.now) (map string_bytes c.args.call.now.further.now)
    c.in_ok-act_on.ensures)

pub returns-clause-acts : goal.returns-clause-acts
returns-clause-acts g c =
    let sound = rw c.in_ok-flush.was at c.flush.ensures.tells in
    acts_ended g.W.Sink.held g.W.Sink.failed c.args.w.now c.act_on.new.w c.flush.new.self
    c.flush.ensures.kept tt (Ok tt) sound g.F.File.Source.left g.F.File.Source.failed
    c.args.call.now.limit (g.F.Opens.opens c.args.files.now) c.args.call.now.asked
    (map string_bytes c.args.call.now.paths.now) (map string_bytes c.args.call.now.further.now)
    c.in_ok-act_on.ensures

pub returns-in_err-act_on-clause-acts : goal.returns-in_err-act_on-clause-acts
returns-in_err-act_on-clause-acts g c =
    let p = err_from_is_err_and c.from_residual.result c.from_residual.ensures.1 in
    rw (p.1, p.2) c.in_err-act_on.ensures
