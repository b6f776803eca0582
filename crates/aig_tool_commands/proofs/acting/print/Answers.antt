use Rattle.std.proofs.lemmas.Result.{err_from_is_err_and}
use Rattle.aig_tool_commands.proofs.Flushing.{print_flushed, print_unflushed}
use Rattle.aig_tool_commands.proofs.acting.print.Goals as goal

pub returns-in_err-flush : goal.returns-in_err-flush
returns-in_err-flush g c =
    let p = err_from_is_err_and c.from_residual-in_err-flush.result
    c.from_residual-in_err-flush.ensures.1 in
    let failed = rw c.in_err-flush.was at c.flush.ensures.tells in
    rw (p.1, p.2) (print_unflushed (g.F.Opens.opens c.args.files.now) g.F.File.Source.left
    g.F.File.Source.failed g.W.Sink.held g.W.Sink.failed g.W.Flush.flushed c.args.command
    c.args.path.now tt c.args.w.now c.run_on.new.w c.flush.new.self c.in_ok-run_on.ensures
    c.flush.ensures.kept failed)

pub returns : goal.returns
returns g c =
    let sound = rw c.in_ok-flush.was at c.flush.ensures.tells in
    print_flushed (g.F.Opens.opens c.args.files.now) g.F.File.Source.left g.F.File.Source.failed
    g.W.Sink.held g.W.Sink.failed g.W.Flush.flushed c.args.command c.args.path.now tt
    c.args.w.now c.run_on.new.w c.flush.new.self c.in_ok-run_on.ensures c.flush.ensures.kept
    sound c.in_ok-flush.ensures.done
