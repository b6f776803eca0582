use Rattle.std.proofs.lemmas.Result.{err_from_is_err_and}
use Rattle.aig_edit_commands.proofs.Flushing.{print_flushed, print_unflushed}
use Rattle.aig_edit_commands.proofs.acting.write_flushed.Goals as goal

pub returns-in_err-write_made-clause-prints : goal.returns-in_err-write_made-clause-prints
returns-in_err-write_made-clause-prints g c =
    let p = err_from_is_err_and c.from_residual.result c.from_residual.ensures.1 in
    rw (p.1, p.2) c.in_err-write_made.ensures.prints

pub returns-in_err-flush-clause-prints : goal.returns-in_err-flush-clause-prints
returns-in_err-flush-clause-prints g c =
    let p = err_from_is_err_and c.from_residual-in_err-flush.result
    c.from_residual-in_err-flush.ensures.1 in
    let failed = rw c.in_err-flush.was at c.flush.ensures.tells in
    rw (p.1, p.2) (λ f bound fits is. print_unflushed g.W.Sink.held g.W.Sink.failed c.args.limit
    c.args.w.now c.write_made.new.w c.flush.new.self c.flush.ensures.kept c.args.command.now f tt
    failed (c.in_ok-write_made.ensures.prints f bound fits is))

pub returns-clause-prints : goal.returns-clause-prints
returns-clause-prints g c =
    let sound = rw c.in_ok-flush.was at c.flush.ensures.tells in
    λ f bound fits is. print_flushed g.W.Sink.held g.W.Sink.failed c.args.limit c.args.w.now
    c.write_made.new.w c.flush.new.self c.flush.ensures.kept c.args.command.now f tt sound
    (c.in_ok-write_made.ensures.prints f bound fits is)
