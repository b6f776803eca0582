use Rattle.std.proofs.lemmas.Result.{err_from_is_err_and}
use Rattle.aig_edit_commands.proofs.Flushing.{stopped, written}
use Rattle.aig_edit_commands.proofs.acting.write_pair.Goals as goal

pub returns-in_err-write_joint-clause-prints : goal.returns-in_err-write_joint-clause-prints
returns-in_err-write_joint-clause-prints g c =
    let p = err_from_is_err_and c.from_residual.result c.from_residual.ensures.1 in
    rw (p.1, p.2) c.in_err-write_joint.ensures.prints

pub returns-in_err-flush-clause-prints : goal.returns-in_err-flush-clause-prints
returns-in_err-flush-clause-prints g c =
    let p = err_from_is_err_and c.from_residual-in_err-flush.result
    c.from_residual-in_err-flush.ensures.1 in
    let failed = rw c.in_err-flush.was at c.flush.ensures.tells in
    rw (p.1, p.2) (λ f h bound bytes others low is also own other. stopped g.W.Sink.held
    g.W.Sink.failed bound c.args.w.now c.write_joint.new.w c.flush.new.self c.flush.ensures.kept
    c.args.pairing f h failed
    (c.in_ok-write_joint.ensures.prints f h bound bytes others low is also own other))

pub returns-clause-prints : goal.returns-clause-prints
returns-clause-prints g c =
    let sound = rw c.in_ok-flush.was at c.flush.ensures.tells in
    λ f h bound bytes others low is also own other. written g.W.Sink.held g.W.Sink.failed bound
    c.args.w.now c.write_joint.new.w c.flush.new.self c.flush.ensures.kept c.args.pairing f h sound
    (c.in_ok-write_joint.ensures.prints f h bound bytes others low is also own other)
