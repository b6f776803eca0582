use Rattle.std.proofs.lemmas.Result.{err_from_is_err_and}
use Rattle.aig_reader.specs.declared.error.ReadError.TheVariants as read
use Rattle.aig_tool_commands.proofs.Outcomes.{circuit_end, not_read}
use Rattle.aig_tool_commands.proofs.Running.{err_of}
use Rattle.aig_tool_commands.proofs.tool.print_file.Goals as goal

pub returns-in_err-circuit : goal.returns-in_err-circuit
returns-in_err-circuit g c =
    let p = err_from_is_err_and c.from_residual.result c.from_residual.ensures.1 in
    let told = c.in_err-circuit.ensures in
    let e = c.in_err-circuit.field-0.0 in
    rw (p.1, p.2) (not_read g.R.Source.left g.R.Source.failed g.W.Sink.held g.W.Sink.failed c.args.c
    _ c.args.r.now c.args.w.now _ e c.requires told.verdict
    (λ is. told.never_open (err_of e read.Open is)))

pub returns : goal.returns
returns g c =
    let read = c.in_ok-circuit.ensures in
    circuit_end g.R.Source.left g.R.Source.failed g.W.Sink.held g.W.Sink.failed c.args.c _
    c.args.r.now c.args.w.now _ _ c.in_ok-circuit.circuit c.print_circuit.result c.requires
    read.verdict read.circuit c.print_circuit.ensures
