use Rattle.aig_base.proofs.Words.{[], refl, err_from_is_err_and}
use Rattle.aig_reader.specs.declared.error.ReadError.TheVariants as read
use Rattle.aig_encode.specs.declared.error.EncodeError.TheVariants as encode
use Rattle.aig_tool_commands.specs.declared.command.Command.TheVariants as commands
use Rattle.aig_tool_commands.proofs.Printed.{cnf_answers, printed}
use Rattle.aig_tool_commands.proofs.Outcomes.{not_encoded}
use Rattle.aig_tool_commands.proofs.Running.{err_of}
use Rattle.aig_tool_commands.proofs.tool.print_cnf.Goals as goal

pub returns-in_err-read : goal.returns-in_err-read
returns-in_err-read g c =
    let p = err_from_is_err_and c.from_residual.result c.from_residual.ensures.1 in
    let told = c.in_err-read.ensures in
    let e = c.in_err-read.field-0.0 in
    rw (p.1, p.2) (not_encoded g.R.Source.left g.R.Source.failed g.W.Sink.held g.W.Sink.failed
    (commands.Cnf c.args.k c.args.optimize) _ c.args.r.now c.args.w.now _ c.args.k e refl
    told.verdict (λ is. told.never_open (err_of e (encode.Read read.Open) is)))

pub returns : goal.returns
returns g c =
    let read = c.in_ok-read.ensures in
    printed g.R.Source.left g.R.Source.failed g.W.Sink.held g.W.Sink.failed
    (commands.Cnf c.args.k c.args.optimize) 16777216 c.args.r.now c.args.w.now _ _ c.args.k
    c.args.optimize c.in_ok-read.read [] _ refl read.verdict read.answer
    (λ f lists is has formula. cnf_answers f 16777216 c.args.k c.args.optimize c.in_ok-read.read
    lists is has formula) (rw (c.new-extra.ensures, c.unrolled.ensures.value) at c.print_clauses.ensures)
