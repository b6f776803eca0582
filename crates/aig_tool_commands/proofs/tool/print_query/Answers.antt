use Rattle.aig_base.proofs.Words.{refl, err_from_is_err_and}
use Rattle.aig_reader.proofs.Verdicts.{short_of}
use Rattle.aig_reader.specs.declared.error.ReadError.TheVariants as read
use Rattle.aig_encode.specs.declared.error.EncodeError.TheVariants as encode
use Rattle.aig_tool_commands.specs.declared.command.Command.TheVariants as commands
use Rattle.aig_tool_commands.proofs.Printed.{printed, query_answers}
use Rattle.aig_tool_commands.proofs.Outcomes.{not_encoded}
use Rattle.aig_tool_commands.proofs.Running.{err_of}
use Rattle.aig_tool_commands.proofs.tool.print_query.Goals as goal

pub returns-in_err-read : goal.returns-in_err-read
returns-in_err-read g c =
    let p = err_from_is_err_and c.from_residual.result c.from_residual.ensures.1 in
    let told = c.in_err-read.ensures in
    let e = c.in_err-read.field-0.0 in
    rw (p.1, p.2) (not_encoded g.R.Source.left g.R.Source.failed g.W.Sink.held g.W.Sink.failed
    (commands.Query c.args.k c.args.optimize) _ c.args.r.now c.args.w.now _ c.args.k e refl
    told.verdict (λ is. told.never_open (err_of e (encode.Read read.Open) is)))

pub returns-in_err-extra : goal.returns-in_err-extra
returns-in_err-extra g c =
    let p = err_from_is_err_and c.from_residual-in_err-extra.result
    c.from_residual-in_err-extra.ensures.1 in
    rw (p.1, p.2, c.in_err-extra.ensures.memory)
    (not_encoded g.R.Source.left g.R.Source.failed g.W.Sink.held g.W.Sink.failed
    (commands.Query c.args.k c.args.optimize) _ c.args.r.now c.args.w.now _ c.args.k
    encode.Memory refl (short_of _ 16777216 _ _ _ c.in_ok-read.ensures.verdict) (λ is. cc))

pub print_clauses-requires-clause-below : goal.print_clauses-requires-clause-below
print_clauses-requires-clause-below g c =
    rw c.unrolled.ensures.value c.in_ok-extra.ensures.below

pub returns : goal.returns
returns g c =
    let read = c.in_ok-read.ensures in
    let u = c.in_ok-read.read in
    let extra = c.in_ok-extra.extra in
    printed g.R.Source.left g.R.Source.failed g.W.Sink.held g.W.Sink.failed
    (commands.Query c.args.k c.args.optimize) 16777216 c.args.r.now c.args.w.now _ _ c.args.k
    c.args.optimize u extra _ refl read.verdict read.answer
    (λ f lists is has formula. query_answers f 16777216 c.args.k c.args.optimize u lists is has
    extra c.in_ok-extra.ensures.exact formula) (rw c.unrolled.ensures.value at
    c.print_clauses.ensures)
