use Rattle.std.proofs.Common.{◌∙◌, sym, subst, arith, rules}
use Rattle.aig_output.specs.Sinks.{WritesOrStops}
use Rattle.aig_output.proofs.Putting.{failed_put, sink_laws, written_through}
use Rattle.aig_output.proofs.Writing.{all_written, some_written}
use Rattle.aig_writer.proofs.form.write_form.Goals as goal

pub returns-in_err-write_sections : goal.returns-in_err-write_sections
returns-in_err-write_sections g c =
    let stopped = some_written (sink_laws g.W.Sink.held g.W.Sink.failed) c.in_err-write_sections.ensures.err in
    let name = sym (stopped.0 ∙ c.new-out.ensures.same) in
    subst (WritesOrStops _ _ _ _ _) (grind arith) (failed_put {b = c.write_sections.new.out.sink.now} (rw (c.new-out.ensures.sink, c.new-out.ensures.empty) at stopped.1) (search rules))

pub returns : goal.returns
returns g c =
    let wrote = all_written (sink_laws g.W.Sink.held g.W.Sink.failed) c.in_ok-write_sections.ensures.ok in
    let name = sym (c.flush.ensures.same ∙ wrote.0 ∙ c.new-out.ensures.same) in
    subst (WritesOrStops _ _ _ _ _) (grind arith) (written_through c.new-out.ensures.empty (rw c.new-out.ensures.sink at wrote.1) c.flush.ensures.writes)
