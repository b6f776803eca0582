use Rattle.std.proofs.Common.{◌++◌, rules}
use Rattle.aig_output.proofs.Putting.{Stops-before}
use Rattle.aig_check_commands.specs.Titles.{title_text}
use Rattle.aig_check_commands.specs.Comments.{comments_of}
use Rattle.aig_check_commands.proofs.check_lemmas.Pairing.{stopped_before, then_written, written_behind}
use Rattle.aig_check_commands.proofs.checks.questions.write_query.Goals as goal

pub returns-in_err-write_title : goal.returns-in_err-write_title
returns-in_err-write_title g c =
    let u = c.args.asked.now in
    let comments = comments_of u.circuit u.unrolled u.steps in
    stopped_before (title_text c.args.title.now ++ comments)
    (rw c.unrolled-unrolled.ensures.value at c.tell_circuit.ensures)
    (Stops-before comments c.in_err-write_title.ensures.err) (search rules)

pub returns-in_err-write_comments : goal.returns-in_err-write_comments
returns-in_err-write_comments g c =
    let u = c.args.asked.now in
    let title = title_text c.args.title.now in
    stopped_before (title ++ comments_of u.circuit u.unrolled u.steps)
    (rw c.unrolled-unrolled.ensures.value at c.tell_circuit.ensures)
    (then_written title c.in_ok-write_title.ensures.ok c.in_err-write_comments.ensures).err
    (search rules)

pub returns : goal.returns
returns g c =
    let u = c.args.asked.now in
    let title = title_text c.args.title.now in
    written_behind (title ++ comments_of u.circuit u.unrolled u.steps)
    (then_written title c.in_ok-write_title.ensures.ok c.in_ok-write_comments.ensures).ok
    (rw c.unrolled-unrolled.ensures.value at c.write_circuit.ensures)
