use Rattle.aig_check_commands.proofs.Words.{rules, Stops-before, failed_put}
use Rattle.aig_check_commands.specs.Titles.{title_text}
use Rattle.aig_check_commands.specs.Bounded.{bounded_comments}
use Rattle.aig_check_commands.proofs.check_lemmas.Pairing.{then_written}
use Rattle.aig_check_commands.proofs.checks.bounded.write_front.Goals as goal

pub returns-in_err-write_title : goal.returns-in_err-write_title
returns-in_err-write_title g c =
    failed_put (Stops-before (bounded_comments c.args.made.now) c.in_err-write_title.ensures.err)
    (search rules)

pub returns : goal.returns
returns g c =
    then_written (title_text c.args.title.now) c.in_ok-write_title.ensures.ok c.write_places.ensures
