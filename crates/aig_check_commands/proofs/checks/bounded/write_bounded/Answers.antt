use Rattle.aig_check_commands.proofs.Words.{rules, clauses_in, Stops-before, failed_put}
use Rattle.std.proofs.Common.{◌++◌, length}
use Rattle.aig_dimacs.specs.Text.{dimacs_of}
use Rattle.aig_check_commands.specs.Titles.{title_text}
use Rattle.aig_check_commands.specs.Bounded.{bounded_comments}
use Rattle.aig_check_commands.proofs.check_lemmas.Pairing.{then_written}
use Rattle.aig_check_commands.proofs.checks.bounded.write_bounded.Goals as goal

pub returns-in_err-write_front : goal.returns-in_err-write_front
returns-in_err-write_front g c =
    let made = c.args.made.now in
    failed_put (Stops-before (dimacs_of (length made.clauses) (clauses_in made.clauses ++ made.extra)) c.in_err-write_front.ensures.err) (search rules)

pub returns : goal.returns
returns g c = then_written (title_text c.args.title.now ++ bounded_comments c.args.made.now) c.in_ok-write_front.ensures.ok c.write_dimacs.ensures.writes
