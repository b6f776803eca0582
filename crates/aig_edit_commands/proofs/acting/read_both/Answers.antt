use Rattle.aig_base.proofs.Words.{refl, subst, sym}
use Rattle.aig_reader.specs.Verdicts.{IsOfFile}
use Rattle.aig_reader.proofs.Verdicts.{of_no_file}
use Rattle.aig_edits.proofs.Reading.{both_read}
use Rattle.aig_edit_commands.proofs.acting.read_both.Goals as goal

pub returns-in-Ok-read_placed : goal.returns-in-Ok-read_placed
returns-in-Ok-read_placed g c =
    let own = c.in-Ok.ensures in
    let other = c.in-Ok-read_placed.ensures in (
      own.rest,
      other.rest,
      record {
        reads = both_read g.R.Source.left g.R.Source.failed g.S.Source.left g.S.Source.failed
            c.args.limit c.args.first c.args.second own.rest other.rest c.in-Ok.own
            c.in-Ok-read_placed.other own.verdict other.verdict own.circuit other.circuit;
        place = tt;
      },
    )

pub returns-in-Err : goal.returns-in-Err
returns-in-Err g c =
    let own = c.in-Err.ensures in
    let e = c.in-Err.refused.error in (
      own.rest,
      c.args.second,
      record {
        reads = record {
          verdict = own.verdict;
          other_verdict = λ is. absurd (of_no_file e (subst IsOfFile (sym is) tt));
          unread = λ _. refl;
          answer = λ is _. absurd (of_no_file e (subst IsOfFile (sym is) tt));
          own = own.own;
        };
        place = own.place;
      },
    )

pub returns-in-Err-read_placed : goal.returns-in-Err-read_placed
returns-in-Err-read_placed g c =
    let own = c.in-Ok.ensures in
    let other = c.in-Err-read_placed.ensures in
    let e = c.in-Err-read_placed.refused.error in (
      own.rest,
      other.rest,
      record {
        reads = record {
          verdict = own.verdict;
          other_verdict = λ _. other.verdict;
          unread = λ not. absurd (not refl);
          answer = λ _ is. absurd (of_no_file e (subst IsOfFile (sym is) tt));
          own = other.own;
        };
        place = other.place;
      },
    )
