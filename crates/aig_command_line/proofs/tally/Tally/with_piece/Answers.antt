use Rattle.aig_base.proofs.Words.{◌≡◌, arith, length-append}
use Rattle.aig_command_line.specs.Counts.{feeds_in}
use Rattle.aig_command_line.proofs.Counting.{feed_last, line_last, other_last}
use Rattle.aig_command_line.proofs.tally.Tally.with_piece.Goals as goal
use Rattle.aig_command_line.proofs.tally.Tally.with_piece.Goals.{else-last-eq10, then-last-eq10}

pub returns : goal.returns
returns c = λ came counts.
    let t = c.args.self in
    let piece = c.args.piece.now in
    let others = c.in-Some.front.now in
    let last = c.in-Some.last.now in
    let is = c.in-Some.ensures.cases.0 in
    let feeds : c.feeds_in.result ≡ feeds_in others = c.feeds_in.ensures.count in
    let line = line_last t came piece others last counts is in
    record {
      bytes = omega (arith, c.in_ok-bytes.ensures, counts.bytes, length-append came piece);
      feeds = elim c.if-last-eq10.branch [
        | then-last-eq10 w ↦
            let all = feed_last t came piece others last counts is w.if-last-eq10.true in
            omega (arith, all, feeds, w.result-is)
        | else-last-eq10 w ↦
            let all = other_last t came piece others last counts is w.if-last-eq10.false in
            omega (arith, all, feeds, w.result-is)
      ];
      line = omega (arith, line, feeds);
      first = c.first_with.ensures came counts;
      second = c.second_with.ensures came counts;
      zero = c.zero_with.ensures came counts;
    }
