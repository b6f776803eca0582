use Rattle.std.proofs.lemmas.Result.{err_from_is_err_and}
use Rattle.aig_calls.proofs.Given.{on, short}
use Rattle.aig_calls.proofs.numbers.ask.Goals as goal

pub returns-in_err-asked : goal.returns-in_err-asked
returns-in_err-asked c =
    let p = err_from_is_err_and c.from_residual.result c.from_residual.ensures.1 in
    rw (p.1, p.2) (on c.new-source.result c.read_query.new.r c.new-source.ensures.reader (record {
      answer = tt;
      verdict = c.in_err-asked.ensures.verdict;
      own = c.in_err-asked.ensures.own;
    }))

pub returns-in_err-list : goal.returns-in_err-list
returns-in_err-list c =
    let p = err_from_is_err_and c.from_residual-in_err-list.result
    c.from_residual-in_err-list.ensures.1 in
    rw (p.1, p.2) (on c.new-source.result c.read_query.new.r c.new-source.ensures.reader (record {
      answer = tt;
      verdict = short c.in_ok-asked.ensures.verdict;
      own = λ is. cc;
    }))

pub returns : goal.returns
returns c =
    let asked = c.in_ok-asked.ensures in
    on c.new-source.result c.read_query.new.r c.new-source.ensures.reader (record {
      answer = record {
        file = asked.answer.file;
        bytes = asked.answer.bytes;
        holds = asked.answer.holds;
        means = (c.in_ok-asked.asked, asked.answer.means, c.in_ok-list.ensures);
        taken = asked.answer.taken;
      };
      verdict = asked.verdict;
      own = tt;
    })
