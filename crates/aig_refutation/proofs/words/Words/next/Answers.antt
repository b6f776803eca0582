use Rattle.std.proofs.lemmas.Result.{err_from_is_err_and}
use Rattle.aig_refutation.proofs.NearWords.{near_ends, near_stops}
use Rattle.aig_refutation.proofs.words.Words.next.Goals as goal

pub returns-in_err-end_word-clause-word : goal.returns-in_err-end_word-clause-word
returns-in_err-end_word-clause-word g c =
    let p = err_from_is_err_and c.from_residual.result c.from_residual.ensures.1 in
    let near = rw (← c.self.view_is) at c.in-Some.ensures in
    rw (p.1, p.2, ← c.self.view_is, near.goes_on)
    (near_stops g.R.Source.left g.R.Source.failed g.R.Source.pulls c.args.r.now
    c.in-Some.found.positive c.in-Some.found.value c.in-Some.found.end c.self.inside.buffer
    c.in-Some.found.count near.reads c.end_word.new.self.end c.in_err-end_word.field-0.0
    (rw near.goes_on at c.in_err-end_word.ensures.ended))

pub returns-clause-word : goal.returns-clause-word
returns-clause-word g c =
    let near = rw (← c.self.view_is) at c.in-Some.ensures in
    rw (← c.self.view_is, near.goes_on, c.end_word.ensures.same, c.consume.ensures)
    (near_ends g.R.Source.left g.R.Source.failed g.R.Source.pulls c.args.r.now
    c.in-Some.found.positive c.in-Some.found.value c.in-Some.found.end c.self.inside.buffer
    c.in-Some.found.count near.reads c.end_word.new.self.end
    (rw near.goes_on at c.in_ok-end_word.ensures.ended))
