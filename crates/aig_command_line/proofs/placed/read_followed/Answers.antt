use Rattle.aig_base.proofs.Words.{◌≡◌, Ok, prepend_known, prepend_known-nil, subst, sym, ◌∙◌}
use Rattle.aig_format.specs.Fits.{Accepts}
use Rattle.aig_reader.specs.Reading.{AreListsOf, IsReadAs}
use Rattle.aig_reader.specs.Verdicts.{Accepted, Judges}
use Rattle.aig_reader.proofs.Verdicts.{judged_at_end, read_at_end}
use Rattle.aig_command_line.proofs.placed.read_followed.Goals as goal

pub returns-in-Ok : goal.returns-in-Ok
returns-in-Ok g c =
    let limit = c.args.limit in
    let lists = c.in-Ok.lists in
    let told = c.in-Ok.ensures in
    let first = c.new-followed.result.source in
    let rest = c.read_with.new.r.source in
    let held = c.read_with.new.buffer in
    let left = g.R.Source.left in
    let failed = g.R.Source.failed in
    let old = prepend_known c.new-buffer.result (left first) in
    let start : old ≡ left c.args.source =
    rw c.new-buffer.ensures (prepend_known-nil (left first)) ∙ c.new-followed.ensures
    ∙ sym c.requires.origin in
    record {
      rest = rest;
      circuit = subst
          (λ o. IsReadAs (λ bytes. Accepts bytes limit) AreListsOf o (left rest) lists) start
          (read_at_end (λ _. Accepted) limit old held (left rest) (failed rest) AreListsOf (Ok lists)
          told.verdict told.circuit);
      verdict = subst (λ o. Judges (λ _. Accepted) limit o (left rest) (failed rest) Accepted) start
          (judged_at_end (λ _. Accepted) limit old held (left rest) (failed rest) Accepted
          told.verdict);
      own = tt;
      place = tt;
    }
