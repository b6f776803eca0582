use Rattle.aig_base.proofs.Words.{map, refl, string_bytes}
use Rattle.aig_check_commands.proofs.Calling.{one_call}
use Rattle.aig_check_commands.proofs.refusals.noticing.tell_beside.Goals as goal

pub returns-in_default-call_of : goal.returns-in_default-call_of
returns-in_default-call_of g c = record {
  done = λ is limit d paths further h.
      elim (c.in_default-call_of.ensures.none limit d paths further h) [ ];
  otherwise = λ not. refl;
  nothing = λ none. refl;
}

pub returns : goal.returns
returns g c =
    let words = map string_bytes c.args.words.now in
    let call = c.in-Some.call in
    let paths = map string_bytes call.paths.now in
    let beside = map string_bytes call.further.now in
    let given = c.in-Some.ensures.some in
    record {
      done = λ is limit d others further h.
          let same = one_call words limit call.limit d call.asked others paths further beside h given in
          rw (same.1, same.2, ← c.regard_of.ensures) c.tell_of_files.ensures;
      otherwise = λ not. absurd (not c.in-Done.is);
      nothing = λ none. absurd (none call.limit call.asked paths beside given);
    }
