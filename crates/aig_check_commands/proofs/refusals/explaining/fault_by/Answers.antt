use Rattle.aig_base.proofs.Words.{map, refl, string_bytes}
use Rattle.aig_check_commands.proofs.Calling.{one_call}
use Rattle.aig_check_commands.proofs.refusals.explaining.fault_by.Goals as goal

pub returns-in-Some : goal.returns-in-Some
returns-in-Some g c = record {
  error = c.fault_of.ensures.error;
  told = λ limit d paths further h.
      let words = map string_bytes c.args.words.now in
      let call = c.in-Some.call in
      let same = one_call words limit call.limit d call.asked paths (map string_bytes call.paths.now) further
      (map string_bytes call.further.now) h c.in-Some.ensures.some in
      rw (same.0, same.1, same.2, same.3) c.fault_of.ensures;
}

pub returns-in-None : goal.returns-in-None
returns-in-None g c = record {
  error = refl;
  told = λ limit d paths further h. elim (c.in-None.ensures.none limit d paths further h) [ ];
}
