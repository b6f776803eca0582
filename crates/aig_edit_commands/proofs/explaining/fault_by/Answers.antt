use Rattle.aig_base.proofs.Words.{map, refl, string_bytes}
use Rattle.aig_edit_commands.proofs.Calling.{one_call}
use Rattle.aig_edit_commands.proofs.explaining.fault_by.Goals as goal

pub returns-in-Some : goal.returns-in-Some
returns-in-Some c = record {
  error = c.fault_of.ensures.error;
  told = λ limit d paths h.
      let words = map string_bytes c.args.words.now in
      let call = c.in-Some.call in
      let same = one_call words limit call.limit d call.command paths (map string_bytes call.paths.now) h c.in-Some.ensures.some in
      rw same.2 c.fault_of.ensures;
}

pub returns-in-None : goal.returns-in-None
returns-in-None c = record {
  error = refl;
  told = λ limit d paths h. elim (c.in-None.ensures.none limit d paths h) [ ];
}
