use Rattle.aig_base.proofs.Words.{map, ◌∙◌, refl, sym, string_bytes}
use Rattle.aig_tool_commands.proofs.Calling.{never_none, one_call}
use Rattle.aig_tool_commands.proofs.acting.obey.Goals as goal

pub returns-in-Some : goal.returns-in-Some
returns-in-Some g c =
    let words = map string_bytes c.args.words.now in
    let paths = map string_bytes c.in-Some.paths.now in
    let call = c.in-Some.ensures.some in
    record {
      none = (
        λ is. absurd (never_none c.perform.result (sym c.of.ensures ∙ is)),
        λ no. absurd
            (no c.in-Some.command (paths, call)),
      );
      kept = λ is. absurd (never_none c.perform.result (sym c.of.ensures ∙ is));
      acts = λ d others h. let same = one_call words d c.in-Some.command others paths h
          call in rw (same.0, same.1) (c.perform.result, c.of.ensures, c.perform.ensures);
    }

pub returns-in-None : goal.returns-in-None
returns-in-None g c =
    let none = c.in-None.ensures.none in
    record {
      none = (λ is d h. none d h.0 h.1, λ no. refl);
      kept = λ is. refl;
      acts = λ d paths h. elim (none d paths h) [ ];
    }
