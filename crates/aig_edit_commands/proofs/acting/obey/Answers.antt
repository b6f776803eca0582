use Rattle.aig_base.proofs.Words.{◌≡◌, [], ◌∷◌, ◌++◌, ap, map, ◌∙◌, refl, subst, sym, same_Some}
use Rattle.std.specs.Prelude.{Result, string_bytes}
use Rattle.aig_command_line.specs.Ending.{WritesLine, ended}
use Rattle.aig_command_line.specs.Places.{in_whole}
use Rattle.aig_edit_commands.specs.declared.acting.CommandError.{CommandError}
use Rattle.aig_edit_commands.specs.Help.{answer_of}
use Rattle.aig_edit_commands.proofs.Calling.{never_none, no_command, one_call}
use Rattle.aig_edit_commands.specs.declared.acting.CommandError.TheVariants as refusals
use Rattle.aig_edit_commands.proofs.acting.obey.Goals as goal

pub returns-in-Some : goal.returns-in-Some
returns-in-Some g c =
    let words = map string_bytes c.args.words.now in
    let is = (c.asked.ensures c.in-Some.question).0 c.in-Some.is in
    record {
      tells = λ q are.
          subst (λ x. (done : Result (Unit {0}) CommandError)
          × (c.of.result ≡ ended (in_whole done)) × WritesLine g.W.Sink.held g.W.Sink.failed g.W.Flush.flushed refusals.Write (answer_of x ++ 10 ∷ []) c.args.w.now done c.say.new.w)
          (same_Some _ _ (sym c.in-Some.is ∙ (c.asked.ensures q).1 are)) (c.say.result, c.of.ensures ∙ ap ended c.in_whole.ensures, rw c.answer.ensures at c.say.ensures);
      none = (λ e. absurd (never_none c.in_whole.result (sym c.of.ensures ∙ e)), λ no. absurd (no.1 c.in-Some.question is));
      kept = λ e. absurd (never_none c.in_whole.result (sym c.of.ensures ∙ e));
      acts = λ limit d paths h. elim (no_command words c.in-Some.question limit d paths is h) [ ];
    }

pub returns-in_default-call_of : goal.returns-in_default-call_of
returns-in_default-call_of g c =
    let none = c.in_default-call_of.ensures.none in
    record {
      tells = λ q are. elim (c.in_default.not-Some q ((c.asked.ensures q).1 are)) [ ];
      none =
          (λ is. (none, λ q are. c.in_default.not-Some q ((c.asked.ensures q).1 are)), λ no. refl);
      kept = λ is. refl;
      acts = λ limit d paths h. elim (none limit d paths h) [ ];
    }

pub returns : goal.returns
returns g c =
    let words = map string_bytes c.args.words.now in
    let call = c.in-Some-call_of.call in
    let paths = map string_bytes call.paths.now in
    let given = c.in-Some-call_of.ensures.some in
    record {
      tells = λ q are. elim (c.in_default.not-Some q ((c.asked.ensures q).1 are)) [ ];
      none = (λ is. absurd (never_none c.perform.result (sym c.of-2.ensures ∙ is)), λ no. absurd (no.0 call.limit call.command paths given));
      kept = λ is. absurd (never_none c.perform.result (sym c.of-2.ensures ∙ is));
      acts = λ limit d others h.
          let same = one_call words limit call.limit d call.command others paths h given in
          rw (same.0, same.1, same.2) (c.perform.result, c.of-2.ensures, c.perform.ensures);
    }
