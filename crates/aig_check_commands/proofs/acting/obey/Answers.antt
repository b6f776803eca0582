use Rattle.aig_check_commands.proofs.Words.{◌≡◌, [], ◌∷◌, ◌++◌, map, refl, subst, sym, ◌∙◌, same_Some, Result, WritesLine, ended, CheckError}
use Rattle.std.specs.Prelude.{string_bytes}
use Rattle.aig_check_commands.specs.Help.{answer_of}
use Rattle.aig_check_commands.proofs.Calling.{never_none, no_command, one_call}
use Rattle.aig_check_commands.specs.declared.error.CheckError.TheVariants as errors
use Rattle.aig_check_commands.proofs.acting.obey.Goals as goal

pub returns-in-Some : goal.returns-in-Some
returns-in-Some g c =
    let words = map string_bytes c.args.words.now in
    let is = (c.asked.ensures c.in-Some.question).0 c.in-Some.is in
    record {
      tells = λ q are.
          subst (λ x. (done : Result (Unit {0}) CheckError) × (c.of.result ≡ ended done)
          × WritesLine g.W.Sink.held g.W.Sink.failed g.W.Flush.flushed errors.Write (answer_of x ++ 10 ∷ []) c.args.w.now done c.say.new.w)
          (same_Some _ _ (sym c.in-Some.is ∙ (c.asked.ensures q).1 are)) (c.say.result, c.of.ensures, rw c.answer.ensures at c.say.ensures);
      none = (λ e. absurd (never_none c.say.result (sym c.of.ensures ∙ e)), λ no. absurd (no.1 c.in-Some.question is));
      kept = λ e. absurd (never_none c.say.result (sym c.of.ensures ∙ e));
      acts = λ limit d paths further h. elim (no_command words c.in-Some.question limit d paths further is h) [ ];
    }

pub returns-in_default-call_of : goal.returns-in_default-call_of
returns-in_default-call_of g c =
    let none = c.in_default-call_of.ensures.none in
    record {
      tells = λ q are. elim (c.in_default.not-Some q ((c.asked.ensures q).1 are)) [ ];
      none = (λ e. (λ d h. none h.0 d h.1 h.2 h.3, λ q are. c.in_default.not-Some q ((c.asked.ensures q).1 are)), λ no. refl);
      kept = λ e. refl;
      acts = λ limit d paths further h. elim (none limit d paths further h) [ ];
    }

pub returns : goal.returns
returns g c =
    let words = map string_bytes c.args.words.now in
    let call = c.in-Some-call_of.call in
    let paths = map string_bytes call.paths.now in
    let beside = map string_bytes call.further.now in
    let some = c.in-Some-call_of.ensures.some in
    record {
      tells = λ q are. elim (c.in_default.not-Some q ((c.asked.ensures q).1 are)) [ ];
      none = (λ e. absurd (never_none c.print.result (sym c.of-2.ensures ∙ e)), λ no. absurd (no.0 call.asked (call.limit, paths, beside, some)));
      kept = λ e. absurd (never_none c.print.result (sym c.of-2.ensures ∙ e));
      acts = λ limit d names further h.
          let same = one_call words limit call.limit d call.asked names paths further beside h some in
          rw (same.0, same.1, same.2, same.3) (c.print.result, c.of-2.ensures, c.print.ensures.acts, c.print.ensures.done);
    }
