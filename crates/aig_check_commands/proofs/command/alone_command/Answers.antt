use Rattle.aig_base.proofs.Words.{ap, map, string_bytes, sym, ◌++◌, ◌∷◌, [], ◌∙◌}
use Rattle.aig_check_commands.proofs.Calling.{last_words, plain_none, proofless_none, raw_none}
use Rattle.aig_check_commands.proofs.command.alone_command.Goals as goal

pub returns-in_err-usual-clause-none : goal.returns-in_err-usual-clause-none
returns-in_err-usual-clause-none c =
    rw c.from_residual-in_err-usual.ensures (plain_none (map string_bytes c.args.words.now)
    (map string_bytes c.in_ok-last.plain.now) (string_bytes c.in_ok-last.last.now)
    (last_words c.args.words.now c.in_ok-last.plain.now c.in_ok-last.last.now
    c.in_ok-last.ensures.cases.0) c.in_err-usual.ensures.none)

pub returns-then-not-given-clause-none : goal.returns-then-not-given-clause-none
returns-then-not-given-clause-none c =
    raw_none (map string_bytes c.args.words.now)
    (map string_bytes c.in_ok-last.plain.now) (string_bytes c.in_ok-last.last.now)
    c.in_ok-usual.usual _
    (last_words c.args.words.now c.in_ok-last.plain.now c.in_ok-last.last.now
    c.in_ok-last.ensures.cases.0) c.in_ok-usual.ensures.some c.if-not-given.true

pub returns-in_err-command-clause-none : goal.returns-in_err-command-clause-none
returns-in_err-command-clause-none c =
    let plain = map string_bytes c.in_ok-last.plain.now in
    let word = (c.raw_word.ensures c.in_ok-step_optimize.step_optimize).0
    c.in_ok-step_optimize.was in
    rw c.from_residual-in_err-command.ensures (proofless_none (map string_bytes c.args.words.now)
    plain c.in_ok-step_optimize.step_optimize c.in_ok-usual.usual _
    (last_words c.args.words.now c.in_ok-last.plain.now c.in_ok-last.last.now
    c.in_ok-last.ensures.cases.0 ∙ ap (λ w. plain ++ w ∷ []) word)
    c.in_ok-usual.ensures.some (sym c.in_err-command.ensures.exact))

pub returns-clause-some : goal.returns-clause-some
returns-clause-some c =
    let plain = map string_bytes c.in_ok-last.plain.now in
    let word = (c.raw_word.ensures c.in_ok-step_optimize.step_optimize).0
    c.in_ok-step_optimize.was in
    record {
      plain = plain;
      step = c.in_ok-step_optimize.step_optimize;
      spelled = last_words c.args.words.now c.in_ok-last.plain.now c.in_ok-last.last.now
          c.in_ok-last.ensures.cases.0 ∙ ap (λ w. plain ++ w ∷ []) word;
      usual = c.in_ok-usual.usual;
      whole = c.in_ok-usual.ensures.some;
      optimized = c.if-not-given.false;
      command = sym c.in_ok-command.ensures.exact;
    }
