use Rattle.aig_base.proofs.Words.{ap, map, refl, string_bytes, ◌∷◌, ◌∙◌}
use Rattle.aig_check_commands.proofs.Calling.{no_numbered}
use Rattle.aig_check_commands.proofs.file_subjects.numbered.Goals as goal

pub returns-in_err-number-in-Some-clause-none : goal.returns-in_err-number-in-Some-clause-none
returns-in_err-number-in-Some-clause-none c =
    rw c.from_residual.ensures (no_numbered c.args.name.now (map string_bytes c.args.words.now)
    (map string_bytes c.in-Some.words.now) c.in-Some.ensures.some
    c.in_err-number-in-Some.ensures.none)

pub returns-in_ok-number-in-Some-clause-some : goal.returns-in_ok-number-in-Some-clause-some
returns-in_ok-number-in-Some-clause-some c =
    let is = c.in_ok-number-in-Some.ensures.some in
    (is.0, c.in-Some.ensures.some ∙ ap (λ l. c.args.name.now ∷ l) is.2, is.1)

pub returns-in-None-clause-some : goal.returns-in-None-clause-some
returns-in-None-clause-some c = (c.in-None.ensures.none, refl)
