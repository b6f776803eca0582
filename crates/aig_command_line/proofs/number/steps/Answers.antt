use Rattle.std.proofs.Common.{sym, ap, ◌∙◌, [], ◌∷◌}
use Rattle.std.specs.List.{starts_with}
use Rattle.std.proofs.Math.Dec.{eqb}
use Rattle.std.proofs.lemmas.Str.Parse.{parse_plain}
use Rattle.aig_command_line.proofs.Parsing.{no_number_parsed, no_plus, number_parsed, own}
use Rattle.aig_command_line.proofs.number.steps.Goals as goal

pub returns-in-Ok-clause-exact : goal.returns-in-Ok-clause-exact
returns-in-Ok-clause-exact c =
    let plain = no_plus c.args.word.now (ap (λ bytes. starts_with eqb bytes (43 ∷ [])) (sym c.as_bytes.ensures.value) ∙ sym c.starts_with.ensures.value ∙ c.if-starts_with.false) in
    let told = parse_plain own 32 c.args.word.now c.parse.result c.parse.ensures.value.0 plain in
    number_parsed c.args.word.now c.in-Ok.k (rw c.in-Ok.is at told)

pub returns-in-Err-clause-exact : goal.returns-in-Err-clause-exact
returns-in-Err-clause-exact c =
    let plain = no_plus c.args.word.now (ap (λ bytes. starts_with eqb bytes (43 ∷ [])) (sym c.as_bytes.ensures.value) ∙ sym c.starts_with.ensures.value ∙ c.if-starts_with.false) in
    let told = parse_plain own 32 c.args.word.now c.parse.result c.parse.ensures.value.0 plain in
    no_number_parsed c.args.word.now (rw c.in-Err.is at told)
