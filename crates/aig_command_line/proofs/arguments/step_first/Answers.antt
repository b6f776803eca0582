use Rattle.aig_base.proofs.Words.{map, string_bytes, IfSome_then}
use Rattle.aig_command_line.proofs.Giving.{none_by, number_at, number_each, number_up_to}
use Rattle.aig_command_line.proofs.arguments.step_first.Goals as goal

pub returns-in-At-clause-some : goal.returns-in-At-clause-some
returns-in-At-clause-some c =
    IfSome_then c.number_first.result c.number_first.ensures.some
    (λ p first. number_at c.args.form p.0 (map string_bytes c.args.words.now) first.0 _ c.in-At.is first.1 first.2)

pub returns-in_ok-after_word-in-UpTo-clause-some : goal.returns-in_ok-after_word-in-UpTo-clause-some
returns-in_ok-after_word-in-UpTo-clause-some c =
    let to = c.in_ok-after_word-in-UpTo.ensures.some in
    IfSome_then c.number_first-in-UpTo.result c.number_first-in-UpTo.ensures.some
    (λ p first. number_up_to c.args.form p.0 (map string_bytes c.args.words.now) first.0 _ _ c.in-UpTo.is to first.1 first.2)

pub returns-in_ok-after_word-in-By-clause-some : goal.returns-in_ok-after_word-in-By-clause-some
returns-in_ok-after_word-in-By-clause-some c =
    let by = c.in_ok-after_word-in-By in
    none_by c.args.form (map string_bytes c.args.words.now)
    (map string_bytes by.field-0.now) c.in-By.is
    by.ensures.some

pub returns-in_ok-after_word-in-Each-clause-some : goal.returns-in_ok-after_word-in-Each-clause-some
returns-in_ok-after_word-in-Each-clause-some c =
    let each = c.in_ok-after_word-in-Each.ensures.some in
    IfSome_then c.number_first-in-Each.result c.number_first-in-Each.ensures.some
    (λ p first. number_each c.args.form p.0 (map string_bytes c.args.words.now) first.0 _ _ c.in-Each.is each first.1 first.2)
