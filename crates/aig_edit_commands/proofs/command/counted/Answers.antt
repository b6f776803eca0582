use Rattle.aig_base.proofs.Words.{ap, arith, map, string_bytes}
use Rattle.aig_edit_commands.proofs.Calling.{no_number, one_item, some_number}
use Rattle.aig_edit_commands.proofs.command.counted.Goals as goal

pub returns-in-len1-clause-some : goal.returns-in-len1-clause-some
returns-in-len1-clause-some c =
    let words = c.args.words.now in
    let word = c.word-item.result in
    let are = one_item words word (omega (arith, c.in-len1.len_at_least))
    (omega (arith, c.in-len1.len_below)) c.word-item.is in
    some_number (string_bytes word) (map string_bytes words) (ap (λ l. map string_bytes l) are)
    c.steps.result (rw c.as_str.ensures.value at c.steps.ensures.exact)

pub returns-in-len1-clause-none : goal.returns-in-len1-clause-none
returns-in-len1-clause-none c =
    let words = c.args.words.now in
    let word = c.word-item.result in
    let are = one_item words word (omega (arith, c.in-len1.len_at_least))
    (omega (arith, c.in-len1.len_below)) c.word-item.is in
    no_number (string_bytes word) (map string_bytes words) (ap (λ l. map string_bytes l) are)
    c.steps.result (rw c.as_str.ensures.value at c.steps.ensures.exact)
