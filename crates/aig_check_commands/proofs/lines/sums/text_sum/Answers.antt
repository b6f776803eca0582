use Rattle.aig_check_commands.proofs.Words.{ℕ, Global, arith, List, Some, Vec, ap, sym, ◌∙◌, text_of}
use Rattle.sha2.specs.Sha256.{sha256}
use Rattle.aig_check_commands.proofs.line_lemmas.Summing.{only_text}
use Rattle.aig_check_commands.proofs.lines.sums.text_sum.Goals as goal

pub write_text-requires : goal.write_text-requires
write_text-requires c =
    rw c.new-2.ensures (let few = c.requires.small.nodes in omega (arith, few))

pub returns-in-Ok : goal.returns-in-Ok
returns-in-Ok c =
    let items = λ (v : Vec ℕ Global). Some v.items in
    let none = ap items c.new-sink.ensures.writer
    ∙ ap (λ (xs : List ℕ). Some xs) c.new.ensures.items in
    let all = ap items (sym c.into_inner.ensures) in
    let text = only_text _ _ _ _ c.in-Ok.ensures.ok none all in
    c.digest.ensures ∙ ap sha256 (c.as_slice.ensures.value ∙ text ∙ ap text_of c.new-2.ensures)
