use Rattle.aig_witness_circuits.proofs.Words.{None, Some, ◌∷◌, lit<}
use Rattle.std.proofs.lemmas.Str.Pattern.{strip_prefix_char}
use Rattle.aig_witness_circuits.proofs.Saying.{both_bytes}
use Rattle.aig_witness_circuits.proofs.sharing.named.behind_prefix.Goals as goal

pub returns-in-None : goal.returns-in-None
returns-in-None c = λ rest is.
    strip_prefix_char 61 c.args.name.now None c.in-None.ensures.cases (lit< tt) (32 ∷ rest) is

pub returns-in-Some : goal.returns-in-Some
returns-in-Some c =
    let name = c.args.name.now in
    let rest = c.in-Some.rest in
    both_bytes name rest.now c.strip_prefix-in-Some.result
    (strip_prefix_char 61 name (Some rest) c.in-Some.ensures.cases (lit< tt))
    (strip_prefix_char 32 rest.now c.strip_prefix-in-Some.result c.strip_prefix-in-Some.ensures.cases (lit< tt))
