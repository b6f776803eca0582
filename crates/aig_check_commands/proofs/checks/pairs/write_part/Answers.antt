use Rattle.std.proofs.Common.{[], ◌∷◌, ◌++◌, rules}
use Rattle.aig_check_commands.proofs.check_lemmas.Pairing.{stopped_before, written_behind}
use Rattle.aig_check_commands.proofs.checks.pairs.write_part.Goals as goal

pub returns-in_err-write_text : goal.returns-in_err-write_text
returns-in_err-write_text g c =
    stopped_before (c.args.name.now ++ 10 ∷ []) c.tell_circuit.ensures
    c.in_err-write_text.ensures.err (search rules)

pub returns : goal.returns
returns g c =
    written_behind (c.args.name.now ++ 10 ∷ []) c.in_ok-write_text.ensures.ok
    c.write_circuit.ensures
