use Rattle.std.proofs.Common.{◌≡◌, ◌+◌, length, subst, append-nil, arith}
use Rattle.aig_base.specs.Clauses.{AreBelow}
use Rattle.aig_check_commands.proofs.checks.printing.tell_circuit.Goals as goal

pub tell_circuit_with-requires-clause-below : goal.tell_circuit_with-requires-clause-below
tell_circuit_with-requires-clause-below c =
    let n = length c.args.circuit.now.nodes in
    let same : n ≡ n + 0 = omega arith in
    subst (λ m. AreBelow m c.args.extra.now) same c.requires.below

pub returns : goal.returns
returns c =
    let told = c.tell_circuit_with.ensures in
    (told.0, told.1, rw (append-nil told.0) at told.2)
