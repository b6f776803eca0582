use Rattle.std.proofs.Common.{sym, subst}
use Rattle.aig_circuit.specs.Circuit.{IsCircuit}
use Rattle.aig_bounded.proofs.Cut.{IsCircuit-whole}
use Rattle.aig_bounded.proofs.question.kept_circuit.Goals as goal

pub new-requires : goal.new-requires
new-requires c =
    let are = c.requires.frames in
    subst IsCircuit (sym c.in_ok-lists.ensures) (IsCircuit-whole are.0 are.1 0 c.args.frames c.args.output are.2 c.requires.there)
