-- A circuit that isn't refused has few nodes, and a text that is written whatever the options are is what `{}` writes.
use Rattle.std.proofs.Common.{◌≤◌, ◌^◌, length, sym, subst, arith}
use Rattle.aig_circuit.specs.Circuit.{Circuit}
use Rattle.aig_output.proofs.Printing.{WritesOnOk-from_styled}
use Rattle.aig.proofs.aiger.AigDisplay.fmt.Goals as goal

pub fmt_text-requires : goal.fmt_text-requires
fmt_text-requires g c =
    let few : length c.args.self.now.nodes ≤ 2 ^ 63 = omega (arith, c.in-Ok.ensures.tells.small.nodes) in
    subst (λ (v : Circuit). length v.nodes ≤ 2 ^ 63) (sym c.view.ensures.value) few

pub returns-in-Ok-clause-writes : goal.returns-in-Ok-clause-writes
returns-in-Ok-clause-writes g c = WritesOnOk-from_styled _ _ _ _ _ (rw c.view.ensures.value at c.fmt_text.ensures)
