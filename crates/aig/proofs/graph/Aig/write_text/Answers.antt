-- What was written is the text of a circuit that has a written form, which is read again.
use Rattle.std.proofs.Common.{◌≤◌, ◌^◌, length, sym, subst, arith}
use Rattle.aig_circuit.specs.Circuit.{Circuit}
use Rattle.aig_format.specs.declared.FileKind.TheVariants.{Text}
use Rattle.aig_format_laws.proofs.Written.{is_read_again}
use Rattle.aig.proofs.graph.Aig.write_text.Goals as goal

pub write_text-requires : goal.write_text-requires
write_text-requires g c =
    let few : length c.args.self.now.nodes ≤ 2 ^ 63 = omega (arith, c.in_ok-check_writable.ensures.tells.small.nodes) in
    subst (λ (v : Circuit). length v.nodes ≤ 2 ^ 63) (sym c.view.ensures.value) few

pub returns-clause-again : goal.returns-clause-again
returns-clause-again g c =
    is_read_again Text c.args.self.now c.view.ensures.circuit c.in_ok-check_writable.ensures.tells c.view.ensures.texts tt
