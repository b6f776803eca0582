use Rattle.aig_base.proofs.Words.{rules, subst}
use Rattle.std.specs.Prelude.{⊤}
use Rattle.aig_handles.specs.Building.{SetsInitOr}
use Rattle.aig_handles.specs.Handles.{OnHeld}
use Rattle.aig_handles.proofs.latches.aig_circuit_set_init.Goals as goal

pub returns : goal.returns
returns c =
    let status = c.match-deref_mut.status in
    subst (λ e. OnHeld c.args.circuit.now c.put.new.self status ⊤ (SetsInitOr c.args.i e status))
    c.edge_if-init.ensures (search rules)
