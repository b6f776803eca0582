-- The cone of the borrowed circuit is the circuit's.
use Rattle.aig_base.proofs.Words.{ℕ, ◌↔◌, subst, Contains, IfOk}
use Rattle.aig_circuit.proofs.Words.{Circuit, IsInCone}
use Rattle.aig.proofs.graph.Aig.coi.Goals as goal

pub returns : goal.returns
returns c =
    subst (λ (v : Circuit). IfOk c.coi.result (λ cone. (n : ℕ) → Contains cone.keys n ↔ IsInCone v c.args.root.now n)) c.view.ensures.value c.coi.ensures
