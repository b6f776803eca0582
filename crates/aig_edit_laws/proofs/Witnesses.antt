-- Circuits that keep one another's runs have the same witnesses.
use Rattle.std.proofs.Common.{ℕ, Bool, List, sym}
use Rattle.aig_circuit.proofs.Words.{Circuit, IsCircuit, KeepsRuns}
use Rattle.aig_cone.specs.Refine.{CutsRuns, cut_to}
use Rattle.aig_runs.specs.CircuitQueries.{HasCircuitWitness}
use Rattle.aig_edit_laws.specs.Reduction.{HaveSameWitnesses}
use Rattle.aig_edit_laws.proofs.Carrying.{witness_agrees, witness_back, witness_forth}

pub renumbered_witnesses : (old new : Circuit) (number : ℕ → ℕ) → IsCircuit old
    → KeepsRuns old new number → HaveSameWitnesses old new
renumbered_witnesses old new number is keeps k = (forth, back)
  where
    under : (ℕ → ℕ → Bool) → ℕ → ℕ → Bool
    under z t n = z t (number n)

    back : HasCircuitWitness new k → HasCircuitWitness old k
    back s =
        let z = s.0 in
        let w = s.1 in
        let x : ℕ → ℕ → Bool = λ t n. z t (number n) in
        (x, witness_back old new k x z (λ t. keeps.properties (z t)) ((keeps.runs k z).0 w.is_run) ((keeps.starts (z 0)).0 w.start) w)

    forth : HasCircuitWitness old k → HasCircuitWitness new k
    forth s =
        let x = s.0 in
        let z : ℕ → ℕ → Bool = λ t. (keeps.each (x t)).0 in
        let cut : ℕ → ℕ → Bool = λ t n. z t (number n) in
        let w = witness_agrees old is k x cut (λ t n h leaf. sym ((keeps.each (x t)).1 n leaf)) s.1 in
        (z, witness_forth old new k cut z (λ t. keeps.properties (z t)) ((keeps.runs k z).1 w.is_run) ((keeps.starts (z 0)).1 w.start) w)

pub cut_witnesses : (old new : Circuit) (kept : List ℕ) → IsCircuit new → CutsRuns old new kept
    → HaveSameWitnesses old new
cut_witnesses old new kept is cuts k = (forth, back)
  where
    forth : HasCircuitWitness old k → HasCircuitWitness new k
    forth s =
        let x = s.0 in
        let w = s.1 in
        let z : ℕ → ℕ → Bool = λ t. cut_to kept (x t) in
        (z, witness_forth old new k x z (λ t. cuts.properties (x t)) (cuts.cut k x w.is_run) ((cuts.starts (x 0)).1 w.start) w)

    back : HasCircuitWitness new k → HasCircuitWitness old k
    back s =
        let e = cuts.each k s.0 s.1.is_run in
        let x = e.0 in
        let z : ℕ → ℕ → Bool = λ t. cut_to kept (x t) in
        let w = witness_agrees new is k s.0 z (λ t n h leaf. sym (e.2 t n leaf)) s.1 in
        (x, witness_back old new k x z (λ t. cuts.properties (x t)) e.1 ((cuts.starts (x 0)).0 w.start) w)

pub both_witnesses : (c d e : Circuit) → HaveSameWitnesses c d → HaveSameWitnesses d e
    → HaveSameWitnesses c e
both_witnesses c d e first second k =
    (λ s. (second k).0 ((first k).0 s), λ s. (first k).1 ((second k).1 s))
