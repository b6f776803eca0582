-- A table of places numbers the kept nodes as their places do.
use Rattle.aig_base.proofs.Words.{◌≡◌, ℕ, List, get_or, sym, ap, ◌∙◌, Contains, slice_index, get_or_default, All-contains_itself}
use Rattle.aig_circuit.proofs.Words.{Circuit, IsCircuit, kept_circuit, only_kept, position_of}
use Rattle.aig_renumber.proofs.Agreeing.{kept-agree}
use Rattle.aig_renumber.proofs.Places.{rising-place}
use Rattle.aig_cone.specs.Refine.{AreKept, ArePlaces, refined}
use Rattle.aig_cone.proofs.Keeping.{S-operands}
use Rattle.aig_cone.proofs.Refining.{speaks}

-- the circuit by the table is the refined circuit
pub refined-by_table : (c : Circuit) (kept numbers : List ℕ) (n : ℕ) → IsCircuit c → AreKept c kept → ArePlaces kept n numbers → kept_circuit (slice_index numbers) kept c ≡ refined kept c
refined-by_table c kept numbers count is are places =
    kept-agree (Contains kept) (slice_index numbers) (position_of kept) agree (only_kept kept c) kept (Contains kept) (All-contains_itself kept) (speaks c kept is are) (S-operands c kept is are)
  where
    agree : (n : ℕ) → Contains kept n → slice_index numbers n ≡ position_of kept n
    agree n (k, low, is) =
        let at : get_or kept k 0 ≡ n = get_or_default kept k 0 n low ∙ is in
        ap (slice_index numbers) (sym at) ∙ places.places k low ∙ sym (rising-place kept are.rising k low) ∙ ap (position_of kept) at
