-- What the steps of a reduction promise, together.
use Rattle.std.proofs.Common.{◌≡◌, ℕ, List, refl, subst, sym}
use Rattle.aig_circuit.proofs.Words.{Circuit, IsCircuit, KeepsRuns}
use Rattle.aig_cone.specs.Refine.{AreKept, CutsRuns, refined}
use Rattle.aig_strash.specs.Exchange.{image_of}
use Rattle.aig_strash.specs.Strash.{strashed}
use Rattle.aig_edit_laws.specs.Reduction.{IsAskedCone, IsReduced, asked_alone}
use Rattle.aig_edit_laws.proofs.AskedCones.{IsCircuit-asked}
use Rattle.aig_edit_laws.proofs.Dropped.{asked_witnesses}
use Rattle.aig_edit_laws.proofs.Sizes.{reduced_bads, reduced_few, reduced_latchs}
use Rattle.aig_edit_laws.proofs.Witnesses.{both_witnesses, cut_witnesses, renumbered_witnesses}

module _ (old : Circuit) (cone kept : List ℕ) (is : IsCircuit old) (is_cone : IsAskedCone old cone) (are : AreKept (asked_alone cone old) kept) where
  abbrev asked : Circuit
  asked = asked_alone cone old

  abbrev mid : Circuit
  mid = refined kept asked

  pub reduces : IsCircuit mid → CutsRuns asked mid kept
      → KeepsRuns mid (strashed mid) (image_of mid.nodes)
      → (new : Circuit) → new ≡ strashed mid → IsReduced old new
  reduces is_mid cuts keeps new exact =
      let first = both_witnesses old asked mid (asked_witnesses old is cone is_cone) (cut_witnesses asked mid kept is_mid cuts) in
      let all = both_witnesses old mid (strashed mid) first (renumbered_witnesses mid (strashed mid) (image_of mid.nodes) is_mid keeps) in
      subst (IsReduced old) (sym exact) (record {
        cone = cone;
        is_cone = is_cone;
        kept = kept;
        are_kept = are;
        exact = refl;
        witnesses = all;
        nodes = reduced_few old cone kept (IsCircuit-asked old cone is) are;
        latchs = reduced_latchs old cone kept;
        bads = reduced_bads old cone kept;
      })
