-- Edges and their literals.
use Rattle.std.proofs.Common.{◌≡◌, ◌+◌, ◌*◌, Bool, true, false, cond, refl, arith}
use Rattle.aig_circuit.specs.declared.edge.AigEdge.{AigEdge}
use Rattle.aig_circuit.specs.Edge.{literal_of}

-- edges with one literal are one
pub literals-same : (a b : AigEdge) → literal_of a ≡ literal_of b → a ≡ b
literals-same a b h = by_compl a.compl refl b.compl refl
  where
    number : (i j : Bool) → 2 * a.node_id + cond i 1 0 ≡ 2 * b.node_id + cond j 1 0 → a.node_id ≡ b.node_id
    number true true e = omega arith
    number true false e = omega arith
    number false true e = omega arith
    number false false e = omega arith

    inversion : (i j : Bool) → 2 * a.node_id + cond i 1 0 ≡ 2 * b.node_id + cond j 1 0 → i ≡ j
    inversion true true e = refl
    inversion true false e = absurd (omega arith)
    inversion false true e = absurd (omega arith)
    inversion false false e = refl

    by_compl : (i : Bool) → a.compl ≡ i → (j : Bool) → b.compl ≡ j → a ≡ b
    by_compl i is j js =
        let n = number a.compl b.compl h in
        let k = inversion a.compl b.compl h in
        λ t. record { node_id = n t; compl = k t }
