-- How many nodes are added.
use Rattle.aig_base.proofs.Words.{◌≡◌, ◌≢◌, ℕ, zero, suc, ◌+◌, ◌*◌, ◌<◌, ◌≤◌, List, length, Some, Ok, Err, Result, sym, ap, ◌∙◌, add-one, arith, IsErrOf, min, same_Some}
use Rattle.std.proofs.Math.Nat.{min-eq_right, mul-le-mul_right, suc-mul}
use Rattle.aig_circuit.specs.declared.node.AigNode.{AigNode}
use Rattle.aig_circuit.specs.declared.node.AigNodeType.{AigNodeType}
use Rattle.aig_circuit.specs.declared.node.AigNodeType.TheVariants.{False}
use Rattle.aig_circuit.proofs.Words.{AreNodes, Circuit, IsCircuit, kind_at}
use Rattle.aig_circuit.proofs.Trees.{kind_at-within}
use Rattle.aig_bounded.specs.declared.error.BoundedError.{BoundedError}
use Rattle.aig_bounded.specs.declared.error.BoundedError.TheVariants.{TooLarge}
use Rattle.aig_bounded.specs.declared.frames.Frames.{Frames}
use Rattle.aig_bounded.specs.Frames.{AddsUpTo}

-- a value comes with no error
ok_alone : {T : Type 0} (x : T) → IsErrOf {T = T} {E = BoundedError} (Ok x) TooLarge → ⊥
ok_alone x is = cc

pub AddsUpTo-done : {T : Type 0} (count : ℕ) (old new : Frames) (x : T)
    → length new.nodes.items ≤ length old.nodes.items + count → AddsUpTo count old new (Ok x)
AddsUpTo-done count old new x few = record {
  few = few;
  large = λ is. absurd (ok_alone x is);
}

-- what a part could add fits in what the whole may
pub AddsUpTo-stops : {T U : Type 0} (count more : ℕ) (old mid new : Frames) (e : BoundedError)
    → mid.limit ≡ old.limit → length mid.nodes.items + more ≤ length old.nodes.items + count
    → AddsUpTo more mid new {T = T} (Err e) → AddsUpTo count old new {T = U} (Err e)
AddsUpTo-stops {T} {U} count more old mid new e limit fits adds = record {
  few = tt;
  large = λ is. let again : IsErrOf {T = T} {E = BoundedError} (Err e) TooLarge = cc in omega (arith, adds.large again, limit, fits);
}

pub AddsUpTo-after : {T : Type 0} (count more : ℕ) (old mid new : Frames)
    (r : Result T BoundedError) → mid.limit ≡ old.limit
    → length mid.nodes.items + more ≤ length old.nodes.items + count → AddsUpTo more mid new r
    → AddsUpTo count old new r
AddsUpTo-after count more old mid new (Ok x) limit fits adds =
    AddsUpTo-done count old new x (omega (arith, adds.few))
AddsUpTo-after count more old mid new (Err e) limit fits adds =
    AddsUpTo-stops count more old mid new e limit fits adds

-- a node that isn't the first may be added
pub one_more : (nodes : List AigNode) (id : ℕ) (k : AigNodeType) → AreNodes nodes
    → kind_at nodes id ≡ Some k → k ≢ False → min id 1 ≡ 1
one_more nodes zero k sound kind ne = absurd (ne (same_Some _ _ (sym kind ∙ sound.false_first)))
one_more nodes (suc id) k sound kind ne = min-eq_right (omega arith)

-- a circuit has a node
pub some_node : (c : Circuit) → IsCircuit c → 1 ≤ length c.nodes
some_node c circuit = let first = kind_at-within c.nodes 0 False circuit.nodes.false_first in omega arith

-- one step more
pub steps_more : (t size : ℕ) → (t + 1) * size ≡ t * size + size
steps_more t size = ap (λ n. n * size) (add-one t) ∙ suc-mul t size

-- a step before the last, of all
pub steps_within : (t last size : ℕ) → t < last → t * size + size ≤ (last + 1) * size
steps_within t last size h =
    let low : t + 1 ≤ last + 1 = omega arith in
    omega (arith, steps_more t size, mul-le-mul_right size low)
