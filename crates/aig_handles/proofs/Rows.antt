-- Lists of steps that are cut from one list.
use Rattle.aig_base.proofs.Words.{◌≡◌, ℕ, ◌+◌, ◌-◌, ◌*◌, ◌<◌, List, [], ◌∷◌, ◌++◌, length, map, take, drop, zero, suc, refl, sym, ap, ap₂, ◌∙◌, arith, append_assoc}
use Rattle.std.specs.List.{drop-map, take-map}
use Rattle.std.proofs.Math.Nat.{suc-mul}
use Rattle.std.proofs.lemmas.List.{length-drop}
use Rattle.aig_base.specs.declared.logic.three.Lbool.{Lbool}
use Rattle.aig_circuit.specs.declared.edge.AigEdge.{AigEdge}
use Rattle.aig_giving.specs.Values.{value_number, value_of}
use Rattle.aig_handles.specs.Simulating.{rows_of, values_of}
use Rattle.aig_ternary.specs.Ternary.{Simulation, stepped, values_in}

-- one more list is cut off
pub row_more : (count steps t : ℕ) → t < steps → (rest : List ℕ) (rows all : List (List Lbool))
    → rows ++ rows_of count (steps - t) (values_of rest) ≡ all
    → (rows ++ values_of (take count rest) ∷ [])
    ++ rows_of count (steps - (t + 1)) (values_of (drop count rest)) ≡ all
row_more count steps t lt rest rows all so_far =
    let left = steps - (t + 1) in
    let one : steps - t ≡ suc left = omega (arith, lt) in
    let row = sym (take-map value_of count rest) in
    let more = ap (rows_of count left) (sym (drop-map value_of count rest)) in
    append_assoc rows (values_of (take count rest) ∷ []) _
    ∙ ap (λ l. rows ++ l) (ap₂ (λ r l. r ∷ l) row more)
    ∙ ap (λ l. rows ++ l) (sym (ap (λ n. rows_of count n (values_of rest)) one))
    ∙ so_far

-- and so many values are left
pub rest_more : (count steps t : ℕ) → t < steps → (rest : List ℕ)
    → length rest ≡ (steps - t) * count
    → length (drop count rest) ≡ (steps - (t + 1)) * count
rest_more count steps t lt rest long =
    let left = steps - (t + 1) in
    let one : steps - t ≡ suc left = omega (arith, lt) in
    let whole = long ∙ ap (λ n. n * count) one ∙ suc-mul left count in
    omega (arith, whole, length-drop count rest)

-- there are as many answers as steps
pub count_of : (e : AigEdge) (s : Simulation) (count steps : ℕ) (values : List Lbool)
    → steps ≡ length (map value_number (values_in e s (rows_of count steps values)))
count_of e s count zero values = refl
count_of e s count (suc steps) values =
    ap suc (count_of e (stepped s (take count values)) count steps (drop count values))
