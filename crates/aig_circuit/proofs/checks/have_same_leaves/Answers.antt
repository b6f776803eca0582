use Rattle.std.proofs.Common.{◌≡◌, Bool, eqb, ◌&&◌, List, [], ◌∷◌, length, nat_eq, refl, ap, ◌∙◌, arith, rules, tests}
use Rattle.aig_base.proofs.Words.{list_all, zip, Decides-eqb}
use Rattle.std.proofs.lemmas.Iterator.{YieldsList-from_slice, YieldsList-from_zip}
use Rattle.std.proofs.lemmas.Iterator.Search.{all_from_yields_List}
use Rattle.std.specs.Cmp.Lexicographic.{pointwise}
use Rattle.std.proofs.lemmas.Slice.Eq.{slice_eq-Decides}
use Rattle.aig_circuit.specs.declared.node.AigLatch.{AigLatch}
use Rattle.aig_circuit.specs.Circuit.{latch_leaves}
use Rattle.aig_circuit.proofs.checks.have_same_leaves.Goals as goal

-- whether the latches of a pair have the same leaf
abbrev is_same_leaf : AigLatch × AigLatch → Bool
is_same_leaf pair = nat_eq pair.0.input pair.1.input

same_leaves : (xs ys : List AigLatch) → length xs ≡ length ys → list_all is_same_leaf (zip xs ys) ≡ pointwise eqb (latch_leaves xs) (latch_leaves ys)
same_leaves [] [] long = refl
same_leaves [] (y ∷ ys) long = absurd (omega arith)
same_leaves (x ∷ xs) [] long = absurd (omega arith)
same_leaves (x ∷ xs) (y ∷ ys) long = ap (λ b. eqb x.input y.input && b) (same_leaves xs ys (omega arith))

pub returns-then-latchs-others : goal.returns-then-latchs-others
returns-then-latchs-others c =
    let xs = c.args.latchs.now in
    let ys = c.args.others.now in
    let all : c.all.result ≡ list_all is_same_leaf (zip xs ys) =
    all_from_yields_List is_same_leaf c.all.new.self _ c.all.result c.all.ensures.ran (YieldsList-from_zip (YieldsList-from_slice xs cc) (YieldsList-from_slice ys cc)) (λ x b q k. search (rules, tests))
    in
    slice_eq-Decides Decides-eqb (latch_leaves xs) (latch_leaves ys) c.all.result (all ∙ same_leaves xs ys (omega arith))
