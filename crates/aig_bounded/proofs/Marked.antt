-- The places of marked inputs, one after another.
use Rattle.aig_base.proofs.Words.{◌≡◌, ℕ, ◌+◌, ◌<◌, Bool, true, false, cond, List, [], ◌∷◌, ◌++◌, length, get_or, take, refl, ap, ◌∙◌, arith, length-take, take_more}
use Rattle.aig_bounded.specs.declared.place.Place.{Place}
use Rattle.aig_bounded.specs.Cut.{marked_places}

push_if : (b m : Bool) (q p : Place) (xs ys : List Place) → ys ≡ cond m (xs ++ p ∷ []) xs
    → cond b (q ∷ ys) ys ≡ cond m (cond b (q ∷ xs) xs ++ p ∷ []) (cond b (q ∷ xs) xs)
push_if true true q p xs ys e = ap (λ l. q ∷ l) e
push_if true false q p xs ys e = ap (λ l. q ∷ l) e
push_if false m q p xs ys e = e

marked_push : (marks : List Bool) (is : List ℕ) (ps : List Place) (n : ℕ) (p : Place)
    → length ps ≡ length is
    → marked_places marks (is ++ n ∷ []) (ps ++ p ∷ [])
    ≡ cond (get_or marks n false) (marked_places marks is ps ++ p ∷ []) (marked_places marks is ps)
marked_push marks [] [] n p same = refl
marked_push marks [] (q ∷ ps) n p same = absurd (omega arith)
marked_push marks (i ∷ is) [] n p same = absurd (omega arith)
marked_push marks (i ∷ is) (q ∷ ps) n p same =
    push_if (get_or marks i false) (get_or marks n false) q p (marked_places marks is ps) (marked_places marks (is ++ n ∷ []) (ps ++ p ∷ []))
    (marked_push marks is ps n p (omega arith))

-- one input more
pub marked_more : (marks : List Bool) (is : List ℕ) (ps : List Place) (i d : ℕ) (e : Place)
    → length ps ≡ length is → i < length is
    → marked_places marks (take (i + 1) is) (take (i + 1) ps)
    ≡ cond (get_or marks (get_or is i d) false)
    (marked_places marks (take i is) (take i ps) ++ get_or ps i e ∷ [])
    (marked_places marks (take i is) (take i ps))
marked_more marks is ps i d e same h =
    let low : i < length ps = omega arith in
    ap (λ l. marked_places marks l (take (i + 1) ps)) (take_more is i d h)
    ∙ ap (marked_places marks (take i is ++ get_or is i d ∷ [])) (take_more ps i e low)
    ∙ marked_push marks (take i is) (take i ps) (get_or is i d) (get_or ps i e) (omega (arith, length-take i is, length-take i ps))
