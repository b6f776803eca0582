-- Lists one for one.
use Rattle.aig_base.proofs.Words.{◌≡◌, ◌≢◌, ℕ, zero, suc, cond, List, [], ◌∷◌, ◌++◌, length, map, refl, ap, ◌∙◌, arith, AllPairs, AllByRecursion, AllZip, eq-eqb, ne_eqb, recursion_from_All}
use Rattle.aig_base.specs.declared.logic.three.Lbool.{Lbool}
use Rattle.aig_ternary.specs.Ternary.{value_for}

-- a relation of what is made, and of what it is made of
pub zip_made : {A B C : Type 0} (g : A → C) (R : C → B → Type 0) (xs : List A) (ys : List B) → AllZip (λ x y. R (g x) y) xs ys → AllZip R (map g xs) ys
zip_made g R [] [] zip = tt
zip_made g R [] (y ∷ ys) zip = absurd zip
zip_made g R (x ∷ xs) [] zip = absurd zip
zip_made g R (x ∷ xs) (y ∷ ys) zip = (zip.0, zip_made g R xs ys zip.1)

pub zip_unmade : {A B C : Type 0} (g : A → C) (R : C → B → Type 0) (xs : List A) (ys : List B) → AllZip R (map g xs) ys → AllZip (λ x y. R (g x) y) xs ys
zip_unmade g R [] [] zip = tt
zip_unmade g R [] (y ∷ ys) zip = absurd zip
zip_unmade g R (x ∷ xs) [] zip = absurd zip
zip_unmade g R (x ∷ xs) (y ∷ ys) zip = (zip.0, zip_unmade g R xs ys zip.1)

-- what a relation and a property of the first entries give
pub zip_with : {A B : Type 0} (P : A → Type 0) (R S : A → B → Type 0) (xs : List A) (ys : List B) → ((x : A) (y : B) → P x → R x y → S x y) → AllByRecursion P xs → AllZip R xs ys → AllZip S xs ys
zip_with P R S [] [] w all zip = tt
zip_with P R S [] (y ∷ ys) w all zip = absurd zip
zip_with P R S (x ∷ xs) [] w all zip = absurd zip
zip_with P R S (x ∷ xs) (y ∷ ys) w all zip = (w x y all.0 zip.0, zip_with P R S xs ys w all.1 zip.1)

pub zip_weaker : {A B : Type 0} (R S : A → B → Type 0) (xs : List A) (ys : List B) → ((x : A) (y : B) → R x y → S x y) → AllZip R xs ys → AllZip S xs ys
zip_weaker R S [] [] w zip = tt
zip_weaker R S [] (y ∷ ys) w zip = absurd zip
zip_weaker R S (x ∷ xs) [] w zip = absurd zip
zip_weaker R S (x ∷ xs) (y ∷ ys) w zip = (w x y zip.0, zip_weaker R S xs ys w zip.1)

-- two lists in a row
pub zip_split : {A B : Type 0} (R : A → B → Type 0) (ws xs : List A) (ys zs : List B) → length ys ≡ length ws → AllZip R (ws ++ xs) (ys ++ zs) → AllZip R ws ys × AllZip R xs zs
zip_split R [] xs [] zs h zip = (tt, zip)
zip_split R [] xs (y ∷ ys) zs h zip = absurd (omega arith)
zip_split R (w ∷ ws) xs [] zs h zip = absurd (omega arith)
zip_split R (w ∷ ws) xs (y ∷ ys) zs h zip = let rest = zip_split R ws xs ys zs (omega arith) zip.1 in ((zip.0, rest.0), rest.1)

-- each number has its value, where the numbers differ
pub value_for-zip : (ns : List ℕ) (values : List Lbool) → AllPairs (λ m n. m ≢ n) ns → length values ≡ length ns → AllZip (λ n v. value_for ns values n ≡ v) ns values
value_for-zip [] [] apart h = tt
value_for-zip [] (v ∷ values) apart h = absurd (omega arith)
value_for-zip (m ∷ ns) [] apart h = absurd (omega arith)
value_for-zip (m ∷ ns) (v ∷ values) apart h =
    let others : AllByRecursion (λ n. m ≢ n) ns = recursion_from_All (λ n. m ≢ n) ns (λ k d lt. apart zero (suc k) d (omega arith) (omega arith)) in (
      ap (λ b. cond b v (value_for ns values m)) (eq-eqb m m refl),
      zip_with (λ n. m ≢ n) (λ n u. value_for ns values n ≡ u) (λ n u. value_for (m ∷ ns) (v ∷ values) n ≡ u) ns values
          (λ n u ne is. ap (λ b. cond b v (value_for ns values n)) (ne_eqb m n ne) ∙ is) others
          (value_for-zip ns values (λ i j d lt there. apart (suc i) (suc j) d (omega arith) (omega arith)) (omega arith)),
    )
