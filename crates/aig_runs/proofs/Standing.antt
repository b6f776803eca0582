-- Entries at steps, and others with the same values.
use Rattle.aig_base.proofs.Words.{◌≡◌, ℕ, ◌+◌, ◌*◌, ◌≤◌, Bool, Some, List, [], ◌∷◌, length, subst, ◌∙◌, All, slice_get, AllZip, All-head, All-tail, AllZip-long}
use Rattle.aig_circuit.specs.declared.edge.AigEdge.{AigEdge}
use Rattle.aig_circuit.specs.Properties.{Properties, AllProperties, AreProperties}
use Rattle.aig_unroll.specs.Unroll.{HasValuesAtSteps, PropertiesStandAtSteps, SetsStandAtSteps}
use Rattle.aig_unroll.proofs.Lists.{at_place, zip_get}

-- ---- lists

-- what follows from two relations, one after the other, and a property of the last entries
pub zip_through : {A B C : Type 0} (R : A → B → Type 0) (S : B → C → Type 0) (T : A → C → Type 0) (P : C → Type 0) (xs : List A) (ys : List B) (zs : List C) → ((x : A) (y : B) (z : C) → R x y → S y z → P z → T x z) → AllZip R xs ys → AllZip S ys zs → All P zs
    → AllZip T xs zs
zip_through R S T P [] [] [] w r s all = tt
zip_through R S T P [] [] (z ∷ zs) w r s all = absurd s
zip_through R S T P [] (y ∷ ys) zs w r s all = absurd r
zip_through R S T P (x ∷ xs) [] zs w r s all = absurd r
zip_through R S T P (x ∷ xs) (y ∷ ys) [] w r s all = absurd s
zip_through R S T P (x ∷ xs) (y ∷ ys) (z ∷ zs) w r s all = (w x y z r.0 s.0 (All-head P z zs all), zip_through R S T P xs ys zs w r.1 s.1 (All-tail P z zs all))

-- ---- entries

module _ {D E : Type 0} (k : ℕ) (old : ℕ → E → Bool) (first : ℕ → D → Bool) (new other : AigEdge → Bool) where
  -- the two entries have the same value at each step
  abbrev pub AreAlike : D → E → Type 0
  AreAlike d e = (t : ℕ) → t ≤ k → old t e ≡ first t d

  -- the edge has the same value
  abbrev pub IsSame : AigEdge → Type 0
  IsSame e = other e ≡ new e

  pub stand_alike : (ds : List D) (es : List E) (longer : List AigEdge) → AllZip AreAlike ds es → All IsSame longer → HasValuesAtSteps k old es new longer → HasValuesAtSteps k first ds other longer
  stand_alike ds es longer alike same s =
      let long = AllZip-long AreAlike ds es alike in
      record {
        count = subst (λ n. length longer ≡ (k + 1) * n) long s.count;
        each = λ t j d h is.
            let e = zip_get AreAlike ds es j d alike is in
            let r = s.each t j e.0 h e.1 in
            (r.0, subst (λ n. slice_get longer (t * n + j) ≡ Some r.0) long r.1, at_place IsSame longer (t * length es + j) r.0 same r.1 ∙ r.2 ∙ e.2 t h);
      }

  pub sets_alike : (ds : List (List D)) (es : List (List E)) (longer : List (List AigEdge)) → AllZip (AllZip AreAlike) ds es → All (All IsSame) longer → SetsStandAtSteps k old es new longer → SetsStandAtSteps k first ds other longer
  sets_alike ds es longer alike same s =
      let long = AllZip-long (AllZip AreAlike) ds es alike in
      record {
        count = subst (λ n. length longer ≡ (k + 1) * n) long s.count;
        each = λ t j d h is.
            let e = zip_get (AllZip AreAlike) ds es j d alike is in
            let r = s.each t j e.0 h e.1 in (
              r.0,
              subst (λ n. slice_get longer (t * n + j) ≡ Some r.0) long r.1,
              zip_through AreAlike (λ e edge. new edge ≡ old t e) (λ d edge. other edge ≡ first t d) IsSame d e.0 r.0 (λ d e edge p q same. same ∙ q ∙ p t h) e.2 r.2 (at_place (All IsSame) longer (t * length es + j) r.0 same r.1),
            );
      }

  pub properties_alike : (p : Properties D) (q : Properties E) (longer : Properties AigEdge) → AreProperties AreAlike p q → AllProperties IsSame longer → PropertiesStandAtSteps k old q new longer → PropertiesStandAtSteps k first p other longer
  properties_alike p q longer alike same s = record {
    outputs = stand_alike p.outputs q.outputs longer.outputs alike.outputs same.outputs s.outputs;
    bads = stand_alike p.bads q.bads longer.bads alike.bads same.bads s.bads;
    constraints = stand_alike p.constraints q.constraints longer.constraints alike.constraints same.constraints s.constraints;
    justice = sets_alike p.justice q.justice longer.justice alike.justice same.justice s.justice;
    fairness = stand_alike p.fairness q.fairness longer.fairness alike.fairness same.fairness s.fairness;
  }
