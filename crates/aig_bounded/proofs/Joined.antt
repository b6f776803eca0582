-- Edges that are joined one after another.
use Rattle.aig_base.proofs.Words.{◌≡◌, ℕ, ◌+◌, ◌<◌, Bool, false, ◌&&◌, ◌||◌, List, [], length, get_or, take, sym, ap, subst, ◌∙◌, and_assoc, and-true, list_all, list_any}
use Rattle.std.proofs.lemmas.List.Folds.{list_all_more, list_any_more}
use Rattle.aig_circuit.specs.declared.edge.AigEdge.{AigEdge}
use Rattle.aig_circuit.proofs.Words.{IsInRange, edge_to, edge_value}
use Rattle.aig_circuit.proofs.Joining.{GivesEdge-same}
use Rattle.aig_bounded.specs.declared.frames.Frames.{Frames}
use Rattle.aig_bounded.specs.Frames.{AddsAnds, AreShared, MakesEdge}
use Rattle.aig_unroll.specs.Frame.{image_in}
use Rattle.aig_bounded.proofs.Extended.{AddsAnds-itself, AddsAnds-then}
use Rattle.aig_bounded.proofs.Shown.{constant_there, value-constant}

-- what is given after other gates
Gives-then : (v w : (ℕ → Bool) → Bool) (old mid new : Frames) (e : AigEdge)
    → AddsAnds old mid → MakesEdge w mid new e → ((y : ℕ → Bool) → w y ≡ v y)
    → MakesEdge v old new e
Gives-then v w old mid new e adds gives same = record {
  edge = GivesEdge-same new.nodes.items e same gives.edge;
  adds = AddsAnds-then old mid new adds gives.adds;
}

-- the constant false
pub Gives-false : (f : Frames) (e : AigEdge) → AreShared f → e ≡ edge_to 0 false
    → MakesEdge (λ y. false) f f e
Gives-false f e shared is = subst (MakesEdge (λ y. false) f f) (sym is) (record {
  edge = record {
    there = constant_there f.nodes.items false shared.gates.sound;
    value = λ y. value-constant f.nodes.items shared.gates.sound y false;
  };
  adds = AddsAnds-itself f shared;
})

-- the value of an edge's image
abbrev pub image_value : Frames → List AigEdge → (ℕ → Bool) → AigEdge → Bool
image_value f images y e = edge_value f.nodes.items y (image_in images e)

-- an edge and the images of these are true
abbrev pub all_true : Frames → List AigEdge → AigEdge → List AigEdge → (ℕ → Bool) → Bool
all_true f images first es y =
    edge_value f.nodes.items y first && list_all (image_value f images y) es

-- the image of one of these is true
abbrev pub any_true : Frames → List AigEdge → List AigEdge → (ℕ → Bool) → Bool
any_true f images es y = list_any (image_value f images y) es

pub all_true-none : (f : Frames) (images : List AigEdge) (first : AigEdge) → AreShared f
    → IsInRange f.nodes.items first → MakesEdge (all_true f images first []) f f first
all_true-none f images first shared there =
    record {
      edge = record { there = there; value = λ y. sym (and-true _) };
      adds = AddsAnds-itself f shared;
    }

module _ (old mid new : Frames) (images es : List AigEdge) (i : ℕ) (d so_far e image : AigEdge)
    (within : i < length es) (is_image : image ≡ image_in images (get_or es i d))
    (in_range : IsInRange old.nodes.items (image_in images (get_or es i d))) where
  -- its value stays
  same : AddsAnds old mid → (y : ℕ → Bool)
      → edge_value mid.nodes.items y image ≡ image_value old images y (get_or es i d)
  same before y = ap (edge_value mid.nodes.items y) is_image ∙ before.nodes.grows.values y (image_in images (get_or es i d)) in_range

  pub all_true-more : (first : AigEdge) → MakesEdge (all_true old images first (take i es)) old mid
      so_far
      → MakesEdge (λ y. edge_value mid.nodes.items y so_far && edge_value mid.nodes.items y image)
      mid new e
      → MakesEdge (all_true old images first (take (i + 1) es)) old new e
  all_true-more first before more =
      Gives-then _ _ old mid new e before.adds more (λ y.
      let p = image_value old images y in
      ap (λ b. b && edge_value mid.nodes.items y image) (before.edge.value y)
      ∙ ap (λ b. (edge_value old.nodes.items y first && list_all p (take i es)) && b) (same before.adds y)
      ∙ and_assoc (edge_value old.nodes.items y first) (list_all p (take i es)) (p (get_or es i d))
      ∙ ap (λ b. edge_value old.nodes.items y first && b) (sym (list_all_more p es i d within)))

  pub any_true-more : MakesEdge (any_true old images (take i es)) old mid so_far
      → MakesEdge (λ y. edge_value mid.nodes.items y so_far || edge_value mid.nodes.items y image)
      mid new e
      → MakesEdge (any_true old images (take (i + 1) es)) old new e
  any_true-more before more =
      Gives-then _ _ old mid new e before.adds more (λ y.
      let p = image_value old images y in
      ap (λ b. b || edge_value mid.nodes.items y image) (before.edge.value y)
      ∙ ap (λ b. list_any p (take i es) || b) (same before.adds y)
      ∙ sym (list_any_more p es i d within))
