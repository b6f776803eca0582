-- Edges that have a value on each run.
use Rattle.aig_base.proofs.Words.{◌≡◌, ℕ, ◌+◌, Bool, true, false, ◌&&◌, ◌||◌, List, [], ◌∷◌, get_or, length, Some, refl, sym, ap, ◌∙◌, suc, arith, All, list_all, list_any}
use Rattle.aig_circuit.specs.declared.edge.AigEdge.{AigEdge}
use Rattle.aig_circuit.specs.declared.node.AigNode.{AigNode}
use Rattle.aig_circuit.specs.declared.node.AigNodeType.TheVariants.{And, False, Leaf}
use Rattle.aig_circuit.proofs.Words.{edge_to, inverted_if, kind_at, AreNodes, Circuit, IsCircuit, IsInRange, IsInitial, IsRun, edge_value, node_value}
use Rattle.aig_circuit.proofs.Trees.{kind_at-last, kind_at-within, node_value-and, node_value-false, node_value-leaf}
use Rattle.aig_bounded.specs.declared.frames.Frames.{Frames}
use Rattle.aig_bounded.specs.Frames.{AreFrames, Extends, MakesEdge, Opens, ReadsOff, Shows}
use Rattle.aig_unroll.specs.Frame.{image_at, image_in}
use Rattle.aig_bounded.specs.Steps.{ShowsNode}
use Rattle.aig_bounded.proofs.Extended.{Extends-ands, opened_reads}

pub Shows-extends : (c : Circuit) (t : ℕ) (old new : Frames) (e : AigEdge)
    (v : (ℕ → ℕ → Bool) → Bool) → Extends old new → Shows c t old e v → Shows c t new e v
Shows-extends c t old new e v extends s = record {
  there = omega (arith, s.there, extends.grows.longer);
  shown = λ y run is start reads. extends.grows.values y e s.there ∙ s.shown y run is start (extends.reads y run reads);
}

pub Shows-same : (c : Circuit) (t : ℕ) (f : Frames) (e : AigEdge) (v w : (ℕ → ℕ → Bool) → Bool)
    → ((run : ℕ → ℕ → Bool) → v run ≡ w run) → Shows c t f e v → Shows c t f e w
Shows-same c t f e v w same s = record {
  there = s.there;
  shown = λ y run is start reads. s.shown y run is start reads ∙ same run;
}

-- a run of one step more is a run
pub Shows-later : (c : Circuit) (t : ℕ) (f : Frames) (e : AigEdge) (v : (ℕ → ℕ → Bool) → Bool)
    → Shows c t f e v → Shows c (t + 1) f e v
Shows-later c t f e v s = record {
  there = s.there;
  shown = λ y run is start reads. s.shown y run (λ u h. is u (omega arith)) start reads;
}

inverted_false : (b : Bool) → inverted_if b false ≡ b
inverted_false true = refl
inverted_false false = refl

-- the value of a constant edge
pub value-constant : (nodes : List AigNode) → AreNodes nodes → (y : ℕ → Bool) (b : Bool)
    → edge_value nodes y (edge_to 0 b) ≡ b
value-constant nodes sound y b =
    ap (inverted_if b) (node_value-false nodes y 0 sound.false_first) ∙ inverted_false b

pub constant_there : (nodes : List AigNode) (b : Bool) → AreNodes nodes
    → IsInRange nodes (edge_to 0 b)
constant_there nodes b sound = kind_at-within nodes 0 False sound.false_first

pub Shows-constant : (c : Circuit) (t : ℕ) (f : Frames) (b : Bool) (v : (ℕ → ℕ → Bool) → Bool)
    → AreNodes f.nodes.items → ((run : ℕ → ℕ → Bool) → v run ≡ b) → Shows c t f (edge_to 0 b) v
Shows-constant c t f b v sound is_b = record {
  there = constant_there f.nodes.items b sound;
  shown = λ y run is start reads. value-constant f.nodes.items sound y b ∙ sym (is_b run);
}

-- ---- gates

pub both_same : (a b x y : Bool) → a ≡ x → b ≡ y → (a && b) ≡ (x && y)
both_same a b x y p q = ap (λ v. v && b) p ∙ ap (λ v. x && v) q

pub either_same : (a b x y : Bool) → a ≡ x → b ≡ y → (a || b) ≡ (x || y)
either_same a b x y p q = ap (λ v. v || b) p ∙ ap (λ v. x || v) q

-- two edges that are joined
pub Shows-join : (c : Circuit) (t : ℕ) (join : Bool → Bool → Bool) (old new : Frames)
    (a b e : AigEdge) (v w : (ℕ → ℕ → Bool) → Bool) → Shows c t old a v → Shows c t old b w
    → MakesEdge (λ y. join (edge_value old.nodes.items y a) (edge_value old.nodes.items y b)) old
    new e
    → Shows c t new e (λ run. join (v run) (w run))
Shows-join c t join old new a b e v w shows_a shows_b gives = record {
  there = gives.edge.there;
  shown = λ y run is start reads.
      let before = (Extends-ands old new gives.adds).reads y run reads in
      gives.edge.value y ∙ ap (λ x. join x (edge_value old.nodes.items y b)) (shows_a.shown y run is start before)
      ∙ ap (join (v run)) (shows_b.shown y run is start before);
}

-- ---- images

inverted_twice : (i j v : Bool) → inverted_if (inverted_if i j) v ≡ inverted_if i (inverted_if j v)
inverted_twice true true true = refl
inverted_twice true true false = refl
inverted_twice true false true = refl
inverted_twice true false false = refl
inverted_twice false j v = refl

-- the image of an edge has the edge's value, where that of its node has the node's
pub Shows-image : (c : Circuit) (t : ℕ) (f : Frames) (images : List AigEdge) (e : AigEdge)
    → ShowsNode c t f images e.node_id
    → Shows c t f (image_in images e) (λ run. edge_value c.nodes (run t) e)
Shows-image c t f images e s = record {
  there = s.there;
  shown = λ y run is start reads.
      let image = image_at images e.node_id in
      inverted_twice e.compl image.compl (node_value f.nodes.items y image.node_id)
      ∙ ap (inverted_if e.compl) (s.shown y run is start reads);
}

-- ---- the image of a node

pub Shows-false_node : (c : Circuit) (t id : ℕ) (f : Frames) → AreNodes f.nodes.items
    → kind_at c.nodes id ≡ Some False
    → Shows c t f (edge_to 0 false) (λ run. node_value c.nodes (run t) id)
Shows-false_node c t id f sound kind =
    Shows-constant c t f false _ sound (λ run. node_value-false c.nodes (run t) id kind)

pub Shows-leaf : (c : Circuit) (t id : ℕ) (f : Frames) (e : AigEdge)
    → kind_at c.nodes id ≡ Some Leaf → Shows c t f e (λ run. run t id)
    → Shows c t f e (λ run. node_value c.nodes (run t) id)
Shows-leaf c t id f e kind s =
    Shows-same c t f e (λ run. run t id) _ (λ run. sym (node_value-leaf c.nodes (run t) id kind)) s

pub Shows-opened : (c : Circuit) (t id : ℕ) (old new : Frames) (e : AigEdge)
    → AreFrames c t id old → Opens old new (record { step = t; leaf = id }) e
    → Shows c t new e (λ run. run t id)
Shows-opened c t id old new e are opens = record {
  there = there;
  shown = λ y run is start reads. value y ∙ (opened_reads old new _ e y run are.count opens reads).1;
}
  where
    leaf : kind_at new.nodes.items (length old.nodes.items) ≡ Some Leaf
    leaf = ap (λ l. kind_at l (length old.nodes.items)) opens.nodes ∙ kind_at-last old.nodes.items _

    there : IsInRange new.nodes.items e
    there = omega (arith, kind_at-within new.nodes.items (length old.nodes.items) Leaf leaf, ap (λ (x : AigEdge). x.node_id) opens.edge)

    value : (y : ℕ → Bool) → edge_value new.nodes.items y e ≡ y (length old.nodes.items)
    value y = ap (edge_value new.nodes.items y) opens.edge ∙ node_value-leaf new.nodes.items y (length old.nodes.items) leaf

pub Shows-gate : (c : Circuit) (t id : ℕ) (f : Frames) (a b e : AigEdge) → IsCircuit c
    → kind_at c.nodes id ≡ Some (And a b)
    → Shows c t f e (λ run. edge_value c.nodes (run t) a && edge_value c.nodes (run t) b)
    → Shows c t f e (λ run. node_value c.nodes (run t) id)
Shows-gate c t id f a b e circuit kind s =
    Shows-same c t f e (λ run. edge_value c.nodes (run t) a && edge_value c.nodes (run t) b) _
    (λ run. sym (node_value-and c.nodes circuit.nodes.ordered (run t) id a b kind)) s

-- ---- lists of edges

pub all_same : (p q : AigEdge → Bool) (es : List AigEdge) → All (λ e. p e ≡ q e) es
    → list_all p es ≡ list_all q es
all_same p q [] all = refl
all_same p q (e ∷ es) all =
    both_same _ _ _ _ (all 0 e (omega arith)) (all_same p q es (λ k d h. all (suc k) d (omega arith)))

pub any_same : (p q : AigEdge → Bool) (es : List AigEdge) → All (λ e. p e ≡ q e) es
    → list_any p es ≡ list_any q es
any_same p q [] all = refl
any_same p q (e ∷ es) all =
    either_same _ _ _ _ (all 0 e (omega arith)) (any_same p q es (λ k d h. all (suc k) d (omega arith)))

module _ (c : Circuit) (t : ℕ) (old new : Frames) (images es : List AigEdge) (e : AigEdge)
    (shows : All (λ f. ShowsNode c t old images f.node_id) es) where
  -- the image of each has its value
  each : (y : ℕ → Bool) (run : ℕ → ℕ → Bool) → IsRun c t run → IsInitial c (run 0)
      → ReadsOff old y run
      → All (λ f. edge_value old.nodes.items y (image_in images f) ≡ edge_value c.nodes (run t) f) es
  each y run is start reads k d h =
      (Shows-image c t old images (get_or es k d) (shows k d h)).shown y run is start reads

  pub Shows-all : (first : AigEdge) (v : (ℕ → ℕ → Bool) → Bool) → Shows c t old first v
      → MakesEdge (λ y. edge_value old.nodes.items y first
      && list_all (λ f. edge_value old.nodes.items y (image_in images f)) es) old new e
      → Shows c t new e (λ run. v run && list_all (edge_value c.nodes (run t)) es)
  Shows-all first v s gives = record {
    there = gives.edge.there;
    shown = λ y run is start reads.
        let before = (Extends-ands old new gives.adds).reads y run reads in
        gives.edge.value y ∙ both_same _ _ _ _ (s.shown y run is start before) (all_same _ _ es (each y run is start before));
  }

  pub Shows-any : MakesEdge (λ y. list_any (λ f. edge_value old.nodes.items y (image_in images f))
      es)
      old new e
      → Shows c t new e (λ run. list_any (edge_value c.nodes (run t)) es)
  Shows-any gives = record {
    there = gives.edge.there;
    shown = λ y run is start reads.
        let before = (Extends-ands old new gives.adds).reads y run reads in
        gives.edge.value y ∙ any_same _ _ es (each y run is start before);
  }
