-- A circuit with the images of all nodes of another and of the entries of its lists is that circuit with one step more.
use Rattle.aig_base.proofs.Words.{◌≡◌, ◌≢◌, ℕ, suc, ◌<◌, ◌≤◌, Bool, false, Option, List, [], ◌∷◌, ◌++◌, length, map, get_or, sym, ap, subst, ◌∙◌, arith, inl, inr, contains_key, AllZip, All-append, All-contains, All-map, All-same, All-weaker, Contains-append_cases}
use Rattle.std.specs.Prelude.{All, AllPairs, Contains, IfSome, IsTrue}
use Rattle.std.proofs.lemmas.List.{length-map, map-id}
use Rattle.aig_circuit.specs.declared.edge.AigEdge.{AigEdge}
use Rattle.aig_circuit.specs.declared.node.AigNodeType.TheVariants.{Leaf}
use Rattle.aig_circuit.specs.declared.node.AigLatch.{AigLatch}
use Rattle.aig_circuit.proofs.Words.{edge_to, inverted_if, edge_value, AllProperties, AreProperties, append_properties, map_properties, HaveSameValues, next_edges}
use Rattle.aig_circuit.specs.Circuit.{BeginsWith, Circuit, IsCircuit, IsInRange, IsLatch, IsLeaf, latch_leaves}
use Rattle.aig_circuit.proofs.Building.{Grows-kept, Grows-longer, edge_value-Grows}
use Rattle.aig_circuit.proofs.Circuits.{AllPairs-append, init_grown, latch_leaves-leaves}
use Rattle.aig_circuit.proofs.Trees.{kind_at-within, node_value-leaf}
use Rattle.aig_circuit.proofs.Listed.{AllProperties-append, AllProperties-map, AllProperties-weaker, AreProperties-map}
use Rattle.aig_circuit.proofs.Lists.{All-from_map}
use Rattle.aig_unroll.specs.Places.{leaves_after, other_leaves}
use Rattle.aig_base.proofs.Words.{FinMap, nat_cmp}
use Rattle.aig_circuit.specs.Properties.{Properties}
use Rattle.aig_unroll.specs.Frame.{Frame, with_next}
use Rattle.aig_unroll.proofs.Framed.{frame_of, with_next-is}
use Rattle.aig_unroll.specs.Step.{AppendsButJustice, AppendsImages, CopiesAll, HaveNextImages, image_at, image_in}
use Rattle.aig_unroll.specs.Unroll.{ReadsNext, UnrollsOnce, UnrollsTo, starts_of}
use Rattle.aig_unroll.proofs.Added.{following-are, following-distinct, IsBehind}
use Rattle.aig_unroll.proofs.Copied.{edge_value-image_in}
use Rattle.aig_unroll.proofs.Lists.{all_from_zips, zip_weaker}
use Rattle.aig_unroll.proofs.NextStep.{leaf_cases}

-- lists that are mapped alike, one for one
zip_of_map : {A B C : Type 0} (f : A → C) (g : B → C) (xs : List A) (ys : List B)
    → map f xs ≡ map g ys → AllZip (λ x y. f x ≡ g y) xs ys
zip_of_map f g [] [] e = tt
zip_of_map f g [] (y ∷ ys) e = cc
zip_of_map f g (x ∷ xs) [] e = cc
zip_of_map f g (x ∷ xs) (y ∷ ys) e =
    let first : f x ≡ g y = cc in
    let rest : map f xs ≡ map g ys = cc in
    (first, zip_of_map f g xs ys rest)

module _ (from old new : Circuit) (images : List AigEdge) (is_from : IsCircuit from) (is_old : IsCircuit old) (copies : CopiesAll from old.latchs old.nodes new.nodes images) (appends : AppendsImages from old images new) where
  -- the new leaves
  abbrev added : List ℕ
  added = leaves_after (length old.nodes) new.nodes

  longer : length old.nodes ≤ length new.nodes
  longer = Grows-longer old.nodes new.nodes copies.grows

  -- ---- it is a circuit

  edge_kept : (e : AigEdge) → IsInRange old.nodes e → IsInRange new.nodes e
  edge_kept e h = omega (arith, longer)

  leaf_kept : (n : ℕ) → IsLeaf old.nodes n → IsLeaf new.nodes n
  leaf_kept n leaf = Grows-kept old.nodes new.nodes copies.grows n (kind_at-within old.nodes n Leaf leaf) ∙ leaf

  -- an image is in range
  image_there : (e : AigEdge) → IsInRange from.nodes e → IsInRange new.nodes (image_in images e)
  image_there e h = copies.there e.node_id h

  images_there : (es : List AigEdge) → All (IsInRange from.nodes) es
      → All (IsInRange new.nodes) (map (image_in images) es)
  images_there es all = All-map (IsInRange new.nodes) (image_in images) es (All-weaker (IsInRange from.nodes) (λ e. IsInRange new.nodes (image_in images e)) image_there es all)

  -- old entries and images are in range
  properties_there : AllProperties (IsInRange new.nodes) new.properties
  properties_there =
      subst (AllProperties (IsInRange new.nodes)) (sym appends.properties)
      (AllProperties-append (IsInRange new.nodes) old.properties (map_properties (image_in images) from.properties)
      (AllProperties-weaker (IsInRange old.nodes) (IsInRange new.nodes) edge_kept old.properties is_old.properties)
      (AllProperties-map (IsInRange new.nodes) (image_in images) from.properties (AllProperties-weaker (IsInRange from.nodes) (λ e. IsInRange new.nodes (image_in images e)) image_there from.properties is_from.properties)))

  added_are : All (IsBehind new.nodes copies.grows.sound (length old.nodes)) added
  added_are = following-are new.nodes copies.grows.sound (length old.nodes)

  inputs_are : All (IsLeaf new.nodes) (old.inputs ++ added)
  inputs_are =
      All-append (IsLeaf new.nodes) old.inputs added (All-weaker (IsLeaf old.nodes) (IsLeaf new.nodes) leaf_kept old.inputs is_old.inputs) (λ k d h. (added_are k d h).0)

  inputs_differ : AllPairs (λ m n. m ≢ n) (old.inputs ++ added)
  inputs_differ =
      AllPairs-append (λ m n. m ≢ n) old.inputs added is_old.inputs_distinct (following-distinct new.nodes copies.grows.sound (length old.nodes))
      (λ k d h j e l q. absurd (omega (arith, kind_at-within old.nodes (get_or old.inputs k d) Leaf (is_old.inputs k d h), (added_are j e l).1)))

  latch_leaf_there : All (IsLeaf new.nodes) (latch_leaves new.latchs)
  latch_leaf_there =
      All-same (IsLeaf new.nodes) (latch_leaves new.latchs) (latch_leaves old.latchs) appends.latchs.leaves (All-weaker (IsLeaf old.nodes) (IsLeaf new.nodes) leaf_kept (latch_leaves old.latchs) (latch_leaves-leaves old is_old))

  next_in : All (IsInRange from.nodes) (next_edges from.latchs)
  next_in = All-map (IsInRange from.nodes) (λ (l : AigLatch). l.next) from.latchs (λ k d h. (is_from.latchs k d h).next)

  next_there : All (IsInRange new.nodes) (next_edges new.latchs)
  next_there = All-same (IsInRange new.nodes) (next_edges new.latchs) (map (image_in images) (next_edges from.latchs)) appends.latchs.next (images_there (next_edges from.latchs) next_in)

  start_there : All (λ (o : Option AigEdge). IfSome o (IsInRange new.nodes)) (starts_of new.latchs)
  start_there =
      let P = λ (o : Option AigEdge). IfSome o (IsInRange new.nodes) in
      All-same P (starts_of new.latchs) (starts_of old.latchs) appends.latchs.starts
      (All-map P (λ (l : AigLatch). l.init) old.latchs (λ k d h. init_grown old.nodes new.nodes (get_or old.latchs k d).init longer (is_old.latchs k d h).init))

  latches_are : All (IsLatch new.nodes) new.latchs
  latches_are k d h = record {
    leaf = All-from_map (λ (l : AigLatch). l.input) (IsLeaf new.nodes) new.latchs latch_leaf_there k d h;
    next = All-from_map (λ (l : AigLatch). l.next) (IsInRange new.nodes) new.latchs next_there k d h;
    init = All-from_map (λ (l : AigLatch). l.init) (λ (o : Option AigEdge). IfSome o (IsInRange new.nodes)) new.latchs start_there k d h;
  }

  leaves_apart : All (λ n. ¬ Contains new.inputs n) (latch_leaves new.latchs)
  leaves_apart =
      All-same (λ n. ¬ Contains new.inputs n) (latch_leaves new.latchs) (latch_leaves old.latchs) appends.latchs.leaves (λ k d h has. apart k d h (subst (λ l. Contains l (get_or (latch_leaves old.latchs) k d)) appends.inputs has))
    where
      apart : (k d : ℕ) → k < length (latch_leaves old.latchs)
          → Contains (old.inputs ++ added) (get_or (latch_leaves old.latchs) k d) → ⊥
      apart k d h has = elim (Contains-append_cases old.inputs added (get_or (latch_leaves old.latchs) k d) has) [
        | inl early ↦ is_old.apart k d h early
        | inr late ↦ absurd (omega (arith, kind_at-within old.nodes (get_or (latch_leaves old.latchs) k d) Leaf (latch_leaves-leaves old is_old k d h), (All-contains (IsBehind new.nodes copies.grows.sound (length old.nodes)) added (get_or (latch_leaves old.latchs) k d) added_are late).1))
      ]

  pub stepped_is_circuit : IsCircuit new
  stepped_is_circuit = record {
    nodes = copies.grows.sound;
    inputs = All-same (IsLeaf new.nodes) new.inputs (old.inputs ++ added) appends.inputs inputs_are;
    inputs_distinct = subst (AllPairs (λ m n. m ≢ n)) (sym appends.inputs) inputs_differ;
    latchs = latches_are;
    latchs_distinct = subst (AllPairs (λ m n. m ≢ n)) (sym appends.latchs.leaves) is_old.latchs_distinct;
    apart = leaves_apart;
    properties = properties_there;
    named = λ n h. omega (arith, longer, is_old.named n (subst (λ names. IsTrue (contains_key names n)) appends.names h));
  }

  -- ---- it has one step more

  -- the image of a latch's leaf has the value of the old next edge
  latch_values : (y : ℕ → Bool)
      → AllZip (λ n e. edge_value new.nodes y (image_at images n) ≡ edge_value old.nodes y e) (latch_leaves from.latchs) (next_edges old.latchs)
  latch_values y =
      zip_weaker (λ n e. image_at images n ≡ e) (λ n e. edge_value new.nodes y (image_at images n) ≡ edge_value old.nodes y e) (IsInRange old.nodes) (latch_leaves from.latchs) (next_edges old.latchs)
      (λ n e there same. ap (edge_value new.nodes y) same ∙ edge_value-Grows old.nodes new.nodes is_old.nodes copies.grows y e there)
      (All-map (IsInRange old.nodes) (λ (l : AigLatch). l.next) old.latchs (λ k d h. (is_old.latchs k d h).next))
      (zip_of_map (image_at images) (λ (e : AigEdge). e) (latch_leaves from.latchs) (next_edges old.latchs) (copies.latches ∙ sym (map-id (next_edges old.latchs))))

  -- and that of another leaf the value of its input
  other_values : (y : ℕ → Bool)
      → AllZip (λ n input. edge_value new.nodes y (image_at images n) ≡ y input) (other_leaves from) added
  other_values y =
      zip_weaker (λ n input. image_at images n ≡ edge_to input false) (λ n input. edge_value new.nodes y (image_at images n) ≡ y input) (IsBehind new.nodes copies.grows.sound (length old.nodes)) (other_leaves from) added
      (λ n input following same. ap (edge_value new.nodes y) same ∙ node_value-leaf new.nodes y input following.0)
      added_are
      (zip_of_map (image_at images) (λ n. edge_to n false) (other_leaves from) added copies.others)

  module _ (y x : ℕ → Bool) (reads : ReadsNext from old added y x) where
    -- a leaf has the value of its image
    leaf_value : (n : ℕ) → IsLeaf from.nodes n → x n ≡ edge_value new.nodes y (image_at images n)
    leaf_value n leaf = elim (leaf_cases from is_from n leaf) [
      | inl latch ↦ All-contains (λ n. x n ≡ edge_value new.nodes y (image_at images n)) (latch_leaves from.latchs) n
          (all_from_zips (λ n e. x n ≡ edge_value old.nodes y e) (λ n e. edge_value new.nodes y (image_at images n) ≡ edge_value old.nodes y e) (λ n. x n ≡ edge_value new.nodes y (image_at images n)) (latch_leaves from.latchs) (next_edges old.latchs) (λ n e r s. r ∙ sym s) reads.state (latch_values y)) latch
      | inr other ↦ All-contains (λ n. x n ≡ edge_value new.nodes y (image_at images n)) (other_leaves from) n
          (all_from_zips (λ n i. x n ≡ y i) (λ n i. edge_value new.nodes y (image_at images n) ≡ y i) (λ n. x n ≡ edge_value new.nodes y (image_at images n)) (other_leaves from) added (λ n i r s. r ∙ sym s) reads.others (other_values y)) other
    ]

    -- an edge's image has its value
    image_value : (e : AigEdge) → IsInRange from.nodes e
        → edge_value new.nodes y (image_in images e) ≡ edge_value from.nodes x e
    image_value e h = edge_value-image_in new.nodes y images e ∙ ap (inverted_if e.compl) (copies.value y x (λ n l leaf. leaf_value n leaf) e.node_id h)

    image_values : (es : List AigEdge) → All (IsInRange from.nodes) es
        → HaveSameValues new.nodes y (map (image_in images) es) from.nodes x es
    image_values [] all = tt
    image_values (e ∷ es) all = (image_value e (all 0 e (omega arith)), image_values es (λ k d h. all (suc k) d (omega arith)))

    property_values : AreProperties (λ e f. edge_value new.nodes y f ≡ edge_value from.nodes x e) from.properties (map_properties (image_in images) from.properties)
    property_values =
        AreProperties-map (image_in images) (λ e f. edge_value new.nodes y f ≡ edge_value from.nodes x e) from.properties
        (AllProperties-weaker (IsInRange from.nodes) (λ e. edge_value new.nodes y (image_in images e) ≡ edge_value from.nodes x e) image_value from.properties is_from.properties)

  -- the circuit that a frame makes
  abbrev step_of : Frame → Circuit
  step_of made = record {
    nodes = made.nodes;
    inputs = old.inputs ++ leaves_after (length old.nodes) made.nodes;
    latchs = with_next old.latchs (map (image_in made.images) (next_edges from.latchs));
    properties = append_properties old.properties (map_properties (image_in made.images) from.properties);
    names = old.names;
  }

  abbrev made_of : Circuit
  made_of = step_of (frame_of new.nodes images)

  next_is : new.latchs ≡ with_next old.latchs (map (image_in images) (next_edges from.latchs))
  next_is = with_next-is old.latchs new.latchs appends.latchs.leaves appends.latchs.starts ∙ ap (with_next old.latchs) appends.latchs.next

  whole : new ≡ made_of
  whole =
      let inputs : new ≡ record new { inputs = made_of.inputs } = ap (λ (x : List ℕ). record new { inputs = x }) appends.inputs in
      let latchs = ap (λ (x : List AigLatch). record new { inputs = made_of.inputs; latchs = x }) next_is in
      let properties = ap (λ (x : Properties AigEdge). record made_of { properties = x; names = new.names }) appends.properties in
      let names = ap (λ (x : FinMap nat_cmp (List ℕ)). record made_of { names = x }) appends.names in
      inputs ∙ latchs ∙ properties ∙ names

  pub stepped_unrolls : UnrollsOnce from old new
  stepped_unrolls = record {
    keeps = record { nodes = copies.grows; inputs = appends.inputs; names = appends.names; leaves = appends.latchs.leaves; starts = appends.latchs.starts };
    count = sym (length-map added (λ n. edge_to n false)) ∙ sym (ap length copies.others) ∙ length-map (other_leaves from) (image_at images);
    added = map_properties (image_in images) from.properties;
    with_added = appends.properties;
    reads = λ y. (λ n. edge_value new.nodes y (image_at images n), record { state = latch_values y; others = other_values y });
    values = λ y x reads. (
      property_values y x reads,
      subst (λ es. HaveSameValues new.nodes y es from.nodes x (next_edges from.latchs)) (sym appends.latchs.next) (image_values y x reads (next_edges from.latchs) next_in),
    );
    size = copies.size;
    exact = whole ∙ sym (ap step_of copies.exact);
  }

-- what was made of a circuit is one step more: first its nodes, its inputs and its justice sets, and then its other lists
pub stepped_in_parts : (from old mid new : Circuit) (images : List AigEdge)
    → CopiesAll from old.latchs old.nodes mid.nodes images
    → mid.inputs ≡ old.inputs ++ leaves_after (length old.nodes) mid.nodes
    → mid.properties.justice ≡ old.properties.justice ++ map (map (image_in images)) from.properties.justice
    → record mid { properties = record mid.properties { justice = old.properties.justice } } ≡ record old { nodes = mid.nodes; inputs = mid.inputs } → new.nodes ≡ mid.nodes → new.inputs ≡ mid.inputs → HaveNextImages images from.latchs mid.latchs new.latchs
    → AppendsButJustice images from.properties mid.properties new.properties → new.names ≡ mid.names → CopiesAll from old.latchs old.nodes new.nodes images × AppendsImages from old images new
stepped_in_parts from old mid new images copies leaves sets same nodes inputs latchs properties names =
    let more = map_properties (image_in images) from.properties in (
      subst (λ ns. CopiesAll from old.latchs old.nodes ns images) (sym nodes) copies,
      record {
        inputs = inputs ∙ leaves ∙ ap (λ ns. old.inputs ++ leaves_after (length old.nodes) ns) (sym nodes);
        latchs = subst (λ (ls : List AigLatch). HaveNextImages images from.latchs ls new.latchs) (ap (λ (c : Circuit). c.latchs) same) latchs;
        properties = properties ∙ ap (λ justice. record (append_properties mid.properties more) { justice = justice }) sets ∙ ap (λ (c : Circuit). append_properties c.properties more) same;
        names = names ∙ ap (λ (c : Circuit). c.names) same;
      },
    )

-- an unrolled circuit begins with the circuit
pub begins_unrolled : (c : Circuit) (k : ℕ) (d : Circuit) → UnrollsTo c k d → BeginsWith d c
begins_unrolled c k d to = record {
  nodes = record { longer = Grows-longer c.nodes d.nodes to.keeps.nodes; same = Grows-kept c.nodes d.nodes to.keeps.nodes };
  leaves = to.keeps.leaves;
}
