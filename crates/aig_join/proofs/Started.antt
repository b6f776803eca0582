-- The miter with latches that start with the values of others.
use Rattle.aig_base.proofs.Words.{◌≡◌, ◌≢◌, ℕ, ◌+◌, ◌<◌, ◌≤◌, Option, Some, None, List, [], ◌∷◌, Vec, Global, length-append, with_items_is, ◌++◌, length, map, take, drop, get_or, set, refl, sym, ap, subst, ◌∙◌, arith, append-nil, drop_all, take_all, length-map, length-take-le, drop_at, drop_more, map-append, map_more, take-append-drop, All, AllPairs, All-append, All-cons, All-drop, All-head, All-map, All-nil, All-tail, All-take, Contains, IfSome, zip}
use Rattle.std.proofs.lemmas.List.{get_or_at, set_at}
use Rattle.std.specs.Vec.{with_items}
use Rattle.std.proofs.lemmas.Slice.Zip.{get_or-zip, length-zip}
use Rattle.aig_circuit.specs.declared.node.AigNode.{AigNode}
use Rattle.aig_circuit.specs.declared.node.AigLatch.{AigLatch}
use Rattle.aig_circuit.specs.Circuit.{IsLatch}
use Rattle.aig_circuit.proofs.Words.{Circuit, IsCircuit, latch_leaves, nodes_in_order, renumbered_latch}
use Rattle.aig_renumber.proofs.Circuits.{SpeaksOf-nodes}
use Rattle.aig_join.specs.declared.starts.Matching.{Matching}
use Rattle.aig_join.specs.Alike.{started, started_miter}
use Rattle.aig_join.specs.Joined.{added_numbers, number_in_joint}
use Rattle.aig_join.specs.Miter.{IsMiter}
use Rattle.aig_join.specs.Starts.{circuit_registers, partners}
use Rattle.aig_join.proofs.Partners.{partners-count, partners-have, register}

-- ---- the loop

-- each latch started at the place beside it
abbrev pub all_started : List (Option ℕ) → List AigLatch → List AigLatch
all_started places latchs =
    map (λ (pair : Option ℕ × AigLatch). started pair.0 pair.1) (zip places latchs)

-- one latch more that is started
pub started-more : (places : List (Option ℕ)) (latchs now : List AigLatch) (i : ℕ)
    (p : Option ℕ) (d : AigLatch) → length places ≡ length latchs → i < length latchs
    → now ≡ map (λ (pair : Option ℕ × AigLatch). started pair.0 pair.1)
    (take i (zip places latchs)) ++ drop i latchs
    → set now i (started (get_or places i p) (get_or now i d))
    ≡ map (λ (pair : Option ℕ × AigLatch). started pair.0 pair.1)
    (take (i + 1) (zip places latchs)) ++ drop (i + 1) latchs
started-more places latchs now i p d same h so_far =
    let f : Option ℕ × AigLatch → AigLatch = λ pair. started pair.0 pair.1 in
    let pairs = zip places latchs in
    let front = map f (take i pairs) in
    let latch = get_or latchs i d in
    let many = length-zip places latchs in
    let long : length front ≡ i = length-map (take i pairs) f
    ∙ length-take-le i pairs (omega arith) in
    let split : now ≡ front ++ latch ∷ drop (i + 1) latchs = so_far
    ∙ ap (λ ls. front ++ ls) (drop_more latchs i d h) in
    let read : get_or now i d ≡ latch = ap (λ ls. get_or ls i d) split
    ∙ get_or_at front latch (drop (i + 1) latchs) d i long in
    let pair : get_or pairs i (p, d) ≡ (get_or places i p, latch) = get_or-zip places latchs i (p, d)
    (omega arith) h in
    let more : map f (take (i + 1) pairs)
    ≡ front ++ started (get_or places i p) latch ∷ [] = map_more f pairs i (p, d) (omega arith)
    ∙ ap (λ q. front ++ f q ∷ []) pair in
    ap (λ l. set now i (started (get_or places i p) l)) read
    ∙ ap (λ ls. set ls i (started (get_or places i p) latch)) split
    ∙ set_at front latch (drop (i + 1) latchs) (started (get_or places i p) latch) i long
    ∙ pushed front (started (get_or places i p) latch) (drop (i + 1) latchs)
    (map f (take (i + 1) pairs)) more
  where
    pushed : (front : List AigLatch) (l : AigLatch) (back all : List AigLatch)
        → all ≡ front ++ l ∷ [] → front ++ l ∷ back ≡ all ++ back
    pushed front l back all is = seam front l back ∙ ap (λ ls. ls ++ back) (sym is)
      where
        seam : (front : List AigLatch) (l : AigLatch) (back : List AigLatch)
            → front ++ l ∷ back ≡ (front ++ l ∷ []) ++ back
        seam [] l back = refl
        seam (f ∷ front) l back = ap (λ ls. f ∷ ls) (seam front l back)

-- and at the end all are
pub started-end : (places : List (Option ℕ)) (latchs now : List AigLatch) (i : ℕ)
    → length latchs ≤ i
    → now ≡ map (λ (pair : Option ℕ × AigLatch). started pair.0 pair.1)
    (take i (zip places latchs)) ++ drop i latchs
    → now ≡ map (λ (pair : Option ℕ × AigLatch). started pair.0 pair.1) (zip places latchs)
started-end places latchs now i h so_far =
    let many = length-zip places latchs in
    so_far
    ∙ ap (λ ps. map (λ (pair : Option ℕ × AigLatch). started pair.0 pair.1) ps ++ drop i latchs)
    (take_all i (zip places latchs) (omega arith))
    ∙ ap (λ ls. all_started places latchs ++ ls) (drop_all i latchs h)
    ∙ append-nil (all_started places latchs)

-- ---- the latches

-- a latch keeps its leaf
started-leaf : (p : Option ℕ) (latch : AigLatch) → (started p latch).input ≡ latch.input
started-leaf (Some n) latch = refl
started-leaf None latch = refl

-- and so do all
leaves-started : (places : List (Option ℕ)) (latchs : List AigLatch)
    → length places ≡ length latchs → latch_leaves (all_started places latchs)
    ≡ latch_leaves latchs
leaves-started [] [] same = refl
leaves-started [] (l ∷ ls) same = absurd (omega (arith, same))
leaves-started (p ∷ ps) [] same = absurd (omega (arith, same))
leaves-started (p ∷ ps) (l ∷ ls) same =
    ap (λ n. n ∷ latch_leaves (all_started ps ls)) (started-leaf p l)
    ∙ ap (λ ns. l.input ∷ ns) (leaves-started ps ls (omega (arith, same)))

module _ (nodes : List AigNode) where
  abbrev Below : Option ℕ → Type 0
  Below o = IfSome o (λ n. n < length nodes)

  latch-started : (p : Option ℕ) (latch : AigLatch) → Below p → IsLatch nodes latch
      → IsLatch nodes (started p latch)
  latch-started (Some n) latch below is = record { leaf = is.leaf; next = is.next; init = below }
  latch-started None latch below is = is

  latches-started : (places : List (Option ℕ)) (latchs : List AigLatch) → All Below places
      → All (IsLatch nodes) latchs → All (IsLatch nodes) (all_started places latchs)
  latches-started [] latchs below are = All-nil (IsLatch nodes)
  latches-started (p ∷ ps) [] below are = All-nil (IsLatch nodes)
  latches-started (p ∷ ps) (l ∷ ls) below are =
      All-cons (IsLatch nodes) (started p l) (all_started ps ls)
      (latch-started p l (All-head Below p ps below) (All-head (IsLatch nodes) l ls are))
      (latches-started ps ls (All-tail Below p ps below) (All-tail (IsLatch nodes) l ls are))

-- ---- the miter

module _ (matching : Matching) (a b m : Circuit) (is_a : IsCircuit a) (is_m : IsCircuit m)
    (miters : IsMiter a b m) where
  abbrev own : ℕ
  own = length a.latchs

  abbrev places : List (Option ℕ)
  places = partners matching (circuit_registers a) (circuit_registers b)

  -- the latches of the second are the others
  pub others-are : drop (length a.latchs) m.latchs
      ≡ map (renumbered_latch (number_in_joint 0 a b)) b.latchs
  others-are =
      ap (λ (c : Circuit). drop own c.latchs) miters.rest
      ∙ drop_at a.latchs (map (renumbered_latch (number_in_joint 0 a b)) b.latchs) own refl

  -- there is a place, or none, for each of them
  pub places-count : length (partners matching (circuit_registers a) (circuit_registers b))
      ≡ length (drop (length a.latchs) m.latchs)
  places-count =
      partners-count matching (circuit_registers a) (circuit_registers b)
      ∙ length-map b.latchs (register b.names)
      ∙ sym (length-map b.latchs (renumbered_latch (number_in_joint 0 a b)))
      ∙ ap length (sym others-are)

  -- the leaves are the same in the same order
  pub started-leaves : latch_leaves (started_miter matching a b m).latchs ≡ latch_leaves m.latchs
  started-leaves =
      let leaf : AigLatch → ℕ = λ latch. latch.input in
      map-append leaf (take own m.latchs) (all_started places (drop own m.latchs))
      ∙ ap (λ ns. latch_leaves (take own m.latchs) ++ ns)
      (leaves-started places (drop own m.latchs) places-count)
      ∙ sym (map-append leaf (take own m.latchs) (drop own m.latchs))
      ∙ ap latch_leaves (take-append-drop own m.latchs)

  started-count : length (started_miter matching a b m).latchs ≡ length m.latchs
  started-count =
      let leaf : AigLatch → ℕ = λ latch. latch.input in
      sym (length-map (started_miter matching a b m).latchs leaf) ∙ ap length started-leaves
      ∙ length-map m.latchs leaf

  -- the places are nodes of the miter
  pub places-there : All (λ o. IfSome o (λ n. n < length m.nodes))
      (partners matching (circuit_registers a) (circuit_registers b))
  places-there =
      let all = SpeaksOf-nodes a is_a in
      let wide = length-append a.nodes (nodes_in_order b.nodes (number_in_joint 0 a b)
      (length a.nodes) (added_numbers 0 a b)) in
      let grown = miters.gates.grows.longer in
      partners-have (λ n. n < length m.nodes) matching (circuit_registers a)
      (circuit_registers b)
      (All-map (λ r. r.place < length m.nodes) (register a.names) a.latchs
      (λ k d h. (let low = (all.latchs k d h).leaf in omega arith)))

  -- it is a circuit, whose nodes, inputs, properties and names are those of the miter
  pub IsCircuit-started : IsCircuit (started_miter matching a b m)
  IsCircuit-started = record {
    nodes = is_m.nodes;
    inputs = is_m.inputs;
    inputs_distinct = is_m.inputs_distinct;
    latchs = All-append (IsLatch m.nodes) (take own m.latchs)
        (all_started places (drop own m.latchs))
        (All-take (IsLatch m.nodes) own m.latchs is_m.latchs)
        (latches-started m.nodes places (drop own m.latchs) places-there
        (All-drop (IsLatch m.nodes) own m.latchs is_m.latchs));
    latchs_distinct = subst (AllPairs (λ m n. m ≢ n)) (sym started-leaves)
        is_m.latchs_distinct;
    apart = subst (All (λ n. ¬ Contains m.inputs n)) (sym started-leaves) is_m.apart;
    properties = is_m.properties;
    named = is_m.named;
  }

  -- what is written over the latches past the first ones
  pub latches-written : (v : Vec AigLatch Global) → v.items ≡ m.latchs
      → (front new post : List AigLatch) → front ≡ take (length a.latchs) m.latchs
      → new ≡ all_started (partners matching (circuit_registers a) (circuit_registers b))
      (drop (length a.latchs) m.latchs)
      → post ≡ []
      → (with_items v (front ++ (new ++ post))).items ≡ (started_miter matching a b m).latchs
  latches-written v same front new post f n p =
      let whole : front ++ (new ++ post)
      ≡ (started_miter matching a b m).latchs = (λ i. f i ++ (n i ++ p i))
      ∙ ap (λ ls. take own m.latchs ++ ls)
      (append-nil (all_started places (drop own m.latchs))) in
      with_items_is v (front ++ (new ++ post))
      (ap length whole ∙ started-count ∙ ap length (sym same) ∙ sym v.ok.0) ∙ whole
