-- A miter whose registers start alike has a written form, where it isn't too large.
use Rattle.aig_base.proofs.Words.{◌≡◌, ◌⊎◌, ◌^◌, ℕ, ◌+◌, ◌<◌, ◌≤◌, Bool, true, false, cond, eqb, Option, Some, None, List, [], ◌∷◌, ◌++◌, length, map, take, drop, zip, get_or, refl, sym, ap, ap₂, subst, ◌∙◌, arith, inl, inr, All, AllByRecursion, Contains, IfSome, if◌then◌else◌, option_to_list, slice_get, append_assoc, take-append-drop, cases_eq, eqb-true, length-append, length-drop, length-map, map-append, All-append, All-cons, All-from_recursion, All-head, All-map, All-nil, All-tail}
use Rattle.aig_circuit.specs.declared.edge.AigEdge.{AigEdge}
use Rattle.aig_circuit.specs.declared.node.AigLatch.{AigLatch}
use Rattle.aig_circuit.specs.declared.node.AigNode.{AigNode}
use Rattle.aig_circuit.proofs.Words.{AreNodes, Circuit, IsCircuit, IsClosed, latch_leaves, HasConstantInit, renumbered_latch}
use Rattle.aig_change.specs.Changes.{ConstrainsInits, constant_start, first_step_latch, with_constant_start}
use Rattle.aig_format.specs.Writable.{FitsFormat, HasLineFeed, IsWritable, list_lengths, named_nodes}
use Rattle.aig_join.specs.Alike.{IsAlikeMiter, started, started_miter}
use Rattle.aig_join.specs.Joined.{joined, number_in_joint}
use Rattle.aig_join.specs.Miter.{HaveSameCounts}
use Rattle.aig_join.specs.Starts.{Register, circuit_registers, in_turn, named_place, open_places, partners}
use Rattle.aig_join.specs.declared.starts.Matching.{Matching}
use Rattle.aig_join.specs.declared.starts.Matching.TheVariants.{ByName, ByOrder}
use Rattle.aig_join.proofs.Miters.{IsCircuit-miter}
use Rattle.aig_join.proofs.Writable.{IsWritable-miter, IsWritableIfSmall, closed-with_leaf, names-with_leaf, unnamed-past}

-- the latch's leaf
abbrev leaf_of : AigLatch → ℕ
leaf_of latch = latch.input

-- ---- initial edges that constraints replace

-- the initial edge is constant, if there is one
abbrev IsConstant : Option AigEdge → Type 0
IsConstant o = IfSome o (λ e. e.node_id ≡ 0)

-- what is left of an initial edge is constant
constant_start-constant : (o : Option AigEdge) → IsConstant (constant_start o)
constant_start-constant (Some e) = by_test (eqb e.node_id 0) refl
  where
    by_test : (b : Bool) → eqb e.node_id 0 ≡ b → IsConstant (cond b (Some e) None)
    by_test true h = eqb-true e.node_id 0 h
    by_test false h = tt
constant_start-constant None = tt

-- an initial edge is constant, or it isn't
constant-or_not : (o : Option AigEdge) → IsConstant o ⊎ ¬ IsConstant o
constant-or_not (Some e) = cases_eq e.node_id 0
constant-or_not None = inl tt

-- all initial edges are constant, or some isn't
all-or_not : (ls : List AigLatch) → All HasConstantInit ls ⊎ ¬ All HasConstantInit ls
all-or_not [] = inl (All-nil HasConstantInit)
all-or_not (l ∷ ls) = elim (constant-or_not l.init) [
  | inl first ↦ elim (all-or_not ls) [
    | inl rest ↦ inl (All-cons HasConstantInit l ls first rest)
    | inr some ↦ inr (λ all. some (All-tail HasConstantInit l ls all))
  ]
  | inr some ↦ inr (λ all. some (All-head HasConstantInit l ls all))
]

-- latches keep their leaves
leaves-constant : (ls : List AigLatch)
    → latch_leaves (map with_constant_start ls) ≡ latch_leaves ls
leaves-constant [] = refl
leaves-constant (l ∷ ls) = ap (λ ns. l.input ∷ ns) (leaves-constant ls)

-- the added latch, if there is one, is on the added leaf
leaves-first : (o : Option ℕ) → latch_leaves (map first_step_latch (option_to_list o))
    ≡ option_to_list o
leaves-first (Some n) = refl
leaves-first None = refl

-- and its initial edge is constant
first-constant : (o : Option ℕ)
    → AllByRecursion HasConstantInit (map first_step_latch (option_to_list o))
first-constant (Some n) = (refl, tt)
first-constant None = tt

module _ (old new : Circuit) (says : ConstrainsInits old new) where
  -- the nodes whose names are written, and the leaf of the added latch
  named-new : named_nodes new ≡ named_nodes old ++ option_to_list says.leaf
  named-new =
      let added = option_to_list says.leaf in
      let leaves = ap latch_leaves says.latchs
      ∙ map-append leaf_of (map with_constant_start old.latchs) (map first_step_latch added)
      ∙ ap₂ (λ ns ms. ns ++ ms) (leaves-constant old.latchs) (leaves-first says.leaf) in
      ap₂ (λ ns ms. ns ++ ms) (ap (λ (c : Circuit). c.inputs) says.rest) leaves
      ∙ sym (append_assoc old.inputs (latch_leaves old.latchs) added)

  -- all initial edges are constant or none
  starts-new : All HasConstantInit new.latchs
  starts-new =
      let added = map first_step_latch (option_to_list says.leaf) in
      subst (All HasConstantInit) (sym says.latchs)
      (All-append HasConstantInit (map with_constant_start old.latchs) added
      (All-map HasConstantInit with_constant_start old.latchs
      (λ k d h. constant_start-constant (get_or old.latchs k d).init))
      (All-from_recursion HasConstantInit added (first-constant says.leaf)))

  -- where the added latch is on a new leaf, that is named last
  named-last : says.leaf ≡ Some (length old.nodes)
      → named_nodes new ≡ named_nodes old ++ length old.nodes ∷ []
  named-last leaf_is =
      named-new ∙ ap (λ (o : Option ℕ). named_nodes old ++ option_to_list o) leaf_is

  -- so a circuit whose initial edges constraints replaced has a written form
  IsWritable-constrained : AreNodes old.nodes → IsClosed old
      → All (λ n. ¬ HasLineFeed old.names n) (named_nodes old)
      → ¬ HasLineFeed old.names (length old.nodes) → FitsFormat new → IsWritable new
  IsWritable-constrained are closed names fresh small = elim (all-or_not old.latchs) [
    | inl all ↦ subst IsWritable (sym (says.none all)) (record {
      closed = closed;
      start = all;
      names = names;
      small = subst FitsFormat (says.none all) small;
    })
    | inr variable ↦ record {
      closed = closed-with_leaf old new (named-last (says.some variable).0) are
          (says.some variable).1 closed;
      start = starts-new;
      names = names-with_leaf old new (named-last (says.some variable).0)
          (ap (λ (c : Circuit). c.names) says.rest) fresh names;
      small = small;
    }
  ]

-- a circuit with fewer nodes, latches and constraints isn't too large
FitsFormat-less : (c : Circuit) (nodes : List AigNode) (latchs : List AigLatch)
    (constraints : List AigEdge) → length c.nodes ≤ length nodes → length c.latchs ≤ length latchs
    → length c.properties.constraints ≤ length constraints
    → FitsFormat (record c {
      nodes = nodes;
      latchs = latchs;
      properties = record c.properties { constraints = constraints };
    }) → FitsFormat c
FitsFormat-less c nodes latchs constraints n l k fits =
    let many = fits.nodes in
    let i = fits.lists 0 0 (omega arith) in
    let latches = fits.lists 1 0 (omega arith) in
    let o = fits.lists 2 0 (omega arith) in
    let b = fits.lists 3 0 (omega arith) in
    let constrained = fits.lists 4 0 (omega arith) in
    let j = fits.lists 5 0 (omega arith) in
    let s = fits.lists 6 0 (omega arith) in record {
      nodes = omega (arith, n, many);
      lists = All-from_recursion (λ n. n < 2 ^ 32) (list_lengths c)
          (i, (omega (arith, l, latches), (o, (b, (omega (arith, k, constrained), (j, (s, tt)))))));
      sets = fits.sets;
    }

-- ---- the miter

-- each register gets a place or none
length-in_turn : (places : List ℕ) (rs : List Register) → length (in_turn places rs) ≡ length rs
length-in_turn places [] = refl
length-in_turn places (r ∷ rs) =
    by_test r.is_open (length-in_turn (drop 1 places) rs) (length-in_turn places rs)
  where
    by_test : (b : Bool) → length (in_turn (drop 1 places) rs) ≡ length rs
        → length (in_turn places rs) ≡ length rs
        → length
        (cond b (slice_get places 0 ∷ in_turn (drop 1 places) rs) (None ∷ in_turn places rs))
        ≡ length (r ∷ rs)
    by_test true e f = omega (arith, e)
    by_test false e f = omega (arith, f)

-- there is a partner or none for each register
length-partners : (matching : Matching) (ours theirs : List Register)
    → length (partners matching ours theirs) ≡ length theirs
length-partners ByOrder ours theirs = length-in_turn (open_places ours) theirs
length-partners ByName ours theirs =
    length-map theirs (λ r. if r.is_open then named_place ours r.name else None)

-- an initial edge to a partner leaves the latch's leaf
started-leaf : (p : Option ℕ) (l : AigLatch) → (started p l).input ≡ l.input
started-leaf (Some n) l = refl
started-leaf None l = refl

-- and so it is with all
started-leaves : (ps : List (Option ℕ)) (ls : List AigLatch) → length ps ≡ length ls
    → latch_leaves (map (λ pair. started pair.0 pair.1) (zip ps ls)) ≡ latch_leaves ls
started-leaves [] [] e = refl
started-leaves [] (l ∷ ls) e = absurd (omega arith)
started-leaves (p ∷ ps) [] e = absurd (omega arith)
started-leaves (p ∷ ps) (l ∷ ls) e =
    ap₂ (λ n ns. n ∷ ns) (started-leaf p l) (started-leaves ps ls (omega arith))

module _ (matching : Matching) (a b m : Circuit) (is_a : IsCircuit a) (is_b : IsCircuit b)
    (counts : HaveSameCounts a b) (miters : IsAlikeMiter matching a b m) where
  -- how many latches the first circuit has
  abbrev own : ℕ
  own = length a.latchs

  -- the partners of the second one's registers
  abbrev places : List (Option ℕ)
  places = partners matching (circuit_registers a) (circuit_registers b)

  -- the plain miter whose latches start with the values of their partners
  abbrev old : Circuit
  old = started_miter matching a b miters.plain

  -- the plain miter has the latches of both
  many-latches : length miters.plain.latchs ≡ length a.latchs + length b.latchs
  many-latches =
      let number = number_in_joint 0 a b in
      ap (λ (c : Circuit). length c.latchs) miters.miter.rest
      ∙ length-append a.latchs (map (renumbered_latch number) b.latchs)
      ∙ ap (λ n. length a.latchs + n) (length-map b.latchs (renumbered_latch number))

  -- the latches that start otherwise have the same leaves
  leaves-started : latch_leaves old.latchs ≡ latch_leaves miters.plain.latchs
  leaves-started =
      let latchs = miters.plain.latchs in
      let long = length-partners matching (circuit_registers a) (circuit_registers b)
      ∙ length-map b.latchs _ in
      let rest : length places ≡ length (drop own latchs) =
      omega (arith, long, many-latches, length-drop own latchs) in
      map-append leaf_of (take own latchs)
      (map (λ pair. started pair.0 pair.1) (zip places (drop own latchs)))
      ∙ ap (λ ns. latch_leaves (take own latchs) ++ ns)
      (started-leaves places (drop own latchs) rest)
      ∙ sym (map-append leaf_of (take own latchs) (drop own latchs))
      ∙ ap latch_leaves (take-append-drop own latchs)

  -- the plain miter isn't larger
  plain-small : FitsFormat m → FitsFormat miters.plain
  plain-small small =
      let says = miters.constrains in
      let latchs = ap length says.latchs
      ∙ length-append (map with_constant_start old.latchs)
      (map first_step_latch (option_to_list says.leaf)) in
      let starts = length-map old.latchs with_constant_start in
      let same = sym (length-map old.latchs leaf_of) ∙ ap length leaves-started
      ∙ length-map miters.plain.latchs leaf_of in
      let constraints = ap length says.constraints
      ∙ length-append miters.plain.properties.constraints says.constrained in
      FitsFormat-less miters.plain m.nodes m.latchs m.properties.constraints says.nodes.longer
      (omega (arith, latchs, starts, same)) (omega (arith, constraints))
      (subst FitsFormat says.rest small)

  -- the names are those of the joint circuit
  pub names-alike : m.names ≡ (joined 0 a b).names
  names-alike = ap (λ (c : Circuit). c.names) miters.constrains.rest
      ∙ ap (λ (c : Circuit). c.names) miters.miter.rest

  -- the miter has a written form
  pub IsWritable-alike : IsWritableIfSmall a → IsWritableIfSmall b → FitsFormat m → IsWritable m
  IsWritable-alike one two small =
      let is = IsCircuit-miter a b miters.plain is_a is_b counts miters.miter in
      let plain = IsWritable-miter a b miters.plain is_a is_b counts miters.miter one two
      (plain-small small) in
      let same = leaves-started in
      IsWritable-constrained old m miters.constrains is.nodes
      (λ n leaf. subst (λ ns. Contains (miters.plain.inputs ++ ns) n) (sym same)
      (plain.closed n leaf))
      (subst (λ ns. All (λ n. ¬ HasLineFeed miters.plain.names n) (miters.plain.inputs ++ ns))
      (sym same) plain.names) (unnamed-past miters.plain is) small
