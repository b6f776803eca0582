-- Where only its size can keep a circuit from a written form, this is so of what is made of it.
use Rattle.aig_base.proofs.Words.{◌≡◌, ◌⊎◌, ℕ, zero, suc, ◌<◌, ◌≤◌, Bool, true, false, cond, IsTrue, Option, Some, None, List, [], ◌∷◌, ◌++◌, length, map, get_or, refl, sym, ap, subst, ◌∙◌, inl, inr, arith, length-append, All, Contains, IfSome, IsSomeAnd, filter, is_some, option_map, contains_key, entries, get, get-entries, get-from_entries, get-retain_keys, cases_lt, false≢true, nat_cmp_total, map-append, exact_unsigned, All-append, All-contains, All-cons, All-map, All-nil, All-weaker, Contains-append_cases, Contains-append_left, Contains-append_right, Contains-get_or, Contains-push}
use Rattle.aig_circuit.specs.declared.edge.AigEdge.{AigEdge}
use Rattle.aig_circuit.specs.declared.node.AigLatch.{AigLatch}
use Rattle.aig_circuit.specs.declared.node.AigNode.{AigNode}
use Rattle.aig_circuit.specs.declared.node.AigNodeType.{AigNodeType}
use Rattle.aig_circuit.specs.declared.node.AigNodeType.TheVariants.{And, False, Leaf}
use Rattle.aig_circuit.proofs.Words.{AddsGates, with_node, Circuit, IsCircuit, IsLeaf, latch_leaves, HasConstantInit, is_in, only_kept, position_of, renumbered_edge, renumbered_kind, renumbered_latch}
use Rattle.aig_circuit.proofs.Building.{Grows-kept, Grows-leaf, and_of-cases}
use Rattle.aig_circuit.proofs.Circuits.{latch_leaves-leaves}
use Rattle.aig_change.specs.Merge.{merged, shifted}
use Rattle.aig_change.proofs.Merging.{kind-back, leaf-past}
use Rattle.aig_circuit.proofs.Lists.{All-from_map}
use Rattle.aig_circuit.proofs.Trees.{kind_at-within}
use Rattle.aig_change.specs.Changes.{CompressesBads, FoldsConstraints, constraints_held_latch}
use Rattle.aig_format.specs.Writable.{HasLineFeed, named_nodes}
use Rattle.aig_cone.specs.Refine.{AreKept, refined}
use Rattle.aig_cone.proofs.Keeping.{Numbers-kept, S-latchs}
use Rattle.aig_cone.proofs.Refining.{speaks}
use Rattle.aig_renumber.specs.Numbers.{IsLatchIn}
use Rattle.aig_renumber.proofs.Circuits.{latch_leaves-map, leaves-map}
use Rattle.aig_renumber.proofs.Kept.{is_in-back, is_in-there}
use Rattle.aig_renumber.proofs.Names.{found_back, names_in_circuit}
use Rattle.aig_renumber.proofs.NodesInOrder.{IsLeaf-back, Merges-numbers, Numbers, number-apart}
use Rattle.aig_renumber.proofs.Places.{Contains-map, Contains-map_back, filter-back}
use Rattle.aig_unroll.specs.Places.{leaves_after}
use Rattle.aig_unroll.specs.Unroll.{UnrollsTo, starts_of}
use Rattle.aig_unroll.proofs.Added.{following-are, following-have}
use Rattle.aig_edit_laws.specs.Plain.{IsPlain}
use Rattle.aig_edit_laws.specs.Shown.{bad_alone, outputs_as_bads}

-- ---- leaves and names

no_leaf : (a b : AigEdge) → Some (And a b) ≡ Some Leaf → ⊥
no_leaf a b e = cc

-- where only gates are added a leaf is an old one
pub leaf_kept : (xs ys : List AigNode) → AddsGates xs ys → (n : ℕ) → IsLeaf ys n → IsLeaf xs n
leaf_kept xs ys adds n leaf = elim (cases_lt n (length xs)) [
  | inl low ↦ sym (Grows-kept xs ys adds.grows n low) ∙ leaf
  | inr past ↦ (let gate = adds.gates n past (kind_at-within ys n Leaf leaf) in absurd (no_leaf gate.0 gate.1 (sym gate.2 ∙ leaf)))
]

-- a number past the circuit's nodes has no name
unnamed_past : (c : Circuit) → IsCircuit c → (n : ℕ) → length c.nodes ≤ n → ¬ HasLineFeed c.names n
unnamed_past c is n past feed = by_name (get c.names n) refl feed
  where
    by_name : (o : Option (List ℕ)) → get c.names n ≡ o → IsSomeAnd o (λ name. Contains name 10) → ⊥
    by_name None at feed = feed
    by_name (Some name) at feed =
        let low : n < length c.nodes = is.named n (ap is_some at) in absurd (omega arith)

-- of old named nodes and of numbers past the nodes no name holds a line feed
names_past : (c : Circuit) → IsCircuit c → All (λ n. ¬ HasLineFeed c.names n) (named_nodes c)
    → (ns : List ℕ)
    → ((n : ℕ) → Contains ns n → Contains (named_nodes c) n ⊎ (length c.nodes ≤ n))
    → All (λ n. ¬ HasLineFeed c.names n) ns
names_past c is names ns old k d h =
    let n = get_or ns k d in
    elim (old n (Contains-get_or ns k d h)) [
      | inl there ↦ All-contains (λ n. ¬ HasLineFeed c.names n) (named_nodes c) n names there
      | inr past ↦ unnamed_past c is n past
    ]

-- ---- bad edges

pub plain-bads : (c : Circuit) → IsPlain c → IsPlain (outputs_as_bads c)
plain-bads c plain = record { closed = plain.closed; start = plain.start; names = plain.names }

pub plain-bad : (c : Circuit) (e : AigEdge) → IsPlain c → IsPlain (bad_alone c e)
plain-bad c e plain = record { closed = plain.closed; start = plain.start; names = plain.names }

pub plain-compressed : (old new : Circuit) → IsPlain old → CompressesBads old new → IsPlain new
plain-compressed old new plain made = subst IsPlain (sym made.rest) (record {
  closed = λ n leaf. plain.closed n (leaf_kept old.nodes new.nodes made.gates n leaf);
  start = plain.start;
  names = plain.names;
})

-- ---- constraints

module _ (old new : Circuit) (is : IsCircuit old) (plain : IsPlain old) (folds : FoldsConstraints old new) where
  abbrev held : AigLatch
  held = constraints_held_latch (length old.nodes) folds.next

  abbrev longer : List AigLatch
  longer = old.latchs ++ held ∷ []

  -- the circuit with these latches
  abbrev mid : List AigLatch → Circuit
  mid latchs = record old {
    nodes = new.nodes;
    latchs = latchs;
    properties = record old.properties {
      outputs = new.properties.outputs;
      bads = new.properties.bads;
      constraints = new.properties.constraints;
    };
  }

  leaves_longer : latch_leaves longer ≡ latch_leaves old.latchs ++ length old.nodes ∷ []
  leaves_longer = map-append (λ (l : AigLatch). l.input) old.latchs (held ∷ [])

  old_named : (n : ℕ) → Contains (named_nodes old) n
      → Contains (old.inputs ++ (latch_leaves old.latchs ++ length old.nodes ∷ [])) n
  old_named n has = elim (Contains-append_cases old.inputs (latch_leaves old.latchs) n has) [
    | inl input ↦ Contains-append_left old.inputs (latch_leaves old.latchs ++ length old.nodes ∷ []) n input
    | inr leaf ↦ Contains-append_right old.inputs (latch_leaves old.latchs ++ length old.nodes ∷ []) n
        (Contains-append_left (latch_leaves old.latchs) (length old.nodes ∷ []) n leaf)
  ]

  new_named : Contains (old.inputs ++ (latch_leaves old.latchs ++ length old.nodes ∷ [])) (length old.nodes)
  new_named = Contains-append_right old.inputs (latch_leaves old.latchs ++ length old.nodes ∷ []) (length old.nodes) (Contains-push (latch_leaves old.latchs) (length old.nodes))

  folded_leaf : (n : ℕ) → IsLeaf new.nodes n
      → Contains (old.inputs ++ (latch_leaves old.latchs ++ length old.nodes ∷ [])) n
  folded_leaf n leaf =
      let was = leaf_kept (with_node old.nodes Leaf) new.nodes folds.nodes n leaf in
      elim (cases_lt n (length old.nodes)) [
        | inl low ↦ old_named n (plain.closed n (sym (Grows-kept old.nodes (with_node old.nodes Leaf) (Grows-leaf old.nodes is.nodes) n low) ∙ was))
        | inr past ↦ (
            let within = kind_at-within (with_node old.nodes Leaf) n Leaf was in
            let last : length old.nodes ≡ n = omega (arith, within, past, length-append old.nodes (record { node_id = length old.nodes; typ = Leaf } ∷ [])) in
            subst (Contains (old.inputs ++ (latch_leaves old.latchs ++ length old.nodes ∷ []))) last new_named)
      ]

  folded_names : (n : ℕ)
      → Contains (old.inputs ++ (latch_leaves old.latchs ++ length old.nodes ∷ [])) n
      → Contains (named_nodes old) n ⊎ (length old.nodes ≤ n)
  folded_names n has = elim (Contains-append_cases old.inputs (latch_leaves old.latchs ++ length old.nodes ∷ []) n has) [
    | inl input ↦ inl (Contains-append_left old.inputs (latch_leaves old.latchs) n input)
    | inr leaf ↦ elim (Contains-append_cases (latch_leaves old.latchs) (length old.nodes ∷ []) n leaf) [
      | inl there ↦ inl (Contains-append_right old.inputs (latch_leaves old.latchs) n there)
      | inr last ↦ inr (only last)
    ]
  ]
    where
      only : Contains (length old.nodes ∷ []) n → length old.nodes ≤ n
      only (zero, h, at) = omega (arith, at)
      only (suc k, h, at) = absurd (omega (arith, h))

  plain-longer : IsPlain (mid longer)
  plain-longer = record {
    closed = λ n leaf. subst (λ (ns : List ℕ). Contains (old.inputs ++ ns) n) (sym leaves_longer) (folded_leaf n leaf);
    start = All-append HasConstantInit old.latchs (held ∷ []) plain.start (All-cons HasConstantInit held [] refl (All-nil HasConstantInit));
    names = subst (λ (ns : List ℕ). All (λ n. ¬ HasLineFeed old.names n) (old.inputs ++ ns)) (sym leaves_longer)
        (names_past old is plain.names (old.inputs ++ (latch_leaves old.latchs ++ length old.nodes ∷ [])) folded_names);
  }

  pub plain-folded : IsPlain new
  plain-folded = subst IsPlain (sym folds.rest) (subst (λ latchs. IsPlain (mid latchs)) (sym folds.latchs) plain-longer)

-- ---- further steps

same_starts : (xs ys : List AigLatch) → starts_of xs ≡ starts_of ys → All HasConstantInit ys
    → All HasConstantInit xs
same_starts xs ys same plain =
    let P : Option AigEdge → Type 0 = λ o. IfSome o (λ e. e.node_id ≡ 0) in
    All-from_map (λ (l : AigLatch). l.init) P xs (subst (All P) (sym same) (All-map P (λ (l : AigLatch). l.init) ys plain))

module _ (c u : Circuit) (k : ℕ) (is : IsCircuit c) (plain : IsPlain c) (unrolls : UnrollsTo c k u) where
  abbrev added : List ℕ
  added = leaves_after (length c.nodes) u.nodes

  abbrev named : List ℕ
  named = (c.inputs ++ added) ++ latch_leaves c.latchs

  same_named : named_nodes u ≡ named
  same_named = λ i. unrolls.keeps.inputs i ++ unrolls.keeps.leaves i

  unrolled_leaf : (n : ℕ) → IsLeaf u.nodes n → Contains named n
  unrolled_leaf n leaf = elim (cases_lt n (length c.nodes)) [
    | inl low ↦ elim (Contains-append_cases c.inputs (latch_leaves c.latchs) n (plain.closed n (sym (Grows-kept c.nodes u.nodes unrolls.keeps.nodes n low) ∙ leaf))) [
      | inl input ↦ Contains-append_left (c.inputs ++ added) (latch_leaves c.latchs) n (Contains-append_left c.inputs added n input)
      | inr latch ↦ Contains-append_right (c.inputs ++ added) (latch_leaves c.latchs) n latch
    ]
    | inr past ↦ Contains-append_left (c.inputs ++ added) (latch_leaves c.latchs) n (Contains-append_right c.inputs added n
        (following-have u.nodes unrolls.keeps.nodes.sound (length c.nodes) n leaf past))
  ]

  unrolled_names : (n : ℕ) → Contains named n → Contains (named_nodes c) n ⊎ (length c.nodes ≤ n)
  unrolled_names n has = elim (Contains-append_cases (c.inputs ++ added) (latch_leaves c.latchs) n has) [
    | inl input ↦ elim (Contains-append_cases c.inputs added n input) [
      | inl old ↦ inl (Contains-append_left c.inputs (latch_leaves c.latchs) n old)
      | inr new ↦ inr (All-contains (λ n. IsLeaf u.nodes n × (length c.nodes ≤ n)) added n (following-are u.nodes unrolls.keeps.nodes.sound (length c.nodes)) new).1
    ]
    | inr latch ↦ inl (Contains-append_right c.inputs (latch_leaves c.latchs) n latch)
  ]

  pub plain-unrolled : IsPlain u
  plain-unrolled = record {
    closed =
        λ n leaf. subst (λ (ns : List ℕ). Contains ns n) (sym same_named) (unrolled_leaf n leaf);
    start = same_starts u.latchs c.latchs unrolls.keeps.starts plain.start;
    names = subst (λ names. All (λ n. ¬ HasLineFeed names n) (named_nodes u)) (sym unrolls.keeps.names)
        (subst (All (λ n. ¬ HasLineFeed c.names n)) (sym same_named) (names_past c is plain.names named unrolled_names));
  }

-- ---- a cone

-- an entry that passes a test is among those that it keeps
pub filter_has : (test : ℕ → Bool) (ns : List ℕ) (n : ℕ) → test n ≡ true → Contains ns n
    → Contains (filter test ns) n
filter_has test [] n passes (k, h, at) = absurd (omega (arith, h))
filter_has test (m ∷ ms) n passes (zero, h, at) = by_test (test m) refl
  where
    by_test : (b : Bool) → test m ≡ b → Contains (cond b (m ∷ filter test ms) (filter test ms)) n
    by_test true is = (0, omega arith, at)
    by_test false is = absurd (false≢true (sym is ∙ ap test at ∙ passes))
filter_has test (m ∷ ms) n passes (suc k, h, at) = by_test (test m) (filter_has test ms n passes (k, omega arith, at))
  where
    by_test : (b : Bool) → Contains (filter test ms) n
        → Contains (cond b (m ∷ filter test ms) (filter test ms)) n
    by_test true (j, low, is) = (suc j, omega arith, is)
    by_test false has = has

module _ (c : Circuit) (kept : List ℕ) (is : IsCircuit c) (are : AreKept c kept)
    (closed : (n : ℕ) → Contains kept n → IsLeaf c.nodes n → Contains (named_nodes c) n)
    (start : All HasConstantInit c.latchs) (names : All (λ n. ¬ HasLineFeed c.names n) (named_nodes c))
  where
    abbrev number : ℕ → ℕ
    number = position_of kept

    abbrev cut : Circuit
    cut = only_kept kept c

    abbrev numbers : Numbers c.nodes (Contains kept) kept number
    numbers = Numbers-kept c kept is are

    moved : named_nodes (refined kept c) ≡ map number (named_nodes cut)
    moved = leaves-map number cut

    refined_leaf : (i : ℕ) → IsLeaf (refined kept c).nodes i
        → Contains (named_nodes (refined kept c)) i
    refined_leaf i leaf =
        let old = IsLeaf-back c.nodes (Contains kept) kept number (Merges-numbers c.nodes (Contains kept) kept number numbers) i leaf in
        let n = get_or kept i 0 in
        let there : Contains (named_nodes cut) n = elim (Contains-append_cases c.inputs (latch_leaves c.latchs) n (closed n (Contains-get_or kept i 0 old.0) old.1)) [
          | inl input ↦ Contains-append_left cut.inputs (latch_leaves c.latchs) n (filter_has (is_in kept) c.inputs n (is_in-there kept n (Contains-get_or kept i 0 old.0)) input)
          | inr latch ↦ Contains-append_right cut.inputs (latch_leaves c.latchs) n latch
        ] in
        subst (λ (ns : List ℕ). Contains ns i) (sym moved) (subst (Contains (map number (named_nodes cut))) (numbers.place i old.0) (Contains-map number (named_nodes cut) n there))

    -- what the cut circuit names is kept, and the circuit names it
    cut_named : (n : ℕ) → Contains (named_nodes cut) n
        → Contains kept n × Contains (named_nodes c) n
    cut_named n has = elim (Contains-append_cases cut.inputs (latch_leaves c.latchs) n has) [
      | inl input ↦ (let old = filter-back (is_in kept) c.inputs n input in (is_in-back kept n old.1, Contains-append_left c.inputs (latch_leaves c.latchs) n old.0))
      | inr latch ↦ ((All-contains (Contains kept) (latch_leaves c.latchs) n (All-map (Contains kept) (λ (l : AigLatch). l.input) c.latchs (All-weaker (IsLatchIn (Contains kept)) (λ (l : AigLatch). Contains kept l.input) (λ l h. h.leaf) c.latchs (S-latchs c kept is are))) latch), Contains-append_right c.inputs (latch_leaves c.latchs) n latch)
    ]

    cut_name : (n : ℕ) → Contains kept n → get cut.names n ≡ get c.names n
    cut_name n has =
        get-retain_keys c.names (is_in kept) n (λ k e. let same : n ≡ k = exact_unsigned n k e in ap (is_in kept) (sym same))
        ∙ ap (λ b. cond b (get c.names n) None) (is_in-there kept n has)

    names_kept : (n : ℕ) → IsTrue (contains_key cut.names n) → Contains kept n
    names_kept n has = (speaks c kept is are).named n has

    refined_name : (m : ℕ) → Contains (named_nodes (refined kept c)) m
        → ¬ HasLineFeed (refined kept c).names m
    refined_name m has feed = by_name (get (refined kept c).names m) refl feed
      where
        by_name : (o : Option (List ℕ)) → get (refined kept c).names m ≡ o
            → IsSomeAnd o (λ name. Contains name 10) → ⊥
        by_name None found feed = feed
        by_name (Some name) found feed =
            let old = found_back (Contains kept) number (entries cut.names) m name (names_in_circuit (Contains kept) cut.names names_kept) (sym (get-from_entries nat_cmp_total _ m) ∙ found) in
            let leaf = Contains-map_back number (named_nodes cut) m (subst (λ (ns : List ℕ). Contains ns m) moved has) in
            let there = cut_named leaf.0 leaf.1 in
            let same : old.0 ≡ leaf.0 = number-apart c.nodes (Contains kept) kept number numbers old.0 leaf.0 old.1 there.0 (old.2 ∙ sym leaf.2) in
            let name_is : get c.names leaf.0 ≡ Some name = sym (cut_name leaf.0 there.0) ∙ ap (get cut.names) (sym same) ∙ get-entries cut.names old.0 ∙ old.3 in
            All-contains (λ n. ¬ HasLineFeed c.names n) (named_nodes c) leaf.0 names there.1
            (subst (λ o. IsSomeAnd o (λ text. Contains text 10)) (sym name_is) feed)

    refined_start : (o : Option AigEdge) → IfSome o (λ e. e.node_id ≡ 0)
        → IfSome (option_map (renumbered_edge number) o) (λ e. e.node_id ≡ 0)
    refined_start (Some e) zeroth = ap number zeroth ∙ numbers.false_first
    refined_start None zeroth = tt

    -- only leaves that are kept need to be named
    pub plain-cut : IsPlain (refined kept c)
    plain-cut = record {
      closed = refined_leaf;
      start = All-map HasConstantInit (renumbered_latch number) c.latchs (All-weaker HasConstantInit (λ l. HasConstantInit (renumbered_latch number l)) (λ l plain. refined_start l.init plain) c.latchs start);
      names = λ k d h. refined_name _ (Contains-get_or (named_nodes (refined kept c)) k d h);
    }

pub plain-refined : (c : Circuit) (kept : List ℕ) → IsCircuit c → AreKept c kept → IsPlain c
    → IsPlain (refined kept c)
plain-refined c kept is are plain =
    plain-cut c kept is are (λ n has. plain.closed n) plain.start plain.names

-- ---- two circuits

leaf_before : (number : ℕ → ℕ) (k : AigNodeType) → renumbered_kind number (Some k) ≡ Leaf → k ≡ Leaf
leaf_before number False e = cc
leaf_before number Leaf e = refl
leaf_before number (And a b) e = elim (and_of-cases (renumbered_edge number a) (renumbered_edge number b)) [
  | inl p ↦ absurd (no_leaf (renumbered_edge number b) (renumbered_edge number a) (ap Some (sym p.0 ∙ e)))
  | inr p ↦ absurd (no_leaf (renumbered_edge number a) (renumbered_edge number b) (ap Some (sym p.0 ∙ e)))
]

module _ (first second : Circuit) (is : IsCircuit first) (other : IsCircuit second) (plain : IsPlain first) (also : IsPlain second) where
  abbrev shift : ℕ → ℕ
  shift = shifted (length first.nodes)

  abbrev both : Circuit
  both = merged first second

  -- the named nodes of both, in another order
  abbrev listed : List ℕ
  listed = (first.inputs ++ map shift second.inputs) ++ (latch_leaves first.latchs ++ map shift (latch_leaves second.latchs))

  same_listed : named_nodes both ≡ listed
  same_listed = ap (λ ns. (first.inputs ++ map shift second.inputs) ++ ns)
      (map-append (λ (l : AigLatch). l.input) first.latchs (map (renumbered_latch shift) second.latchs)
      ∙ ap (λ ns. latch_leaves first.latchs ++ ns) (latch_leaves-map shift second.latchs))

  first_listed : (n : ℕ) → Contains (named_nodes first) n → Contains listed n
  first_listed n has = elim (Contains-append_cases first.inputs (latch_leaves first.latchs) n has) [
    | inl input ↦ Contains-append_left (first.inputs ++ map shift second.inputs) (latch_leaves first.latchs ++ map shift (latch_leaves second.latchs)) n
        (Contains-append_left first.inputs (map shift second.inputs) n input)
    | inr latch ↦ Contains-append_right (first.inputs ++ map shift second.inputs) (latch_leaves first.latchs ++ map shift (latch_leaves second.latchs)) n
        (Contains-append_left (latch_leaves first.latchs) (map shift (latch_leaves second.latchs)) n latch)
  ]

  second_listed : (m : ℕ) → Contains (named_nodes second) m → Contains listed (shift m)
  second_listed m has = elim (Contains-append_cases second.inputs (latch_leaves second.latchs) m has) [
    | inl input ↦ Contains-append_left (first.inputs ++ map shift second.inputs) (latch_leaves first.latchs ++ map shift (latch_leaves second.latchs)) (shift m)
        (Contains-append_right first.inputs (map shift second.inputs) (shift m) (Contains-map shift second.inputs m input))
    | inr latch ↦ Contains-append_right (first.inputs ++ map shift second.inputs) (latch_leaves first.latchs ++ map shift (latch_leaves second.latchs)) (shift m)
        (Contains-append_right (latch_leaves first.latchs) (map shift (latch_leaves second.latchs)) (shift m) (Contains-map shift (latch_leaves second.latchs) m latch))
  ]

  merged_leaf : (n : ℕ) → IsLeaf both.nodes n → Contains listed n
  merged_leaf n leaf = elim (kind-back first.nodes second.nodes is.nodes other.nodes n Leaf leaf) [
    | inl old ↦ first_listed n (plain.closed n old.1)
    | inr new ↦ subst (Contains listed) new.2 (second_listed (suc new.0) (also.closed (suc new.0) (new.3 ∙ ap Some (leaf_before shift new.1 new.4))))
  ]

  past : (ns : List ℕ) → All (IsLeaf second.nodes) ns → (n : ℕ) → Contains (map shift ns) n
      → length first.nodes ≤ n
  past ns leaves n has =
      let from = Contains-map_back shift ns n has in
      subst (λ m. length first.nodes ≤ m) from.2 (leaf-past first.nodes second.nodes is.nodes other.nodes from.0 (All-contains (IsLeaf second.nodes) ns from.0 leaves from.1))

  merged_names : (n : ℕ) → Contains listed n
      → Contains (named_nodes first) n ⊎ (length first.nodes ≤ n)
  merged_names n has = elim (Contains-append_cases (first.inputs ++ map shift second.inputs) (latch_leaves first.latchs ++ map shift (latch_leaves second.latchs)) n has) [
    | inl inputs ↦ elim (Contains-append_cases first.inputs (map shift second.inputs) n inputs) [
      | inl old ↦ inl (Contains-append_left first.inputs (latch_leaves first.latchs) n old)
      | inr new ↦ inr (past second.inputs other.inputs n new)
    ]
    | inr leaves ↦ elim (Contains-append_cases (latch_leaves first.latchs) (map shift (latch_leaves second.latchs)) n leaves) [
      | inl old ↦ inl (Contains-append_right first.inputs (latch_leaves first.latchs) n old)
      | inr new ↦ inr (past (latch_leaves second.latchs) (latch_leaves-leaves second other) n new)
    ]
  ]

  shifted_start : (o : Option AigEdge) → IfSome o (λ e. e.node_id ≡ 0)
      → IfSome (option_map (renumbered_edge shift) o) (λ e. e.node_id ≡ 0)
  shifted_start (Some e) zeroth = ap shift zeroth
  shifted_start None zeroth = tt

  pub plain-merged : IsPlain both
  plain-merged = record {
    closed =
        λ n leaf. subst (λ (ns : List ℕ). Contains ns n) (sym same_listed) (merged_leaf n leaf);
    start = All-append HasConstantInit first.latchs (map (renumbered_latch shift) second.latchs) plain.start
        (All-map HasConstantInit (renumbered_latch shift) second.latchs (All-weaker HasConstantInit (λ l. HasConstantInit (renumbered_latch shift l)) (λ l start. shifted_start l.init start) second.latchs also.start));
    names = subst (All (λ n. ¬ HasLineFeed first.names n)) (sym same_listed) (names_past first is plain.names listed merged_names);
  }
