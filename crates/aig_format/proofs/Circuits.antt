-- The circuit of a file that fits is a circuit.
use Rattle.std.proofs.Common.{◌≡◌, ◌≢◌, ℕ, ◌/◌, ◌%◌, ◌<◌, ◌≤◌, Bool, true, false, cond, ◌||◌, List, [], ◌∷◌, ◌++◌, length, map, Option, Some, None, nat_cmp, refl, sym, ap, subst, ◌∙◌, arith, ltb-true}
use Rattle.std.specs.Prelude.{nat_eq, nat_lt, ◌==◌, All, AllPairs, Contains, IfSome, IsTrue, is_some, slice_index, unwrap_or, filter_map, not}
use Rattle.std.specs.List.{AllByRecursion, IsDistinct, list_any, flat_map, cons_option}
use Rattle.std.specs.FinMap.{contains_key, find as find_key, get-from_entries}
use Rattle.aig_base.proofs.Words.{eq_by_cmp, nat_cmp_total, eqb-true, eqb-false, eq-eqb, ne_eqb, false≢true, and_parts, ltb-true, or_right, nat_tests, Decides-eqb, map-append, length-map, All-from_recursion, All-map, All-contains, All-contains_itself, is_utf8}
use Rattle.std.proofs.lemmas.Map.Made.{AllPairs-from_IsDistinct}
use Rattle.aig_circuit.specs.declared.node.AigNodeType.TheVariants.{False, Leaf}
use Rattle.aig_circuit.proofs.Words.{edge_to, AllProperties, entries_of, IsInRange, IsLeaf, IsLatch, IsCircuit, latch_leaves}
use Rattle.aig_circuit.proofs.Listed.{AllProperties-map}
use Rattle.aig_format.proofs.Words.{LatchLine, GateLine, NameLine, File, defined, used, header_of, is_defined, IsKnown, gate_of_variable, node_of_variable, Fits, IsDefinable, AllPass, is_name, edge_of, kind_of, kind_by, initial_of, latch_of, named_node, circuit_of, count_of, is_kept}
use Rattle.aig_format.proofs.Rules.{definable_told, even_literal}
use Rattle.aig_format.proofs.Entries.{rec_entries, rec_map, rec_weaker, rec_both, rec_parts, rec_unmap}
use Rattle.aig_format.proofs.Searches.{find_none}
use Rattle.aig_format.proofs.Members.{rec_at}
use Rattle.aig_format.proofs.Numbers.{half_differs, node_of_variable-one}
use Rattle.aig_format.proofs.Nodes.{nodes_of, length-nodes, kind_at-number, AreNodes-of_file, HasNode, known_has_node, used_have_nodes}

-- ---- lists

-- every later entry differs
pub differ_from : (xs ys : List ℕ) → IsDistinct nat_eq (xs ++ ys) → AllByRecursion (λ x. AllByRecursion (λ y. nat_eq x y ≡ false) ys) xs × IsDistinct nat_eq ys
unfolding IsDistinct
differ_from [] ys d = (tt, d)
differ_from (x ∷ xs) ys d = let r = differ_from xs ys d.1 in ((((rec_parts (λ y. nat_eq x y ≡ false) xs ys d.0).1), r.0), r.1)

pub differs_half : (x y : ℕ) → x % 2 ≡ 0 → y % 2 ≡ 0 → nat_eq x y ≡ false → (y / 2 == x / 2) ≡ false
differs_half x y hx hy h = let differ = eqb-false x y h in ne_eqb (y / 2) (x / 2) (λ e. differ (omega arith))

-- each gate's literal is definable
pub gates_definable : (f : File) (limit : ℕ) → Fits f limit → AllByRecursion (λ (g : GateLine). IsDefinable f.greatest g.lhs) f.gates
gates_definable f limit fits =
    rec_unmap (IsDefinable f.greatest) (λ (g : GateLine). g.lhs) f.gates
    (rec_parts (IsDefinable f.greatest) (f.inputs ++ map (λ (l : LatchLine). l.literal) f.latches) (map (λ (g : GateLine). g.lhs) f.gates) fits.definable).1

pub kind_missed : (f : File) (n : ℕ) → 1 ≤ n → gate_of_variable f n ≡ None → kind_of f n ≡ Leaf
kind_missed f n h is = ap (λ b. cond b False (kind_by f (gate_of_variable f n))) (ne_eqb n 0 (λ e. absurd (omega arith))) ∙ ap (kind_by f) is

-- no gate has the variable of a literal that differs from all that gates define
pub leaf_missed : (f : File) (limit : ℕ) → Fits f limit → (e : ℕ) → e % 2 ≡ 0 → AllByRecursion (λ y. nat_eq e y ≡ false) (map (λ (g : GateLine). g.lhs) f.gates) → gate_of_variable f (e / 2) ≡ None
leaf_missed f limit fits e even differs =
    let Definable = λ (g : GateLine). IsDefinable f.greatest g.lhs in
    let Differs = λ (g : GateLine). nat_eq e g.lhs ≡ false in
    find_none (λ (g : GateLine). g.lhs / 2 == e / 2) f.gates
    (rec_weaker (λ g. Definable g × Differs g) (λ (g : GateLine). (g.lhs / 2 == e / 2) ≡ false) (λ g p. differs_half e g.lhs even (even_literal f.greatest g.lhs p.0) p.1) f.gates
    (rec_both Definable Differs f.gates (gates_definable f limit fits) (rec_unmap (λ y. nat_eq e y ≡ false) (λ (g : GateLine). g.lhs) f.gates differs)))

-- ---- leaves

-- a literal that is defined is known
any-member : (es xs : List ℕ) → ((e : ℕ) → list_any (λ d. d == e) xs ≡ true → list_any (λ d. d == e) es ≡ true) → AllByRecursion (λ e. list_any (λ d. d == e) es ≡ true) xs
any-member es [] h = tt
any-member es (x ∷ xs) h = (
  h x (ap (λ b. b || list_any (λ d. d == x) xs) (eq-eqb x x refl)),
  any-member es xs (λ e there. h e (or_right (x == e) (list_any (λ d. d == e) xs) there)),
)

any-halves : (es : List ℕ) (e : ℕ) → list_any (λ d. d == e) es ≡ true → list_any (λ d. d / 2 == e / 2) es ≡ true
any-halves [] e there = there
any-halves (d ∷ es) e there = by_test (d == e) refl there (any-halves es e)
  where
    half : (b : Bool) → list_any (λ d. d / 2 == e / 2) es ≡ true → (b || list_any (λ d. d / 2 == e / 2) es) ≡ true
    half true rest = refl
    half false rest = rest

    by_test : (b : Bool) → (d == e) ≡ b → (b || list_any (λ d. d == e) es) ≡ true → (list_any (λ d. d == e) es ≡ true → list_any (λ d. d / 2 == e / 2) es ≡ true) → list_any (λ d. d / 2 == e / 2) (d ∷ es) ≡ true
    by_test true same there rest =
        let is : (d / 2 == e / 2) ≡ true = eq-eqb (d / 2) (e / 2) (ap (λ n. n / 2) (eqb-true d e same)) in
        ap (λ b. b || list_any (λ d. d / 2 == e / 2) es) is
    by_test false differs there rest = half (d / 2 == e / 2) (rest there)

pub defined_known : (f : File) → AllByRecursion (IsKnown f) (defined f)
defined_known f =
    rec_weaker (λ e. list_any (λ d. d == e) (defined f) ≡ true) (IsKnown f) (λ e there. or_right (e / 2 == 0) (is_defined f (e / 2)) (any-halves (defined f) e there)) (defined f)
    (any-member (defined f) (defined f) (λ e there. there))

-- a literal that inputs and latches define, and no gate does
abbrev IsLeafLiteral : File → ℕ → Type 0
IsLeafLiteral f e = (IsDefinable f.greatest e × IsKnown f e) × AllByRecursion (λ y. nat_eq e y ≡ false) (map (λ (g : GateLine). g.lhs) f.gates)

abbrev leaf_literals : File → List ℕ
leaf_literals f = f.inputs ++ map (λ (l : LatchLine). l.literal) f.latches

-- the numbers of the literals' variables
abbrev pub numbers : File → List ℕ → List ℕ
numbers f = map (λ e. node_of_variable f (e / 2))

definable_and_known : (f : File) (limit : ℕ) → Fits f limit → AllByRecursion (λ e. IsDefinable f.greatest e × IsKnown f e) (leaf_literals f)
definable_and_known f limit fits =
    let lefts = map (λ (g : GateLine). g.lhs) f.gates in
    rec_both (IsDefinable f.greatest) (IsKnown f) (leaf_literals f) (rec_parts (IsDefinable f.greatest) (leaf_literals f) lefts fits.definable).0 (rec_parts (IsKnown f) (leaf_literals f) lefts (defined_known f)).0

are_leaf_literals : (f : File) (limit : ℕ) → Fits f limit → AllByRecursion (IsLeafLiteral f) (leaf_literals f)
are_leaf_literals f limit fits =
    let lefts = map (λ (g : GateLine). g.lhs) f.gates in
    rec_both (λ e. IsDefinable f.greatest e × IsKnown f e) (λ e. AllByRecursion (λ y. nat_eq e y ≡ false) lefts) (leaf_literals f)
    (definable_and_known f limit fits) (differ_from (leaf_literals f) lefts fits.distinct).0

-- the variable of such a literal is a leaf
leaf_there : (f : File) (limit : ℕ) → Fits f limit → (e : ℕ) → IsLeafLiteral f e → IsLeaf (nodes_of f) (node_of_variable f (e / 2))
leaf_there f limit fits e h =
    let told = definable_told f.greatest e h.0.0 in
    let low = told.1 in
    kind_at-number f limit fits (e / 2) h.0.1 ∙ ap Some (kind_missed f (e / 2) (omega arith) (leaf_missed f limit fits e told.0 h.1))

pub distinct_front : (xs ys : List ℕ) → IsDistinct nat_eq (xs ++ ys) → IsDistinct nat_eq xs
unfolding IsDistinct
distinct_front [] ys d = tt
distinct_front (x ∷ xs) ys d = ((rec_parts (λ y. nat_eq x y ≡ false) xs ys d.0).0, distinct_front xs ys d.1)

-- distinct literals have distinct numbers
number_differs : (f : File) (limit : ℕ) → Fits f limit → (x y : ℕ) → IsKnown f x → x % 2 ≡ 0 → y % 2 ≡ 0 → nat_eq x y ≡ false → nat_eq (node_of_variable f (x / 2)) (node_of_variable f (y / 2)) ≡ false
number_differs f limit fits x y known even0 even1 differs =
    ne_eqb (node_of_variable f (x / 2)) (node_of_variable f (y / 2)) (λ same. eqb-false (x / 2) (y / 2) (half_differs x y even0 even1 differs) (node_of_variable-one f limit fits (x / 2) (y / 2) known same))

numbers_distinct : (f : File) (limit : ℕ) → Fits f limit → (xs : List ℕ) → AllByRecursion (λ e. IsDefinable f.greatest e × IsKnown f e) xs → IsDistinct nat_eq xs → IsDistinct nat_eq (numbers f xs)
unfolding IsDistinct
numbers_distinct f limit fits [] all d = tt
numbers_distinct f limit fits (x ∷ xs) all d = (
  (rec_map (λ y. nat_eq (node_of_variable f (x / 2)) y ≡ false) (λ e. node_of_variable f (e / 2)) xs).1
      (rec_weaker (λ e. (IsDefinable f.greatest e × IsKnown f e) × (nat_eq x e ≡ false)) (λ (e : ℕ). nat_eq (node_of_variable f (x / 2)) (node_of_variable f (e / 2)) ≡ false)
      (λ e h. number_differs f limit fits x e all.0.1 (even_literal f.greatest x all.0.0) (even_literal f.greatest e h.0.0) h.1) xs
      (rec_both (λ e. IsDefinable f.greatest e × IsKnown f e) (λ e. nat_eq x e ≡ false) xs all.1 d.0)),
  numbers_distinct f limit fits xs all.1 d.1,
)

-- the numbers of inputs and of latches are distinct, and differ from one another
pub leaves_distinct : (f : File) (limit : ℕ) → Fits f limit → IsDistinct nat_eq (numbers f f.inputs ++ numbers f (map (λ (l : LatchLine). l.literal) f.latches))
leaves_distinct f limit fits =
    subst (IsDistinct nat_eq) (map-append (λ e. node_of_variable f (e / 2)) f.inputs (map (λ (l : LatchLine). l.literal) f.latches))
    (numbers_distinct f limit fits (leaf_literals f) (definable_and_known f limit fits) (distinct_front (leaf_literals f) (map (λ (g : GateLine). g.lhs) f.gates) fits.distinct))

pub distinct_pairs : (xs : List ℕ) → IsDistinct nat_eq xs → AllPairs (λ x y. x ≢ y) xs
distinct_pairs = AllPairs-from_IsDistinct Decides-eqb

-- what differs from every entry is none of them
none_of : (xs : List ℕ) (n : ℕ) → AllByRecursion (λ y. nat_eq n y ≡ false) xs → ¬ Contains xs n
none_of xs n all has = eqb-false n n (All-contains (λ y. nat_eq n y ≡ false) xs n (All-from_recursion (λ y. nat_eq n y ≡ false) xs all) has) refl

are_apart : (xs ys : List ℕ) → IsDistinct nat_eq (xs ++ ys) → All (λ n. ¬ Contains xs n) ys
are_apart xs ys d =
    let Differs = λ (x : ℕ). AllByRecursion (λ y. nat_eq x y ≡ false) ys in
    let differ = All-from_recursion Differs xs (differ_from xs ys d).0 in
    λ k e h has. none_of ys _ (All-contains Differs xs _ differ has) (All-contains_itself ys k e h)

-- ---- edges

-- the literals that each section of a file uses have nodes
pub record UsedHave (P : ℕ → Type 0) (f : File) : Type 0 where
  pub nexts : AllByRecursion P (map (λ (l : LatchLine). l.next) f.latches)
  pub properties : AllProperties P f.properties

pub used_by_section : (P : ℕ → Type 0) (f : File) → AllByRecursion P (used f) → UsedHave P f
used_by_section P f all_used =
    let nexts = map (λ (l : LatchLine). l.next) f.latches in
    let operands = flat_map (λ (g : GateLine). g.rhs0 ∷ g.rhs1 ∷ []) f.gates in
    let all = rec_parts P nexts (entries_of f.properties) (rec_parts P (nexts ++ entries_of f.properties) operands all_used).0 in
    record { nexts = all.0; properties = (rec_entries P f.properties).0 all.1 }

used_there : (f : File) (limit : ℕ) → Fits f limit → UsedHave (HasNode f) f
used_there f limit fits = used_by_section (HasNode f) f (used_have_nodes f limit fits)

init_there : (f : File) (l : LatchLine) → IfSome (initial_of l) (IsInRange (nodes_of f))
init_there f l = by_test (nat_lt (unwrap_or l.reset 0) 2)
  where
    by_test : (b : Bool) → IfSome (cond b (Some (edge_to 0 (unwrap_or l.reset 0 == 1))) None) (IsInRange (nodes_of f))
    by_test true = omega (arith, length-nodes f)
    by_test false = tt

latches_there : (f : File) (limit : ℕ) → Fits f limit → All (IsLatch (nodes_of f)) (map (latch_of f) f.latches)
latches_there f limit fits =
    let literals = map (λ (l : LatchLine). l.literal) f.latches in
    let leaf = rec_unmap (IsLeafLiteral f) (λ (l : LatchLine). l.literal) f.latches (rec_parts (IsLeafLiteral f) f.inputs literals (are_leaf_literals f limit fits)).1 in
    let next = rec_unmap (HasNode f) (λ (l : LatchLine). l.next) f.latches (used_there f limit fits).nexts in
    All-map (IsLatch (nodes_of f)) (latch_of f) f.latches (All-from_recursion (λ l. IsLatch (nodes_of f) (latch_of f l)) f.latches
    (rec_weaker (λ (l : LatchLine). IsLeafLiteral f l.literal × HasNode f l.next) (λ l. IsLatch (nodes_of f) (latch_of f l))
    (λ l h. record { leaf = leaf_there f limit fits l.literal h.0; next = h.1; init = init_there f l }) f.latches
    (rec_both (λ (l : LatchLine). IsLeafLiteral f l.literal) (λ (l : LatchLine). HasNode f l.next) f.latches leaf next)))

-- ---- names

-- each key of entries has what the entries' keys have
key_has : (P : ℕ → Type 0) (es : List (ℕ × List ℕ)) (q : ℕ) → AllByRecursion (λ e. P e.0) es → IsTrue (is_some (find_key nat_cmp q es)) → P q
key_has P [] q all has = absurd (false≢true has)
key_has P (e ∷ es) q all has = at (eq_by_cmp nat_cmp q e.0) refl (key_has P es q all.1)
  where
    at : (b : Bool) → eq_by_cmp nat_cmp q e.0 ≡ b → (IsTrue (is_some (find_key nat_cmp q es)) → P q) → P q
    at true is rest = let same : e.0 ≡ q = grind (arith, nat_tests) in subst P same all.0
    at false is rest = rest (subst (λ b. IsTrue (is_some (cond b (Some e.1) (find_key nat_cmp q es)))) is has)

-- a name of an input or a latch names a node
named_there : (f : File) (limit : ℕ) → Fits f limit → (n : NameLine) → is_name (header_of f) n ≡ true → IfSome (named_node f n) (λ e. e.0 < length (nodes_of f))
named_there f limit fits n h = by_letter (n.letter == 105) (n.letter == 108) _ (ltb-true n.position (count_of (header_of f) n.letter) (and_parts (nat_lt n.position (count_of (header_of f) n.letter)) (not (is_kept n.letter) || is_utf8 n.name) h).0)
  where
    literals : List ℕ
    literals = map (λ (l : LatchLine). l.literal) f.latches

    -- the literal at a place of the inputs or of the latches has a node
    at_place : (es : List ℕ) → n.position < length es → AllByRecursion (IsLeafLiteral f) es → node_of_variable f (slice_index es n.position / 2) < length (nodes_of f)
    at_place es low all = known_has_node f limit fits (slice_index es n.position) (rec_at (IsLeafLiteral f) es n.position low all).0.1

    by_letter : (i l : Bool) (others : ℕ) → n.position < cond i (length f.inputs) (cond l (length f.latches) others)
        → IfSome (cond i (Some (node_of_variable f (slice_index f.inputs n.position / 2), n.name)) (cond l (Some (node_of_variable f (slice_index literals n.position / 2), n.name)) None)) (λ (e : ℕ × List ℕ). e.0 < length (nodes_of f))
    by_letter true l others low = at_place f.inputs low (rec_parts (IsLeafLiteral f) f.inputs literals (are_leaf_literals f limit fits)).0
    by_letter false true others low = at_place literals (rw length-map low) (rec_parts (IsLeafLiteral f) f.inputs literals (are_leaf_literals f limit fits)).1
    by_letter false false others low = tt

entries_there : (f : File) (limit : ℕ) → Fits f limit → (names : List NameLine) → AllPass (is_name (header_of f)) names → AllByRecursion (λ (e : ℕ × List ℕ). e.0 < length (nodes_of f)) (filter_map (named_node f) names)
entries_there f limit fits [] all = tt
entries_there f limit fits (n ∷ names) all = one_more (named_node f n) (filter_map (named_node f) names) (named_there f limit fits n all.0) (entries_there f limit fits names all.1)
  where
    one_more : (o : Option (ℕ × List ℕ)) (es : List (ℕ × List ℕ)) → IfSome o (λ e. e.0 < length (nodes_of f)) → AllByRecursion (λ (e : ℕ × List ℕ). e.0 < length (nodes_of f)) es
        → AllByRecursion (λ (e : ℕ × List ℕ). e.0 < length (nodes_of f)) (cons_option o es)
    one_more None es h rest = rest
    one_more (Some e) es h rest = (h, rest)

files_named : (f : File) (limit : ℕ) → Fits f limit → (n : ℕ) → IsTrue (contains_key (circuit_of f).names n) → n < length (nodes_of f)
files_named f limit fits n has =
    let entries = filter_map (named_node f) f.names in
    key_has (λ k. k < length (nodes_of f)) entries n (entries_there f limit fits f.names fits.named) (subst (λ o. IsTrue (is_some o)) (get-from_entries nat_cmp_total entries n) has)

pub leaves_of_latches : (f : File) (latches : List LatchLine) → latch_leaves (map (latch_of f) latches) ≡ numbers f (map (λ (l : LatchLine). l.literal) latches)
leaves_of_latches f [] = refl
leaves_of_latches f (l ∷ latches) = ap (λ (ns : List ℕ). node_of_variable f (l.literal / 2) ∷ ns) (leaves_of_latches f latches)

pub IsCircuit-of_file : (f : File) (limit : ℕ) → Fits f limit → IsCircuit (circuit_of f)
IsCircuit-of_file f limit fits =
    let literals = map (λ (l : LatchLine). l.literal) f.latches in
    let leaf = rec_parts (IsLeafLiteral f) f.inputs literals (are_leaf_literals f limit fits) in
    let distinct = leaves_distinct f limit fits in
    let sections = used_there f limit fits in
    let inputs : All (IsLeaf (nodes_of f)) (numbers f f.inputs) =
    All-map (IsLeaf (nodes_of f)) (λ e. node_of_variable f (e / 2)) f.inputs (All-from_recursion (λ e. IsLeaf (nodes_of f) (node_of_variable f (e / 2))) f.inputs
    (rec_weaker (IsLeafLiteral f) (λ e. IsLeaf (nodes_of f) (node_of_variable f (e / 2))) (leaf_there f limit fits) f.inputs leaf.0)) in
    let latch_leaves_are = leaves_of_latches f f.latches in
    record {
      nodes = AreNodes-of_file f limit fits;
      inputs = inputs;
      inputs_distinct = distinct_pairs (numbers f f.inputs) (distinct_front (numbers f f.inputs) (numbers f literals) distinct);
      latchs = latches_there f limit fits;
      latchs_distinct = subst (AllPairs (λ m n. m ≢ n)) (sym latch_leaves_are) (distinct_pairs (numbers f literals) (differ_from (numbers f f.inputs) (numbers f literals) distinct).1);
      apart = subst (All (λ n. ¬ Contains (numbers f f.inputs) n)) (sym latch_leaves_are) (are_apart (numbers f f.inputs) (numbers f literals) distinct);
      properties = AllProperties-map (IsInRange (nodes_of f)) (edge_of f) f.properties sections.properties;
      named = files_named f limit fits;
    }
