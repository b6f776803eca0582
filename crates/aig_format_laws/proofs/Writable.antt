-- The circuit of an accepted file has a written form.
use Rattle.aig_base.proofs.Words.{◌≡◌, ◌≢◌, ℕ, ◌/◌, ◌^◌, ◌<◌, ◌≤◌, Bool, true, false, cond, Option, Some, None, List, [], ◌∷◌, length, map, nat_cmp, refl, sym, subst, ◌∙◌, arith, ◌||◌, ap, AllByRecursion, cons_option, eq_by_cmp, or_right, nat_cmp_total, length-map, All-contains, All-from_recursion, same_Some}
use Rattle.std.specs.Prelude.{All, Contains, IfSome, IsSomeAnd, IsUtf8, filter_map, nat_lt, slice_index, unwrap_or, ◌==◌, IsTrue}
use Rattle.std.specs.FinMap.{find, get, get-from_entries}
use Rattle.aig_circuit.specs.declared.edge.AigEdge.{AigEdge}
use Rattle.aig_circuit.proofs.Words.{edge_to, HasConstantInit}
use Rattle.aig_format.proofs.Words.{File, LatchLine, NameLine, header_of, letter_of_inputs, letter_of_latches, is_kept, Accepts, Fits, is_name, Spells, circuit_of, edge_of, latch_of, named_node, node_of_variable, AreTexts, HasLineFeed, IsWritable, list_lengths}
use Rattle.aig_format.proofs.Entries.{rec_map, rec_weaker}
use Rattle.aig_format.proofs.Nodes.{few_nodes}
use Rattle.aig_format_laws.proofs.Closed.{IsClosed-of_file}
use Rattle.aig_format_laws.proofs.Spelled.{IsSmallNumber, header_small, names_plain, sizes_small}
use Rattle.aig_format.proofs.Rules.{name_text}

-- each latch of a file's circuit has a constant start or none
pub plain_starts : (f : File) → All HasConstantInit (circuit_of f).latchs
plain_starts f = All-from_recursion HasConstantInit (circuit_of f).latchs ((rec_map HasConstantInit (latch_of f) f.latches).1 (each f.latches))
  where
    one : (b i : Bool) → IfSome (cond b (Some (edge_to 0 i)) None) (λ e. e.node_id ≡ 0)
    one true i = refl
    one false i = tt

    each : (ls : List LatchLine) → AllByRecursion (λ l. HasConstantInit (latch_of f l)) ls
    each [] = tt
    each (l ∷ ls) = (one (nat_lt (unwrap_or l.reset 0) 2) (unwrap_or l.reset 0 == 1), each ls)

-- ---- names

-- what is found has what the entries' values have
value_has : (P : List ℕ → Type 0) (es : List (ℕ × List ℕ)) (q : ℕ) (name : List ℕ) → AllByRecursion (λ e. P e.1) es → find nat_cmp q es ≡ Some name → P name
value_has P [] q name all found = cc
value_has P (e ∷ es) q name all found = by_test (eq_by_cmp nat_cmp q e.0) found (value_has P es q name all.1)
  where
    by_test : (b : Bool) → cond b (Some e.1) (find nat_cmp q es) ≡ Some name → (find nat_cmp q es ≡ Some name → P name) → P name
    by_test true is rest = subst P (same_Some _ _ is) all.0
    by_test false is rest = rest is

-- names of inputs and latches are kept
abbrev IsKept : NameLine → Type 0
IsKept n = IsTrue (is_kept n.letter)

-- a kept name has what the line's name has
named_has : (f : File) (P : List ℕ → Type 0) (n : NameLine) → (IsKept n → P n.name) → IfSome (named_node f n) (λ e. P e.1)
named_has f P n has = by_letter (n.letter == letter_of_inputs) (n.letter == letter_of_latches) refl refl
  where
    by_letter : (i l : Bool) → (n.letter == letter_of_inputs) ≡ i → (n.letter == letter_of_latches) ≡ l
        → IfSome (cond i (Some (node_of_variable f (slice_index f.inputs n.position / 2), n.name)) (cond l (Some (node_of_variable f (slice_index (map (λ (l : LatchLine). l.literal) f.latches) n.position / 2), n.name)) None)) (λ (e : ℕ × List ℕ). P e.1)
    by_letter true l is too = has (ap (λ b. b || (n.letter == letter_of_latches)) is)
    by_letter false true is too = has (or_right (n.letter == letter_of_inputs) (n.letter == letter_of_latches) too)
    by_letter false false is too = tt

entries_have : (f : File) (P : List ℕ → Type 0) (names : List NameLine) → AllByRecursion (λ n. IsKept n → P n.name) names → AllByRecursion (λ (e : ℕ × List ℕ). P e.1) (filter_map (named_node f) names)
entries_have f P [] all = tt
entries_have f P (n ∷ names) all = one_more (named_node f n) (filter_map (named_node f) names) (named_has f P n all.0) (entries_have f P names all.1)
  where
    one_more : (o : Option (ℕ × List ℕ)) (es : List (ℕ × List ℕ)) → IfSome o (λ e. P e.1) → AllByRecursion (λ (e : ℕ × List ℕ). P e.1) es → AllByRecursion (λ (e : ℕ × List ℕ). P e.1) (cons_option o es)
    one_more None es h rest = rest
    one_more (Some e) es h rest = (h, rest)

-- each name of a file's circuit has what the names of the file's inputs and latches have
names_have : (f : File) (P : List ℕ → Type 0) → AllByRecursion (λ n. IsKept n → P n.name) f.names → (n : ℕ) (name : List ℕ) → get (circuit_of f).names n ≡ Some name → P name
names_have f P all n name is =
    value_has P (filter_map (named_node f) f.names) n name (entries_have f P f.names all) (sym (get-from_entries nat_cmp_total (filter_map (named_node f) f.names) n) ∙ is)

-- so each is a text
pub names_are_texts : (f : File) (limit : ℕ) → Fits f limit → AreTexts (circuit_of f).names
names_are_texts f limit fits n = by_name (get (circuit_of f).names n) refl
  where
    by_name : (o : Option (List ℕ)) → get (circuit_of f).names n ≡ o → IfSome o IsUtf8
    by_name None is = tt
    by_name (Some name) is = names_have f IsUtf8 (rec_weaker (λ n. is_name (header_of f) n ≡ true) (λ n. IsKept n → IsUtf8 n.name) (name_text (header_of f)) f.names fits.named) n name is

-- and none holds a line feed
no_line_feed : (f : File) → AllByRecursion (λ (n : NameLine). AllByRecursion (λ b. b ≢ 10) n.name) f.names → (n : ℕ) → ¬ HasLineFeed (circuit_of f).names n
no_line_feed f plain n feed = by_name (get (circuit_of f).names n) refl feed
  where
    Plain : List ℕ → Type 0
    Plain name = ¬ Contains name 10

    by_name : (o : Option (List ℕ)) → get (circuit_of f).names n ≡ o → IsSomeAnd o (λ name. Contains name 10) → ⊥
    by_name None is feed = feed
    by_name (Some name) is feed =
        names_have f (λ (text : List ℕ). ¬ Contains text 10)
        (rec_weaker (λ (n : NameLine). AllByRecursion (λ b. b ≢ 10) n.name) (λ n. IsKept n → ¬ Contains n.name 10)
        (λ n h kept has. All-contains (λ b. b ≢ 10) n.name 10 (All-from_recursion (λ b. b ≢ 10) n.name h) has refl) f.names plain) n name is feed

-- ---- counts

-- the counts of the circuit's lists are those of the header
lists_small : (f : File) (bytes : List ℕ) → Spells f bytes → AllByRecursion IsSmallNumber (list_lengths (circuit_of f))
lists_small f bytes spells =
    let h = header_small f bytes spells in
    let inputs = length-map f.inputs (λ e. node_of_variable f (e / 2)) in
    let latchs = length-map f.latches (latch_of f) in
    let outputs = length-map f.properties.outputs (edge_of f) in
    let bads = length-map f.properties.bads (edge_of f) in
    let constraints = length-map f.properties.constraints (edge_of f) in
    let justice = length-map f.properties.justice (map (edge_of f)) in
    let fairness = length-map f.properties.fairness (edge_of f) in
    let i = h.1.0 in let l = h.1.1.0 in let o = h.1.1.1.0 in let b = h.1.1.1.1.1.0 in let c = h.1.1.1.1.1.1.0 in let j = h.1.1.1.1.1.1.1.0 in let k = h.1.1.1.1.1.1.1.1.0 in
    (omega arith, (omega arith, (omega arith, (omega arith, (omega arith, (omega arith, (omega arith, tt)))))))

sets_small : (f : File) (sets : List (List ℕ)) → AllByRecursion IsSmallNumber (map length sets) → AllByRecursion (λ (set : List AigEdge). length set < 2 ^ 32) (map (map (edge_of f)) sets)
sets_small f [] all = tt
sets_small f (set ∷ sets) all = (omega (arith, length-map set (edge_of f), all.0), sets_small f sets all.1)

pub IsWritable-of_file : (f : File) (limit : ℕ) (bytes : List ℕ) → limit ≤ 2 ^ 31 → Accepts bytes limit f → IsWritable (circuit_of f)
IsWritable-of_file f limit bytes low accepts = record {
  closed = IsClosed-of_file f limit accepts.1;
  start = plain_starts f;
  names = λ k d h. no_line_feed f (names_plain f bytes accepts.0) _;
  small = record {
    nodes = omega (arith, low, few_nodes f limit accepts.1);
    lists = All-from_recursion IsSmallNumber (list_lengths (circuit_of f)) (lists_small f bytes accepts.0);
    sets = All-from_recursion (λ (set : List AigEdge). length set < 2 ^ 32) (circuit_of f).properties.justice (sets_small f f.properties.justice (sizes_small f bytes accepts.0));
  };
}
