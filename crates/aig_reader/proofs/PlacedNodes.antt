-- The nodes of a file, as its gates are read.
use Rattle.std.proofs.Common.{◌≡◌, ◌≢◌, ℕ, zero, suc, ◌+◌, ◌/◌, ◌<◌, ◌≤◌, Bool, true, false, cond, eqb, List, [], ◌∷◌, ◌++◌, length, set, find, Option, Some, None, refl, sym, ap, subst, ◌∙◌, length-append, arith}
use Rattle.aig_base.proofs.Words.{AllByRecursion, ne_eqb, eq-eqb}
use Rattle.std.proofs.Math.ListN.{length-set}
use Rattle.std.proofs.lemmas.List.Folds.{find-append}
use Rattle.aig_circuit.specs.declared.node.AigNode.{AigNode}
use Rattle.aig_circuit.specs.declared.node.AigNodeType.{AigNodeType}
use Rattle.aig_circuit.specs.declared.node.AigNodeType.TheVariants.{False, Leaf}
use Rattle.aig_circuit.specs.Node.{and_of}
use Rattle.aig_format.specs.File.{GateLine}
use Rattle.aig_format.proofs.Entries.{rec_append, rec_unmap, rec_weaker}
use Rattle.aig_format.proofs.Searches.{find_none}
use Rattle.aig_ordering.specs.Lists.{edge_from, kind_of_line, kind_among, node_from, nodes_in_row, nodes_of_variables}
use Rattle.aig_reader.specs.Gates.{AreFirstNodes, gate_node_of, literals_of}
use Rattle.aig_reader.specs.Variables.{IsNewAmong}

-- one more node
nodes_push : (f : List GateLine) (n v : ℕ)
    → nodes_in_row f (suc n) v ≡ nodes_in_row f n v ++ node_from f (v + n) ∷ []
nodes_push f zero v = let e : v ≡ v + 0 = omega arith in ap (λ (w : ℕ). node_from f w ∷ []) e
nodes_push f (suc n) v =
    let e : v + 1 + n ≡ v + suc n = omega arith in
    ap (λ (xs : List AigNode). node_from f v ∷ xs) (nodes_push f n (v + 1) ∙ ap (λ (w : ℕ). nodes_in_row f n (v + 1) ++ node_from f w ∷ []) e)

-- ---- a gate after others

-- the test for the gate of node n
abbrev is_at : ℕ → GateLine → Bool
is_at n g = eqb (g.lhs / 2) n

find_other : (gates : List GateLine) (g : GateLine) (n : ℕ) → is_at n g ≡ false
    → find (is_at n) (gates ++ g ∷ []) ≡ find (is_at n) gates
find_other [] g n h = rw h refl
find_other (x ∷ gates) g n h = ap (λ (o : Option GateLine). cond (is_at n x) (Some x) o) (find_other gates g n h)

find_new : (gates : List GateLine) (g : GateLine) (n : ℕ) → find (is_at n) gates ≡ None
    → is_at n g ≡ true → find (is_at n) (gates ++ g ∷ []) ≡ Some g
find_new gates g n h k = rw (find-append, h, k) refl

-- no gate has a variable that is new among their literals
none_at : (gates : List GateLine) (e : ℕ) → IsNewAmong (literals_of gates) e
    → find (is_at (e / 2)) gates ≡ None
none_at gates e h =
    find_none (is_at (e / 2)) gates
    (rec_weaker (λ (g : GateLine). g.lhs / 2 ≢ e / 2) (λ g. is_at (e / 2) g ≡ false) (λ g ne. ne_eqb (g.lhs / 2) (e / 2) ne) gates (rec_unmap (λ d. d / 2 ≢ e / 2) (λ (g : GateLine). g.lhs) gates h))

module _ (gates : List GateLine) (g : GateLine) where
  same_kind : (n : ℕ) → g.lhs / 2 ≢ n → kind_among (gates ++ g ∷ []) n ≡ kind_among gates n
  same_kind n ne = ap (λ (o : Option GateLine). cond (eqb n 0) False (kind_of_line o)) (find_other gates g n (ne_eqb (g.lhs / 2) n ne))

  -- nodes before that of the gate stay
  same_before : (n v : ℕ) → v + n ≤ g.lhs / 2
      → nodes_in_row (gates ++ g ∷ []) n v ≡ nodes_in_row gates n v
  same_before zero v le = refl
  same_before (suc n) v le =
      let ne : g.lhs / 2 ≢ v = omega arith in
      rw (same_kind v ne, same_before n (v + 1) (omega arith)) refl

  -- nodes after it stay
  same_following : (n v : ℕ) → g.lhs / 2 < v
      → nodes_in_row (gates ++ g ∷ []) n v ≡ nodes_in_row gates n v
  same_following zero v lt = refl
  same_following (suc n) v lt =
      let ne : g.lhs / 2 ≢ v = omega arith in
      rw (same_kind v ne, same_following n (v + 1) (omega arith)) refl

  -- from a number on, the new gate takes its place
  sets_gate : (n v k : ℕ) → k < n → v + k ≡ g.lhs / 2
      → kind_among (gates ++ g ∷ []) (g.lhs / 2) ≡ and_of (edge_from g.rhs0) (edge_from g.rhs1)
      → set (nodes_in_row gates n v) k (gate_node_of g) ≡ nodes_in_row (gates ++ g ∷ []) n v
  sets_gate zero v k lt at is = absurd (omega arith)
  sets_gate (suc n) v zero lt at is =
      let here : v ≡ g.lhs / 2 = omega arith in
      rw (here, is, same_following n (g.lhs / 2 + 1) (omega arith)) refl
  sets_gate (suc n) v (suc k) lt at is =
      let ne : g.lhs / 2 ≢ v = omega arith in
      rw (same_kind v ne, sets_gate n (v + 1) k (omega arith) (omega arith) is) refl

-- ---- the nodes so far

-- the nodes up to the greatest are all
pub first_all : (greatest : ℕ) (gates : List GateLine) (nodes : List AigNode)
    → AreFirstNodes gates nodes → length nodes ≡ greatest + 1
    → nodes ≡ nodes_of_variables greatest gates
first_all greatest gates nodes h all = h.placed ∙ ap (λ (n : ℕ). nodes_in_row gates n 0) all

-- one more node is that of the number after them
placed_push : (gates : List GateLine) (nodes : List AigNode) (node : AigNode)
    → nodes ≡ nodes_in_row gates (length nodes) 0 → node ≡ node_from gates (length nodes)
    → nodes ++ node ∷ [] ≡ nodes_in_row gates (length (nodes ++ node ∷ [])) 0
placed_push gates nodes node placed is =
    let n = length nodes in
    let size : suc n ≡ length (nodes ++ node ∷ []) = omega (arith, length-append nodes (node ∷ [])) in
    let here : n ≡ 0 + n = omega arith in
    ap (λ (ns : List AigNode). ns ++ node ∷ []) placed ∙ ap (λ (m : AigNode). nodes_in_row gates n 0 ++ m ∷ []) (is ∙ ap (node_from gates) here) ∙ sym (nodes_push gates n 0) ∙ ap (λ (m : ℕ). nodes_in_row gates m 0) size

-- gates within these nodes are within more of them
within_more : (gates : List GateLine) (m n : ℕ) → m ≤ n → AllByRecursion (λ g. g.lhs / 2 < m) gates
    → AllByRecursion (λ g. g.lhs / 2 < n) gates
within_more gates m n le h = rec_weaker (λ (g : GateLine). g.lhs / 2 < m) (λ g. g.lhs / 2 < n) (λ g lt. omega (arith, lt, le)) gates h

-- a leaf after them
pub first_leaf : (gates : List GateLine) (nodes : List AigNode) (node : AigNode)
    → AreFirstNodes gates nodes → node ≡ record { node_id = length nodes; typ = Leaf }
    → AreFirstNodes gates (nodes ++ node ∷ [])
first_leaf gates nodes node h is =
    let n = length nodes in
    let size : length (nodes ++ node ∷ []) ≡ n + 1 = length-append nodes (node ∷ []) in
    let some : n ≢ 0 = let s = h.some in omega arith in
    let none : find (is_at n) gates ≡ None =
    find_none (is_at n) gates (rec_weaker (λ (g : GateLine). g.lhs / 2 < n) (λ g. is_at n g ≡ false) (λ g lt. let ne : g.lhs / 2 ≢ n = omega arith in ne_eqb (g.lhs / 2) n ne) gates h.within) in
    let kind : kind_among gates n ≡ Leaf = rw (ne_eqb n 0 some, none) refl in
    record {
      some = omega (arith, size);
      placed = placed_push gates nodes node h.placed (is ∙ ap (λ (k : AigNodeType). record { node_id = n; typ = k }) (sym kind));
      within = within_more gates n (length (nodes ++ node ∷ [])) (omega (arith, size)) h.within;
    }

-- a gate whose variable is new after them, or in the place of a leaf
module _ (gates : List GateLine) (nodes : List AigNode) (g : GateLine) (h : AreFirstNodes gates nodes) (own : 2 ≤ g.lhs) (new : IsNewAmong (literals_of gates) g.lhs) where
  kind_here : kind_among (gates ++ g ∷ []) (g.lhs / 2)
      ≡ and_of (edge_from g.rhs0) (edge_from g.rhs1)
  kind_here =
      let found = find_new gates g (g.lhs / 2) (none_at gates g.lhs new) (eq-eqb (g.lhs / 2) (g.lhs / 2) refl) in
      let positive : g.lhs / 2 ≢ 0 = omega arith in
      rw (ne_eqb (g.lhs / 2) 0 positive, found) refl

  pub first_gate_following : g.lhs / 2 ≡ length nodes
      → AreFirstNodes (gates ++ g ∷ []) (nodes ++ gate_node_of g ∷ [])
  first_gate_following at =
      let all = nodes ++ gate_node_of g ∷ [] in
      let size : length all ≡ length nodes + 1 = length-append nodes (gate_node_of g ∷ []) in
      let node : gate_node_of g ≡ node_from (gates ++ g ∷ []) (length nodes) = rw (← at, kind_here) refl in
      record {
        some = omega (arith, size);
        placed = placed_push (gates ++ g ∷ []) nodes (gate_node_of g) (h.placed ∙ sym (same_before gates g (length nodes) 0 (omega arith))) node;
        within = (rec_append (λ (k : GateLine). k.lhs / 2 < length all) gates (g ∷ [])).1 (within_more gates (length nodes) (length all) (omega (arith, size)) h.within, (omega (arith, size, at), tt));
      }

  pub first_gate_set : g.lhs / 2 < length nodes
      → AreFirstNodes (gates ++ g ∷ []) (set nodes (g.lhs / 2) (gate_node_of g))
  first_gate_set low =
      let all = set nodes (g.lhs / 2) (gate_node_of g) in
      let size : length all ≡ length nodes = length-set nodes (g.lhs / 2) (gate_node_of g) in
      record {
        some = subst (λ (n : ℕ). 0 < n) (sym size) h.some;
        placed = ap (λ (ns : List AigNode). set ns (g.lhs / 2) (gate_node_of g)) h.placed ∙ sets_gate gates g (length nodes) 0 (g.lhs / 2) low (omega arith) kind_here ∙ ap (λ (n : ℕ). nodes_in_row (gates ++ g ∷ []) n 0) (sym size);
        within = subst (λ (n : ℕ). AllByRecursion (λ k. k.lhs / 2 < n) (gates ++ g ∷ [])) (sym size) ((rec_append (λ (k : GateLine). k.lhs / 2 < length nodes) gates (g ∷ [])).1 (h.within, (low, tt)));
      }
