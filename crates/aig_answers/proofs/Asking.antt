-- The clauses of a window, from their parts.
use Rattle.aig_answers.proofs.Words.{◌≡◌, ℕ, ◌+◌, ◌-◌, ◌*◌, ◌^◌, ◌<◌, ◌≤◌, Bool, false, List, [], ◌++◌, length, take, drop, refl, sym, subst, ap, ◌∙◌, arith, length-drop, add-mul, length-map, length-take-le, slice_get_within, take_all, All-map, All-weaker, replicate, Lit, AreBelow, AreRelations, AigEdge, latch_leaves-leaves, kind_at-within, edge_to, IsInRange, IsLeaf, latch_leaves, Leaf, AreNeeded, FixesRoots, HasClauses, NodeValuesSatisfy, UnrollsTo, window_size, window_below, Window, Plain, Distinct, AsksWindow, count_free, induction_clauses, pair_clauses, state_at, state_edges, states_clauses, watched, window_clauses}
use Rattle.aig_circuit.proofs.Words.{Circuit, IsCircuit}
use Rattle.aig_answers.proofs.Growing.{free, free_length}

-- the leaves of latches may be outputs
pub watched_circuit : (form : Window) (c : Circuit) → IsCircuit c → IsCircuit (watched form c)
watched_circuit Plain c is = is
watched_circuit Distinct c is =
    let there = All-weaker (IsLeaf c.nodes) (λ n. n < length c.nodes)
    (λ n leaf. kind_at-within c.nodes n Leaf leaf) (latch_leaves c.latchs)
    (latch_leaves-leaves c is) in
    record {
      nodes = is.nodes;
      inputs = is.inputs;
      inputs_distinct = is.inputs_distinct;
      latchs = is.latchs;
      latchs_distinct = is.latchs_distinct;
      apart = is.apart;
      properties = record {
        outputs = All-map (IsInRange c.nodes) (λ n. edge_to n false) (latch_leaves c.latchs) there;
        bads = is.properties.bads;
        constraints = is.properties.constraints;
        justice = is.properties.justice;
        fairness = is.properties.fairness;
      };
      named = is.named;
    }

-- the edges of a state, as they are cut out
pub cut_row : (edges : List AigEdge) (l s : ℕ)
    → take l (take (length edges - s * l) (drop (s * l) edges)) ≡ state_at l edges s
cut_row edges l s = ap (take l) (take_all (length edges - s * l) (drop (s * l) edges) (simp length-drop (omega arith)))

pub pair_cut : (made old : List (List Lit)) (m n l s t : ℕ) (edges xs ys : List AigEdge)
    → made ≡ old ++ pair_clauses m xs ys → m ≡ n → xs ≡ state_at l edges s → ys ≡ state_at l edges t
    → made ≡ old ++ pair_clauses n (state_at l edges s) (state_at l edges t)
pair_cut made old m n l s t edges xs ys step is first second =
    step ∙ ap (λ i. old ++ pair_clauses i xs ys) is ∙ ap (λ row. old ++ pair_clauses n row ys) first ∙ ap (λ row. old ++ pair_clauses n (state_at l edges s) row) second

pub row_length : (edges : List AigEdge) (l s : ℕ) → (s + 1) * l ≤ length edges
    → length (state_at l edges s) ≡ l
row_length edges l s there =
    let row : (s + 1) * l ≡ s * l + l = omega (arith, add-mul s 1 l) in
    length-take-le l (drop (s * l) edges) (simp length-drop (omega (arith, row, there)))

-- the outputs take no room
pub same_room : (form : Window) (c : Circuit) (k : ℕ)
    → window_size form (watched form c) k ≡ window_size form c k
same_room Plain c k = refl
same_room Distinct c k = refl

-- the unrolled circuit has the states of all steps
pub states_count : (form : Window) (c u : Circuit) (k : ℕ) → UnrollsTo (watched form c) k u
    → form ≡ Distinct → length u.properties.outputs ≡ (k + 1) * length (watched form c).latchs
states_count Plain c u k unrolls is = cc
states_count Distinct c u k unrolls is =
    let y : ℕ → Bool = λ n. false in
    let r = unrolls.run_of y in
    let states : length (state_edges c) ≡ length c.latchs = length-map _ _ ∙ length-map _ _ in
    (unrolls.same y r.0 r.1 r.2).properties.outputs.count ∙ ap (λ m. (k + 1) * m) states

module _ (c : Circuit) (k : ℕ) (optimize : Bool) (u : Circuit) (clauses : List (List (List Lit))) (lists : List (List (List Lit))) (extra : List (List Lit)) (is : IsCircuit u) (has : HasClauses u optimize clauses)
    (fixes : FixesRoots u clauses) (satisfied : NodeValuesSatisfy u clauses) (relations : AreRelations clauses) where
  pub asks : (form : Window) → UnrollsTo (watched form c) (k + 1) u
      → lists ≡ clauses ++ replicate (count_free form (watched form c) k) []
      → extra ≡ induction_clauses (watched form c) k u ++ states_clauses form (length clauses) (watched form c) k u → AsksWindow form c k optimize lists extra
  asks Plain steps exact also =
      record { unrolled = u; clauses = clauses; is_circuit = is; steps = steps; has_clauses = has; fixes = fixes; satisfied = satisfied; relations = relations; exact = exact; further_exact = also }
  asks Distinct steps exact also =
      record { unrolled = u; clauses = clauses; is_circuit = is; steps = steps; has_clauses = has; fixes = fixes; satisfied = satisfied; relations = relations; exact = exact; further_exact = also }

-- ---- clauses that are written from a circuit

-- the clauses of the gates that need some
relations_of : (u : Circuit) (optimize : Bool) (marks : List Bool) (total : ℕ)
    → length u.nodes ≤ 2 ^ 31 → (h : AreNeeded u optimize marks total) → AreRelations h.lists
relations_of u optimize marks total few h = record {
  some = slice_get_within h.lists 0 _ h.has_clauses.zero;
  few = omega (arith, few, h.has_clauses.count);
  below = h.below;
}

module _ (form : Window) (c : Circuit) (k : ℕ) (optimize : Bool) (u : Circuit) (marks : List Bool) (total : ℕ) (extra : List (List Lit)) (few : length u.nodes ≤ 2 ^ 31) (needed : AreNeeded u optimize marks total) (is : IsCircuit u)
    (steps : UnrollsTo (watched form c) (k + 1) u) (exact : extra ≡ window_clauses form (length u.nodes) (watched form c) k u)
    (fixes : (lists : List (List (List Lit))) → HasClauses u optimize lists → FixesRoots u lists) (satisfied : (lists : List (List (List Lit))) → HasClauses u optimize lists → NodeValuesSatisfy u lists)
    (one : (lists others : List (List (List Lit))) → HasClauses u optimize lists → HasClauses u optimize others → lists ≡ others) where
  -- whichever list there is of them, it asks for a window with the further ones
  pub asked_of : (lists : List (List (List Lit))) → HasClauses u optimize lists
      → AsksWindow form c k optimize (lists ++ free (count_free form (watched form c) k)) extra
  asked_of lists has =
      let relations = subst AreRelations (one needed.lists lists needed.has_clauses has)
      (relations_of u optimize marks total few needed) in
      asks c k optimize u lists _ extra is has (fixes lists has) (satisfied lists has) relations form steps refl
      (exact ∙ ap (λ n. window_clauses form n (watched form c) k u) (sym has.count))

  -- and the further ones are of variables that are there
  pub below_of : AreBelow (length u.nodes + count_free form (watched form c) k) extra
  below_of =
      let count = count_free form (watched form c) k in
      subst (λ n. AreBelow n extra) (free_length needed.lists count ∙ ap (λ n. n + count) needed.has_clauses.count)
      (window_below form c k optimize _ extra (asked_of needed.lists needed.has_clauses))
