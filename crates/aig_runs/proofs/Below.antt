-- The clauses of a query and of a window are of variables that are there.
use Rattle.std.proofs.Common.{◌≡◌, ℕ, ◌+◌, ◌*◌, ◌<◌, ◌≤◌, ◌==◌, Bool, true, false, cond, not, Option, Some, None, List, [], ◌∷◌, ◌++◌, length, map, drop, sym, ap, subst, ◌∙◌, arith, length-drop, length-append}
use Rattle.std.specs.Prelude.{All, IfSome, replicate}
use Rattle.aig_base.proofs.Words.{flat_map, add-mul, mul-le-mul_right, All-append, All-drop, All-from_recursion, All-tail, All-take, All-weaker, recursion_from_All}
use Rattle.std.proofs.lemmas.List.{append-nil, length-take-le, length-replicate, length-map}
use Rattle.aig_base.specs.declared.logic.literal.Lit.{Lit}
use Rattle.aig_base.specs.Clauses as clauses
use Rattle.aig_base.specs.Clauses.{lit_to, variable_of}
use Rattle.aig_base.proofs.Literals.{variable_of-lit_to}
use Rattle.aig_circuit.specs.declared.edge.AigEdge.{AigEdge}
use Rattle.aig_circuit.specs.declared.node.AigLatch.{AigLatch}
use Rattle.aig_circuit.specs.declared.node.AigNode.{AigNode}
use Rattle.aig_circuit.specs.declared.node.AigNodeType.TheVariants.{Leaf}
use Rattle.aig_circuit.proofs.Words.{inverse, lit_of, Circuit, IsCircuit, IsInRange, IsLatch}
use Rattle.aig_circuit.proofs.Trees.{kind_at-within}
use Rattle.aig_format.proofs.Entries.{rec_append}
use Rattle.aig_unroll.specs.Unroll.{UnrollsTo}
use Rattle.aig_runs.specs.Queries.{last_bads, query_clauses, start_clauses, unit_clauses, value_clauses, IsThere}
use Rattle.aig_runs.specs.declared.window.Window.{Window}
use Rattle.aig_runs.specs.declared.window.Window.TheVariants.{Plain, Distinct}
use Rattle.aig_runs.specs.WindowClauses.{AsksWindow, count_free, count_pairs, distinct_clauses, first_bads, induction_clauses, state_at, state_edges, watched}
use Rattle.aig_runs.proofs.Differing.{AreBelow, AreEdgesBelow, IsBelow, distinct_below}

-- ---- the clauses of edges

units_below : (n : ℕ) (es : List AigEdge) → AreEdgesBelow n es → AreBelow n (unit_clauses es)
units_below n [] low = tt
units_below n (e ∷ es) low = let here = low.0 in ((omega (arith, variable_of-lit_to e.node_id (not e.compl)), tt), units_below n es low.1)

inverses_below : (n : ℕ) (es : List AigEdge) → AreEdgesBelow n es → AreEdgesBelow n (map inverse es)
inverses_below n [] low = tt
inverses_below n (e ∷ es) low = (low.0, inverses_below n es low.1)

any_below : (n : ℕ) (es : List AigEdge) → AreEdgesBelow n es → IsBelow n (map lit_of es)
any_below n [] low = tt
any_below n (e ∷ es) low = let here = low.0 in (omega (arith, variable_of-lit_to e.node_id (not e.compl)), any_below n es low.1)

-- the edges are in range, as recursion says it
in_order : (n : ℕ) (es : List AigEdge) → All (λ e. e.node_id < n) es → AreEdgesBelow n es
in_order n es all = recursion_from_All (λ e. e.node_id < n) es all

-- in the form by elements
below_all : (n : ℕ) (all : List (List Lit)) → AreBelow n all → clauses.AreBelow n all
below_all n all low =
    All-weaker (IsBelow n) (All (λ lit. variable_of lit < n)) (λ clause is. All-from_recursion (λ lit. variable_of lit < n) clause is) all (All-from_recursion (IsBelow n) all low)

pub induction_below : (c u : Circuit) (k n : ℕ) → n ≡ length u.nodes → IsCircuit u
    → AreBelow n (induction_clauses c k u)
induction_below c u k n has is =
    let Below = λ (e : AigEdge). e.node_id < n in
    let range = λ (es : List AigEdge) (all : All (λ e. e.node_id < length u.nodes) es). subst
    (λ m. All (λ e. e.node_id < m) es) (sym has) all in
    let early = first_bads c k u in
    let first = units_below n u.properties.constraints
    (in_order n u.properties.constraints (range u.properties.constraints is.properties.constraints))
    in
    let second = units_below n (map inverse early)
    (inverses_below n early (in_order n early (All-take Below ((k + 1) * length c.properties.bads)
    u.properties.bads (range u.properties.bads is.properties.bads)))) in
    let third = any_below n (last_bads c (k + 1) u)
    (in_order n (last_bads c (k + 1) u) (All-drop Below ((k + 1) * length c.properties.bads)
    u.properties.bads (range u.properties.bads is.properties.bads))) in
    (rec_append (IsBelow n) (unit_clauses u.properties.constraints ++ unit_clauses
    (map inverse early)) (map lit_of (last_bads c (k + 1) u) ∷ [])).1 (
      (rec_append (IsBelow n) (unit_clauses u.properties.constraints)
          (unit_clauses (map inverse early))).1 (first, second),
      (third, tt),
    )

-- ---- queries

value_below : (n v : ℕ) (e : AigEdge) → v < n → e.node_id < n → AreBelow n (value_clauses v e)
value_below n v e lt also = by_test (e.node_id == 0)
  where
    node : (polarity : Bool) → variable_of (lit_to v polarity) < n
    node polarity = omega (arith, lt, variable_of-lit_to v polarity)

    edge : (polarity : Bool) → variable_of (lit_to e.node_id polarity) < n
    edge polarity = omega (arith, also, variable_of-lit_to e.node_id polarity)

    by_test : (b : Bool)
        → AreBelow n
        (cond b ((lit_to v e.compl ∷ []) ∷ [])
        ((lit_to v false ∷ lit_of e ∷ []) ∷ (lit_to v true ∷ lit_of (inverse e) ∷ []) ∷ []))
    by_test true = ((node e.compl, tt), tt)
    by_test false = ((node false, (edge (not e.compl), tt)), ((node true, (edge (not (not e.compl)), tt)), tt))

start_below : (n : ℕ) (l : AigLatch) → IsThere n l → AreBelow n (start_clauses l)
start_below n l there = by_init l.init there.1
  where
    by_init : (o : Option AigEdge) → IfSome o (λ e. e.node_id < n)
        → AreBelow n (start_clauses (record l { init = o }))
    by_init None lt = tt
    by_init (Some e) lt = value_below n l.input e there.0 lt

starts_below : (n : ℕ) (latchs : List AigLatch) → All (IsThere n) latchs
    → AreBelow n (flat_map start_clauses latchs)
starts_below n [] all = tt
starts_below n (l ∷ ls) all = (rec_append (IsBelow n) (start_clauses l) (flat_map start_clauses ls)).1 (start_below n l (all 0 l (omega arith)), starts_below n ls (All-tail (IsThere n) l ls all))

-- an initial edge that is there is there among more nodes
further_start : (nodes : List AigNode) (n : ℕ) → length nodes ≤ n → (o : Option AigEdge)
    → IfSome o (IsInRange nodes) → IfSome o (λ e. e.node_id < n)
further_start nodes n longer None there = tt
further_start nodes n longer (Some e) there = omega (arith, longer, there)

-- a circuit's latches are there among more nodes
pub latchs_there : (c : Circuit) → IsCircuit c → (n : ℕ) → length c.nodes ≤ n
    → All (IsThere n) c.latchs
latchs_there c is n longer =
    All-weaker (IsLatch c.nodes) (IsThere n) (λ l h. (omega (arith, longer, kind_at-within c.nodes l.input Leaf h.leaf), further_start c.nodes n longer l.init h.init)) c.latchs is.latchs

-- edges that are there are there among more nodes
pub edges_there : (nodes : List AigNode) (n : ℕ) → length nodes ≤ n → (es : List AigEdge)
    → All (IsInRange nodes) es → All (λ e. e.node_id < n) es
edges_there nodes n longer es all = All-weaker (IsInRange nodes) (λ e. e.node_id < n) (λ e h. omega (arith, longer, h)) es all

-- the unrolled circuit has the bad edges of k + 1 steps
pub bads_count : (c u : Circuit) (k : ℕ) → UnrollsTo c k u
    → length u.properties.bads ≡ (k + 1) * length c.properties.bads
bads_count c u k unrolls =
    let y : ℕ → Bool = λ n. false in
    let r = unrolls.run_of y in
    (unrolls.same y r.0 r.1 r.2).properties.bads.count

pub query_below : (c : Circuit) (k : ℕ) (unrolled : Circuit) → IsCircuit c → IsCircuit unrolled
    → length c.nodes ≤ length unrolled.nodes
    → clauses.AreBelow (length unrolled.nodes) (query_clauses c k unrolled)
query_below c k unrolled is made longer =
    let n = length unrolled.nodes in
    let constraints = unrolled.properties.constraints in
    let bads = last_bads c k unrolled in
    let starts = starts_below n c.latchs (latchs_there c is n longer) in
    let units = units_below n constraints (in_order n constraints made.properties.constraints) in
    let any = any_below n bads (in_order n bads
    (All-drop (λ (e : AigEdge). e.node_id < n) (k * length c.properties.bads)
    unrolled.properties.bads made.properties.bads)) in
    let first = (rec_append (IsBelow n) (flat_map start_clauses c.latchs)
    (unit_clauses constraints)).1 (starts, units) in
    below_all n (query_clauses c k unrolled) ((rec_append (IsBelow n)
    (flat_map start_clauses c.latchs ++ unit_clauses constraints) (map lit_of bads ∷ [])).1
    (first, (any, tt)))

-- ---- states

-- each of so many rows of l edges has l edges that are there
pub states_below : (es : List AigEdge) (l n steps : ℕ) → length es ≡ steps * l
    → All (λ e. e.node_id < n) es → (t : ℕ) → t < steps
    → (length (state_at l es t) ≡ l) × AreEdgesBelow n (state_at l es t)
states_below es l n steps count all t low =
    let Below = λ (e : AigEdge). e.node_id < n in
    let less : (t + 1) * l ≤ steps * l = mul-le-mul_right l (omega arith) in
    let row : (t + 1) * l ≡ t * l + l = omega (arith, add-mul t 1 l) in (
      length-take-le l (drop (t * l) es) (simp length-drop (omega (arith, less, row, count))),
      in_order n (state_at l es t) (All-take Below l (drop (t * l) es)
          (All-drop Below (t * l) es all)),
    )

-- ---- windows

module _ (form : Window) (c : Circuit) (k : ℕ) (optimize : Bool) (lists : List (List (List Lit))) (extra : List (List Lit)) (asks : AsksWindow form c k optimize lists extra) where
  -- how many variables there are
  pub variables_of_window : length lists ≡ length asks.clauses + count_free form c k
  variables_of_window = ap length asks.exact ∙ length-append asks.clauses (replicate (count_free form c k) []) ∙ ap (λ m. length asks.clauses + m) (length-replicate (count_free form c k) [])

weaker_below : (n m : ℕ) → n ≤ m → (all : List (List Lit)) → clauses.AreBelow n all
    → clauses.AreBelow m all
weaker_below n m h all low = All-weaker (All (λ lit. variable_of lit < n)) (All (λ lit. variable_of lit < m)) (λ clause is. All-weaker (λ lit. variable_of lit < n) (λ lit. variable_of lit < m) (λ lit less. omega arith) clause is) all low

-- the states stand in rows
outputs_count : (c : Circuit) (k : ℕ) (u : Circuit) → UnrollsTo (watched Distinct c) (k + 1) u
    → length u.properties.outputs ≡ (k + 2) * length c.latchs
outputs_count c k u unrolls =
    let y : ℕ → Bool = λ n. false in
    let r = unrolls.run_of y in
    let count = (unrolls.same y r.0 r.1 r.2).properties.outputs.count in
    let states : length (state_edges c) ≡ length c.latchs = length-map _ _ ∙ length-map _ _ in
    count ∙ ap (λ m. (k + 1 + 1) * m) states ∙ ap (λ m. m * length c.latchs) (omega arith)

pub window_below : (form : Window) (c : Circuit) (k : ℕ) (optimize : Bool) (lists : List (List (List Lit))) (extra : List (List Lit))
    → AsksWindow form c k optimize lists extra → clauses.AreBelow (length lists) extra
window_below Plain c k optimize lists extra asks =
    let n = length asks.clauses in
    let low = induction_below c asks.unrolled k n asks.has_clauses.count asks.is_circuit in
    rw (asks.further_exact, append-nil) (weaker_below n (length lists) (omega (arith, variables_of_window Plain c k optimize lists extra asks)) _ (below_all n _ low))
window_below Distinct c k optimize lists extra asks =
    let n = length asks.clauses in
    let l = length c.latchs in
    let u = asks.unrolled in
    let m = n + count_pairs (k + 2) * l in
    let low = induction_below c u k n asks.has_clauses.count asks.is_circuit in
    let first = weaker_below n m (omega arith) (induction_clauses c k u) (below_all n (induction_clauses c k u) low) in
    let range = subst (λ m. All (λ (e : AigEdge). e.node_id < m) u.properties.outputs) (sym asks.has_clauses.count) asks.is_circuit.properties.outputs in
    let states = states_below u.properties.outputs l n (k + 2) (outputs_count c k u asks.steps) range in
    let second = below_all m (distinct_clauses n l u.properties.outputs (k + 2)) (distinct_below n (k + 2) u.properties.outputs l states n (k + 2) m (omega arith) (omega arith) (omega arith)) in
    rw (asks.further_exact, variables_of_window Distinct c k optimize lists extra asks) (All-append (All (λ lit. variable_of lit < m)) (induction_clauses c k u) (distinct_clauses n l u.properties.outputs (k + 2)) first second)
