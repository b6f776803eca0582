-- Part of what is promised.
-- The clauses that ask for a window of steps that is bad first at its end. (Temporal induction:
-- Sheeran, Singh and Stålmarck, 2000.)
use Rattle.std.specs.Prelude.{◌≡◌, ℕ, zero, suc, ◌+◌, ◌*◌, Bool, true, false, List, [], ◌∷◌, ◌++◌, length, map, take, drop, replicate}
use Rattle.aig_base.specs.declared.logic.literal.Lit.{Lit}
use Rattle.aig_base.specs.Clauses.{AreRelations, lit_to}
use Rattle.aig_circuit.specs.declared.edge.AigEdge.{AigEdge}
use Rattle.aig_circuit.specs.Edge.{edge_to, inverse, lit_of}
use Rattle.aig_circuit.specs.Circuit.{Circuit, IsCircuit, latch_leaves}
use Rattle.aig_cnf.specs.Cnf.{FixesRoots, HasClauses, NodeValuesSatisfy}
use Rattle.aig_unroll.specs.Unroll.{UnrollsTo}
use Rattle.aig_runs.specs.Queries.{last_bads, unit_clauses}
use Rattle.aig_runs.specs.declared.window.Window.{Window}
use Rattle.aig_runs.specs.declared.window.Window.TheVariants.{Plain, Distinct}

-- ---- induction

-- the bad edges of the steps 0 to k, which are the first of the unrolled circuit's
abbrev pub first_bads : Circuit → ℕ → Circuit → List AigEdge
first_bads c k unrolled = take ((k + 1) * length c.properties.bads) unrolled.properties.bads

-- Each constraint at each step, that each bad edge of the steps 0 to k is false, and one clause of
-- the bad edges of step k + 1, where the circuit is unrolled by k + 1 steps.
abbrev pub induction_clauses : Circuit → ℕ → Circuit → List (List Lit)
induction_clauses c k unrolled =
    unit_clauses unrolled.properties.constraints
    ++ unit_clauses (map inverse (first_bads c k unrolled))
    ++ map lit_of (last_bads c (k + 1) unrolled) ∷ []

-- ---- distinct states

-- the edges of the latches' leaves
abbrev pub state_edges : Circuit → List AigEdge
state_edges c = map (λ n. edge_to n false) (latch_leaves c.latchs)

-- the circuit that a form unrolls: where states are told apart, the latches' leaves are its outputs
abbrev pub watched : Window → Circuit → Circuit
watched Plain c = c
watched Distinct c = record c { properties = record c.properties { outputs = state_edges c } }

-- for each pair of edges, that they differ where variable n is true, n + 1 for the next pair, and
-- so on
abbrev pub difference_clauses : ℕ → List AigEdge → List AigEdge → List (List Lit)
difference_clauses n [] ys = []
difference_clauses n (x ∷ xs) [] = []
difference_clauses n (x ∷ xs) (y ∷ ys) =
    (lit_to n false ∷ lit_of x ∷ lit_of y ∷ [])
    ∷ (lit_to n false ∷ lit_of (inverse x) ∷ lit_of (inverse y) ∷ [])
    ∷ difference_clauses (n + 1) xs ys

-- so many variables, from n on
abbrev pub variables_from : ℕ → ℕ → List Lit
variables_from n zero = []
variables_from n (suc count) = lit_to n true ∷ variables_from (n + 1) count

-- some pair of edges differs
abbrev pub pair_clauses : ℕ → List AigEdge → List AigEdge → List (List Lit)
pair_clauses n xs ys = difference_clauses n xs ys ++ variables_from n (length xs) ∷ []

-- the edges of the state at step t, where a state has l edges
abbrev pub state_at : ℕ → List AigEdge → ℕ → List AigEdge
state_at l edges t = take l (drop (t * l) edges)

-- the state at step t differs from that at each of the first so many steps
abbrev pub apart_clauses : ℕ → ℕ → List AigEdge → ℕ → ℕ → List (List Lit)
apart_clauses n l edges t zero = []
apart_clauses n l edges t (suc s) =
    apart_clauses n l edges t s
    ++ pair_clauses (n + s * l) (state_at l edges s) (state_at l edges t)

-- how many pairs of steps there are among so many
abbrev pub count_pairs : ℕ → ℕ
count_pairs zero = 0
count_pairs (suc t) = count_pairs t + t

-- for each pair of the first so many steps, that the states differ, where variables from n on are
-- free
abbrev pub pairwise_clauses : ℕ → ℕ → List AigEdge → ℕ → List (List Lit)
pairwise_clauses n l edges zero = []
pairwise_clauses n l edges (suc t) =
    pairwise_clauses n l edges t ++ apart_clauses (n + count_pairs t * l) l edges t t

-- The states at the first so many steps differ, of which there are two at least. States without
-- latches are all the same: one clause, the empty one, says that two of them differ.
abbrev pub distinct_clauses : ℕ → ℕ → List AigEdge → ℕ → List (List Lit)
distinct_clauses n zero edges steps = [] ∷ []
distinct_clauses n (suc l) edges steps = pairwise_clauses n (suc l) edges steps

-- ---- windows

-- how many variables a form has after those of the nodes
abbrev pub count_free : Window → Circuit → ℕ → ℕ
count_free Plain c k = 0
count_free Distinct c k = count_pairs (k + 2) * length c.latchs

-- the clauses by which a form tells states apart, where n is the count of nodes
abbrev pub states_clauses : Window → ℕ → Circuit → ℕ → Circuit → List (List Lit)
states_clauses Plain n c k unrolled = []
states_clauses Distinct n c k unrolled =
    distinct_clauses n (length c.latchs) unrolled.properties.outputs (k + 2)

-- the window clauses of a window, in order
abbrev pub window_clauses : Window → ℕ → Circuit → ℕ → Circuit → List (List Lit)
window_clauses form n c k unrolled =
    induction_clauses c k unrolled ++ states_clauses form n c k unrolled

-- The clauses of the circuit, unrolled by k + 1 steps, and the further ones of a window.
pub record AsksWindow (form : Window) (c : Circuit) (k : ℕ) (optimize : Bool)
    (lists : List (List (List Lit))) (extra : List (List Lit)) : Type 0 where
  pub unrolled : Circuit
  pub clauses : List (List (List Lit))
  pub is_circuit : IsCircuit unrolled
  pub steps : UnrollsTo (watched form c) (k + 1) unrolled
  -- which node has which clauses; what satisfies them, and what they fix
  pub has_clauses : HasClauses unrolled optimize clauses
  pub fixes : FixesRoots unrolled clauses
  pub satisfied : NodeValuesSatisfy unrolled clauses
  pub relations : AreRelations clauses
  -- and then free variables
  pub exact : lists ≡ clauses ++ replicate (count_free form c k) []
  pub further_exact : extra ≡ window_clauses form (length clauses) c k unrolled
