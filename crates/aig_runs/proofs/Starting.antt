-- The clauses of initial edges hold exactly where the leaf values are an initial state.
use Rattle.aig_base.proofs.Words.{◌≡◌, ◌↔◌, ℕ, Bool, true, false, cond, not, ◌||◌, Option, Some, None, List, [], ◌∷◌, ◌++◌, IsTrue, refl, ap, ◌∙◌, IfSome, option_to_list, ◌==◌, AllByRecursion, flat_map, eqb-true, All-from_recursion, recursion_from_All}
use Rattle.aig_base.specs.declared.logic.literal.Lit.{Lit}
use Rattle.aig_base.specs.Clauses.{lit_to, with_polarity}
use Rattle.aig_base.proofs.Literals.{literal_value-lit_to}
use Rattle.aig_circuit.specs.declared.edge.AigEdge.{AigEdge}
use Rattle.aig_circuit.specs.declared.node.AigLatch.{AigLatch}
use Rattle.aig_circuit.specs.declared.node.AigNode.{AigNode}
use Rattle.aig_circuit.proofs.Words.{Circuit, latch_leaves, edge_to, inverse, inverted_if, lit_of, initial_edges, IsInitial, edge_value, node_value}
use Rattle.aig_cnf.specs.Cnf.{edge_in}
use Rattle.aig_cnf.proofs.Forms.{edge_in-inverse, literal_value-lit_of}
use Rattle.aig_format.proofs.Entries.{rec_append, rec_flat_map}
use Rattle.aig_unroll.specs.Unroll.{starts_of}
use Rattle.aig_runs.specs.Queries.{start_clauses}
use Rattle.aig_runs.proofs.Further.{Holds}

-- the clauses of a latch with this leaf and this initial edge
abbrev starting : ℕ → Option AigEdge → List (List Lit)
starting n init = start_clauses (record { input = n; next = edge_to 0 false; init = init })

-- latches with the same leaves and initial edges have the same clauses
pub starts_same : (ls ms : List AigLatch) → latch_leaves ms ≡ latch_leaves ls → starts_of ms ≡ starts_of ls → flat_map start_clauses ms ≡ flat_map start_clauses ls
starts_same [] [] leaves starts = refl
starts_same [] (m ∷ ms) leaves starts = cc
starts_same (l ∷ ls) [] leaves starts = cc
starts_same (l ∷ ls) (m ∷ ms) leaves starts =
    let input : m.input ≡ l.input = cc in
    let init : m.init ≡ l.init = cc in
    let first : start_clauses m ≡ start_clauses l = ap (λ n. starting n m.init) input ∙ ap (starting l.input) init in
    ap (λ some. some ++ flat_map start_clauses ms) first ∙ ap (λ others. start_clauses l ++ others) (starts_same ls ms (cc) (cc))

module _ (nodes : List AigNode) (v : ℕ → Bool) (zero : node_value nodes v 0 ≡ false) where
  -- the edge has its value
  abbrev IsSame : AigEdge → Type 0
  IsSame e = edge_in v e ≡ edge_value nodes v e

  -- the initial edge has the leaf's value
  abbrev Starts : ℕ → Option AigEdge → Type 0
  Starts n init = IfSome init (λ e. edge_value nodes v e ≡ v n)

  -- a unit clause says that a constant edge has the leaf's value
  unit_says : (n : ℕ) (e : AigEdge) → e.node_id ≡ 0 → AllByRecursion (Holds v) ((lit_to n e.compl ∷ []) ∷ []) ↔ (edge_value nodes v e ≡ v n)
  unit_says n e constant =
      let value : node_value nodes v e.node_id ≡ false = ap (node_value nodes v) constant ∙ zero in
      rw (literal_value-lit_to v n e.compl, value) (by e.compl (v n))
    where
      by : (i b : Bool) → (IsTrue (with_polarity i b || false) × Unit {0}) ↔ (inverted_if i false ≡ b)
      by true true = (λ h. refl, λ h. (refl, tt))
      by true false = (λ h. cc, λ h. cc)
      by false true = (λ h. cc, λ h. cc)
      by false false = (λ h. refl, λ h. (refl, tt))

  -- two clauses say so of any edge
  abbrev two_clauses : ℕ → AigEdge → List (List Lit)
  two_clauses n e = (lit_to n false ∷ lit_of e ∷ []) ∷ (lit_to n true ∷ lit_of (inverse e) ∷ []) ∷ []

  two_say : (n : ℕ) (e : AigEdge) → IsSame e → AllByRecursion (Holds v) (two_clauses n e) ↔ (edge_value nodes v e ≡ v n)
  two_say n e same =
      rw (literal_value-lit_to v n false, literal_value-lit_to v n true, literal_value-lit_of v e, literal_value-lit_of v (inverse e), edge_in-inverse v e, same) (by (v n) (edge_value nodes v e))
    where
      by : (b w : Bool) → (IsTrue (with_polarity false b || (w || false)) × (IsTrue (with_polarity true b || (not w || false)) × Unit {0})) ↔ (w ≡ b)
      by true true = (λ h. refl, λ h. (refl, (refl, tt)))
      by true false = (λ h. cc, λ h. cc)
      by false true = (λ h. cc, λ h. cc)
      by false false = (λ h. refl, λ h. (refl, (refl, tt)))

  one_says : (n : ℕ) (init : Option AigEdge) → AllByRecursion IsSame (option_to_list init) → AllByRecursion (Holds v) (starting n init) ↔ Starts n init
  one_says n None same = (λ h. tt, λ h. tt)
  one_says n (Some e) same = by (e.node_id == 0) refl
    where
      by : (b : Bool) → (e.node_id == 0) ≡ b → AllByRecursion (Holds v) (cond b ((lit_to n e.compl ∷ []) ∷ []) (two_clauses n e)) ↔ (edge_value nodes v e ≡ v n)
      by true is = unit_says n e (eqb-true e.node_id 0 is)
      by false is = two_say n e same.0

  all_say : (ls : List AigLatch) → AllByRecursion (λ (l : AigLatch). AllByRecursion IsSame (option_to_list l.init)) ls
      → AllByRecursion (Holds v) (flat_map start_clauses ls) ↔ AllByRecursion (λ (l : AigLatch). Starts l.input l.init) ls
  all_say [] same = (λ h. tt, λ h. tt)
  all_say (l ∷ ls) same =
      let both = rec_append (Holds v) (start_clauses l) (flat_map start_clauses ls) in
      let one = one_says l.input l.init same.0 in
      let rest = all_say ls same.1 in
      (λ h. let p = both.0 h in (one.0 p.0, rest.0 p.1), λ h. both.1 (one.1 h.0, rest.1 h.1))

-- the clauses hold exactly where the leaf values are an initial state
pub starts_say : (c : Circuit) (v : ℕ → Bool) → node_value c.nodes v 0 ≡ false → AllByRecursion (λ e. edge_in v e ≡ edge_value c.nodes v e) (initial_edges c.latchs)
    → AllByRecursion (Holds v) (flat_map start_clauses c.latchs) ↔ IsInitial c v
starts_say c v zero same =
    let Is = λ (l : AigLatch). Starts c.nodes v zero l.input l.init in
    let say = all_say c.nodes v zero c.latchs ((rec_flat_map (IsSame c.nodes v zero) (λ (l : AigLatch). option_to_list l.init) c.latchs).0 same) in
    (λ h. All-from_recursion Is c.latchs (say.0 h), λ h. say.1 (recursion_from_All Is c.latchs h))
