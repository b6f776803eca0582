-- The clauses of steps are of variables that are there.
use Rattle.aig_base.proofs.Words.{◌≡◌, ℕ, zero, suc, ◌<◌, ◌≤◌, false, Some, List, [], ◌∷◌, ◌++◌, length, get_or, map, refl, sym, subst, arith, All, All-cons, All-from_recursion, All-nil, All-weaker, AllByRecursion, flat_map, recursion_from_All, slice_get-get_or}
use Rattle.aig_base.specs.declared.logic.literal.Lit.{Lit}
use Rattle.aig_base.specs.Clauses.{AreBelow, lit_to, variable_of}
use Rattle.aig_base.proofs.Literals.{variable_of-lit_to}
use Rattle.aig_circuit.specs.declared.edge.AigEdge.{AigEdge}
use Rattle.aig_circuit.specs.declared.node.AigNode.{AigNode}
use Rattle.aig_circuit.specs.declared.node.AigNodeType.{AigNodeType}
use Rattle.aig_circuit.specs.declared.node.AigNodeType.TheVariants.{False, Leaf, And}
use Rattle.aig_circuit.proofs.Words.{AreNodes, Circuit, IsCircuit, kind_at, lit_of}
use Rattle.aig_circuit.proofs.Lists.{All-first, All-flat_map, All-second}
use Rattle.aig_circuit.proofs.Trees.{kind_at-read}
use Rattle.aig_cnf.specs.declared.form.Form.TheVariants.{AndOf}
use Rattle.aig_cnf.proofs.Adding.{clauses_below}
use Rattle.aig_format.proofs.Entries.{rec_append}
use Rattle.aig_runs.specs.Queries.{last_bads, unit_clauses}
use Rattle.aig_runs.proofs.Below.{query_below}
use Rattle.aig_unroll.specs.Frame.{with_steps}
use Rattle.aig_steps.specs.Stepwise.{initial_clauses, kind_clauses, node_clauses, step_clauses, stepwise_clauses}
use Rattle.aig_steps.proofs.Further.{of_all_nodes}

-- each literal of the clause has a variable below m
abbrev IsBelow : ℕ → List Lit → Type 0
IsBelow m clause = All (λ lit. variable_of lit < m) clause

module _ (nodes : List AigNode) (are : AreNodes nodes) (m : ℕ) (few : length nodes ≤ m) where
  by_kind : (n : ℕ) (k : AigNodeType) → n < length nodes → kind_at nodes n ≡ Some k
      → AreBelow m (kind_clauses n k)
  by_kind n False low is =
      let lit = lit_to n false in
      let own : variable_of lit < m = omega (arith, variable_of-lit_to n false) in
      All-cons (IsBelow m) (lit ∷ []) []
      (All-cons (λ l. variable_of l < m) lit [] own (All-nil (λ l. variable_of l < m)))
      (All-nil (IsBelow m))
  by_kind n Leaf low is = All-nil (IsBelow m)
  by_kind n (And a b) low is =
      let Before = λ (e : AigEdge). e.node_id < n in
      let first = are.ordered.first_before n a b is in
      let second = are.ordered.second_before n a b is in
      clauses_below m n (AndOf a b) (omega arith)
      (All-cons Before a (b ∷ []) first (All-cons Before b [] second (All-nil Before)))

  nodes_below : AreBelow m (flat_map node_clauses nodes)
  nodes_below =
      All-flat_map (IsBelow m) node_clauses nodes (λ n none h.
      let node = get_or nodes n none in
      let number : node.node_id ≡ n = are.numbered n node (slice_get-get_or nodes n none h) in
      subst (λ i. AreBelow m (kind_clauses i node.typ)) (sym number)
      (by_kind n node.typ h (kind_at-read nodes n none node.typ h refl)))

module _ (c : Circuit) (k m : ℕ) (is : IsCircuit c) (made : IsCircuit (with_steps c k))
    (longer : length c.nodes ≤ length (with_steps c k).nodes)
    (few : length (with_steps c k).nodes ≤ m) where
  abbrev unrolled : Circuit
  unrolled = with_steps c k

  abbrev starts : List (List Lit)
  starts = initial_clauses c

  abbrev units : List (List Lit)
  units = unit_clauses unrolled.properties.constraints

  -- those of initial values and of constraints
  further_below : AreBelow m (starts ++ units)
  further_below =
      let n = length unrolled.nodes in
      let all = query_below c k unrolled is made longer in
      let first =
      All-first (IsBelow n) (starts ++ units) (map lit_of (last_bads c k unrolled) ∷ []) all in
      All-weaker (IsBelow n) (IsBelow m) (λ clause low. All-weaker (λ lit. variable_of lit < n)
      (λ lit. variable_of lit < m) (λ lit h. omega (arith, few)) clause low)
      (starts ++ units) first

  pub initial_below : AreBelow m (initial_clauses c)
  initial_below = All-first (IsBelow m) starts units further_below

  all_below : AllByRecursion (IsBelow m) (stepwise_clauses c k)
  all_below =
      let nodes = recursion_from_All (IsBelow m) (flat_map node_clauses unrolled.nodes)
      (nodes_below unrolled.nodes made.nodes m few) in
      let constraints = recursion_from_All (IsBelow m) units
      (All-second (IsBelow m) starts units further_below) in
      (of_all_nodes (IsBelow m) c k).1
      ((rec_append (IsBelow m) (flat_map node_clauses unrolled.nodes) units).1
      (nodes, constraints))

  -- those of a step
  pub step_below : AreBelow m (step_clauses c k)
  step_below = All-from_recursion (IsBelow m) (step_clauses c k) (last_of k all_below)
    where
      last_of : (n : ℕ) → AllByRecursion (IsBelow m) (stepwise_clauses c n)
          → AllByRecursion (IsBelow m) (step_clauses c n)
      last_of zero all = all
      last_of (suc n) all =
          ((rec_append (IsBelow m) (stepwise_clauses c n) (step_clauses c (suc n))).0 all).1
