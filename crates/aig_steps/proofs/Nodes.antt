-- What the clauses of all nodes say: that each node has its value.
use Rattle.aig_base.proofs.Words.{◌≡◌, ◌↔◌, ℕ, ◌<◌, Bool, true, false, ◌&&◌, ◌||◌, Option, Some, None, List, [], ◌∷◌, length, map, get_or, IsTrue, refl, sym, ap, subst, ◌∙◌, arith, All, All-cons, All-map, All-nil, AllByRecursion, IfSome, option_to_list, flat_map, get_or-map, length-map, same_Some, slice_get, slice_get-get_or}
use Rattle.aig_base.specs.declared.logic.literal.Lit.{Lit}
use Rattle.aig_base.specs.Clauses.{Satisfies, are_true, is_true_clause, with_polarity}
use Rattle.aig_base.proofs.Literals.{literal_value-lit_to}
use Rattle.aig_circuit.specs.declared.edge.AigEdge.{AigEdge}
use Rattle.aig_circuit.specs.declared.node.AigLatch.{AigLatch}
use Rattle.aig_circuit.specs.declared.node.AigNode.{AigNode}
use Rattle.aig_circuit.specs.declared.node.AigNodeType.{AigNodeType}
use Rattle.aig_circuit.specs.declared.node.AigNodeType.TheVariants.{False, Leaf, And}
use Rattle.aig_circuit.proofs.Words.{AreNodes, Circuit, IsCircuit, IsInRange, inverted_if, kind_at, node_value}
use Rattle.aig_circuit.proofs.Listed.{AllProperties-weaker}
use Rattle.aig_circuit.proofs.Lists.{All-flat_map}
use Rattle.aig_circuit.proofs.Trees.{by_smaller, kind_at-there, kind_at-within, node_value-and, node_value-false, node_value-leaf}
use Rattle.aig_cnf.specs.declared.form.Form.TheVariants.{AndOf}
use Rattle.aig_cnf.specs.Cnf.{FixesRoots, IsFixed, NodeValuesSatisfy}
use Rattle.aig_cnf.proofs.Forms.{clauses-say}
use Rattle.aig_format.proofs.Entries.{rec_all, rec_append}
use Rattle.aig_runs.proofs.Further.{Holds}
use Rattle.aig_runs.proofs.Rows.{all_is}
use Rattle.aig_steps.specs.Stepwise.{kind_clauses, node_clauses}

-- the clauses of each node, in a list of their own
abbrev pub clause_lists : List AigNode → List (List (List Lit))
clause_lists nodes = map node_clauses nodes

-- the list at the place of a node of this kind
pub listed : (nodes : List AigNode) → AreNodes nodes
    → (n : ℕ) (k : AigNodeType) (d : List (List Lit)) → kind_at nodes n ≡ Some k
    → get_or (clause_lists nodes) n d ≡ kind_clauses n k
listed nodes are n k d is =
    let none : AigNode = record { node_id = 0; typ = False } in
    let within : n < length nodes = kind_at-within nodes n k is in
    let node : AigNode = get_or nodes n none in
    let there : slice_get nodes n ≡ Some node = slice_get-get_or nodes n none within in
    let number : node.node_id ≡ n = are.numbered n node there in
    let kind : node.typ ≡ k =
    same_Some node.typ k (sym (ap (λ (o : Option AigNode). option_typ o) there) ∙ is) in
    get_or-map node_clauses nodes n none d within ∙ ap (λ m. kind_clauses m node.typ) number
    ∙ ap (kind_clauses n) kind
  where
    option_typ : Option AigNode → Option AigNodeType
    option_typ (Some node) = Some node.typ
    option_typ None = None

-- the clause of false says that it is false
false_says : (v : ℕ → Bool) (n : ℕ) → IsTrue (are_true v (kind_clauses n False)) ↔ (v n ≡ false)
false_says v n = rw (literal_value-lit_to v n false) (by (v n))
  where
    by : (b : Bool) → IsTrue ((with_polarity false b || false) && true) ↔ (b ≡ false)
    by true = (λ h. cc, λ h. cc)
    by false = (λ h. refl, λ h. refl)

module _ (nodes : List AigNode) (are : AreNodes nodes) where
  -- each node has in a satisfying assignment its value under the assignment's leaf values
  pub fixed : (v : ℕ → Bool) → Satisfies v (clause_lists nodes) → (n : ℕ) → n < length nodes
      → v n ≡ node_value nodes v n
  fixed v sat = by_smaller (λ n. n < length nodes → v n ≡ node_value nodes v n)
      (λ n below h. let there = kind_at-there nodes n h in by n below there.0 there.1)
    where
      holds : (n : ℕ) (k : AigNodeType) → kind_at nodes n ≡ Some k
          → IsTrue (are_true v (kind_clauses n k))
      holds n k is =
          let within : n < length nodes = kind_at-within nodes n k is in
          subst (λ (cs : List (List Lit)). IsTrue (are_true v cs)) (listed nodes are n k [] is)
          (sat n [] (omega (arith, within, length-map nodes node_clauses)))

      by : (n : ℕ) → ((m : ℕ) → m < n → m < length nodes → v m ≡ node_value nodes v m)
          → (k : AigNodeType) → kind_at nodes n ≡ Some k → v n ≡ node_value nodes v n
      by n below False is =
          (false_says v n).0 (holds n False is) ∙ sym (node_value-false nodes v n is)
      by n below Leaf is = sym (node_value-leaf nodes v n is)
      by n below (And a b) is =
          let within : n < length nodes = kind_at-within nodes n (And a b) is in
          let first : a.node_id < n = are.ordered.first_before n a b is in
          let second : b.node_id < n = are.ordered.second_before n a b is in
          (clauses-say v n (AndOf a b)).0 (holds n (And a b) is)
          ∙ ap (λ w. inverted_if a.compl w && inverted_if b.compl (v b.node_id))
          (below a.node_id first (omega arith))
          ∙ ap (λ w. inverted_if a.compl (node_value nodes v a.node_id) && inverted_if b.compl w)
          (below b.node_id second (omega arith))
          ∙ sym (node_value-and nodes are.ordered v n a b is)

  -- node values satisfy
  pub satisfied : (x : ℕ → Bool) → Satisfies (node_value nodes x) (clause_lists nodes)
  satisfied x n d h =
      let there = kind_at-there nodes n (omega (arith, h, length-map nodes node_clauses)) in
      subst (λ (cs : List (List Lit)). IsTrue (are_true (node_value nodes x) cs))
      (sym (listed nodes are n there.0 d there.1)) (by there.0 there.1)
    where
      by : (k : AigNodeType) → kind_at nodes n ≡ Some k
          → IsTrue (are_true (node_value nodes x) (kind_clauses n k))
      by False is = (false_says (node_value nodes x) n).1 (node_value-false nodes x n is)
      by Leaf is = refl
      by (And a b) is = (clauses-say (node_value nodes x) n (AndOf a b)).1
          (node_value-and nodes are.ordered x n a b is)

module _ (u : Circuit) (is : IsCircuit u) where
  edge_fixed : (e : AigEdge) → IsInRange u.nodes e → IsFixed u (clause_lists u.nodes) e
  edge_fixed e there v sat = ap (inverted_if e.compl) (fixed u.nodes is.nodes v sat e.node_id there)

  init_fixed : (o : Option AigEdge) → IfSome o (IsInRange u.nodes)
      → All (IsFixed u (clause_lists u.nodes)) (option_to_list o)
  init_fixed (Some e) there = All-cons (IsFixed u (clause_lists u.nodes)) e [] (edge_fixed e there)
      (All-nil (IsFixed u (clause_lists u.nodes)))
  init_fixed None there = All-nil (IsFixed u (clause_lists u.nodes))

  -- the clauses of all nodes fix the edges of every list
  pub fixes : FixesRoots u (clause_lists u.nodes)
  fixes =
      let P = IsFixed u (clause_lists u.nodes) in
      record {
        properties =
            AllProperties-weaker (IsInRange u.nodes) P edge_fixed u.properties is.properties;
        next = All-map P (λ (latch : AigLatch). latch.next) u.latchs
            (λ k d h. edge_fixed (get_or u.latchs k d).next (is.latchs k d h).next);
        initial = All-flat_map P (λ (latch : AigLatch). option_to_list latch.init) u.latchs
            (λ k d h. init_fixed (get_or u.latchs k d).init (is.latchs k d h).init);
      }

  -- and node values satisfy them
  pub satisfies : NodeValuesSatisfy u (clause_lists u.nodes)
  satisfies = satisfied u.nodes is.nodes

-- an assignment satisfies the lists where each clause is true
pub lists_say : (v : ℕ → Bool) (nodes : List AigNode)
    → Satisfies v (clause_lists nodes) ↔ AllByRecursion (Holds v) (flat_map node_clauses nodes)
lists_say v nodes =
    let r = go nodes in
    let all = rec_all (λ (cs : List (List Lit)). IsTrue (are_true v cs)) (clause_lists nodes) in
    (λ h. r.0 (all.1 h), λ h. all.0 (r.1 h))
  where
    go : (ns : List AigNode) → AllByRecursion (λ (cs : List (List Lit)). IsTrue (are_true v cs))
        (clause_lists ns) ↔ AllByRecursion (Holds v) (flat_map node_clauses ns)
    go [] = (λ h. tt, λ h. tt)
    go (n ∷ ns) =
        let r = go ns in
        let one = all_is (is_true_clause v) (node_clauses n) in
        let s = rec_append (Holds v) (node_clauses n) (flat_map node_clauses ns) in
        (λ h. s.1 (one.0 h.0, r.0 h.1), λ h. let p = s.0 h in (one.1 p.0, r.1 p.1))
