-- What the parts of a step write is the step.
use Rattle.aig_base.proofs.Words.{◌≡◌, ◌≢◌, ℕ, zero, suc, ◌+◌, ◌<◌, ◌≤◌, Bool, true, false, cond, Some, List, [], ◌∷◌, ◌++◌, length, map, get_or, set, drop, replicate, refl, sym, ap, ap₂, subst, ◌∙◌, arith, add-one, get_or-set_other, get_or-set_same, below_more, All, AllPairs, ◌==◌, fun_ext, eqb-true, eqb-false, slice_get-get_or}
use Rattle.std.proofs.Math.ListN.{length-set}
use Rattle.std.proofs.Math.Seq.{append_snoc, drop-cons}
use Rattle.std.proofs.lemmas.List.{append-nil, drop_all, ext_get_or, get_or-map, get_or_default, length-map, length-replicate}
use Rattle.aig_base.specs.declared.logic.three.Lbool.{Lbool}
use Rattle.aig_base.specs.declared.logic.three.Lbool.TheVariants.{FALSE, NONE}
use Rattle.aig_base.specs.Three.{lbool_and, lbool_not_if}
use Rattle.aig_circuit.specs.declared.edge.AigEdge.{AigEdge}
use Rattle.aig_circuit.specs.declared.node.AigLatch.{AigLatch}
use Rattle.aig_circuit.specs.declared.node.AigNode.{AigNode}
use Rattle.aig_circuit.specs.declared.node.AigNodeType.TheVariants.{False, Leaf, And}
use Rattle.aig_circuit.proofs.Words.{AreNodes, Circuit, IsCircuit, IsLatch, latch_leaves, IsOrdered, kind_at}
use Rattle.aig_circuit.proofs.Circuits.{AreLeaves-of_circuit}
use Rattle.aig_circuit.proofs.Trees.{kind_at-within, tree_of-and, tree_of-false, tree_of-leaf}
use Rattle.aig_ternary.specs.Step.{simulation_at, value_by, with_given}
use Rattle.aig_ternary.proofs.Known.{value_is}
use Rattle.aig_ternary.specs.Ternary.{Simulation, given_values, next_state, stepped, stepped_all, value_in, values_in, three_edge_value, three_node_value, three_value_of_tree, three_values, value_for}

-- ---- values that are written at leaves

-- one more value is written
pub with_given-next : (values : List Lbool) (ns : List ℕ) (given : List Lbool) (i : ℕ) → i < length ns → i < length given
    → with_given values (drop i ns) (drop i given) ≡ with_given (set values (get_or ns i 0) (get_or given i FALSE)) (drop (i + 1) ns) (drop (i + 1) given)
with_given-next values ns given i h k = rw (add-one, drop-cons ns i 0, drop-cons given i FALSE)

-- what is written in two parts
pub with_given-append : (values : List Lbool) (ns ms : List ℕ) (given more : List Lbool) → length given ≡ length ns
    → with_given (with_given values ns given) ms more ≡ with_given values (ns ++ ms) (given ++ more)
with_given-append values [] ms [] more h = refl
with_given-append values [] ms (v ∷ given) more h = absurd (omega arith)
with_given-append values (n ∷ ns) ms [] more h = absurd (omega arith)
with_given-append values (n ∷ ns) ms (v ∷ given) more h = with_given-append (set values n v) ns ms given more (omega arith)

-- another number keeps its value
with_given-other : (values : List Lbool) (ns : List ℕ) (given : List Lbool) (n : ℕ)
    → ((k : ℕ) → k < length ns → n ≢ get_or ns k 0)
    → get_or (with_given values ns given) n NONE ≡ get_or values n NONE
with_given-other values [] given n apart = refl
with_given-other values (m ∷ ns) [] n apart = refl
with_given-other values (m ∷ ns) (v ∷ given) n apart =
    with_given-other (set values m v) ns given n (λ k h. apart (suc k) (omega arith)) ∙ get_or-set_other values m n v NONE (apart zero (omega arith))

-- where all is unknown before, each number has the value that is given for it
with_given-for : (values : List Lbool) (ns : List ℕ) (given : List Lbool) → AllPairs (λ m n. m ≢ n) ns → All (λ n. n < length values) ns → (n : ℕ) → get_or values n NONE ≡ NONE
    → get_or (with_given values ns given) n NONE ≡ value_for ns given n
with_given-for values [] given apart there n unknown = unknown
with_given-for values (m ∷ ns) [] apart there n unknown = unknown
with_given-for values (m ∷ ns) (v ∷ given) apart there n unknown =
    by_test (m == n) refl
    (with_given-for (set values m v) ns given (λ i j d h k. apart (suc i) (suc j) d (omega arith) (omega arith))
    (λ k d h. subst (λ l. get_or ns k d < l) (sym (length-set values m v)) (there (suc k) d (omega arith))) n)
  where
    by_test : (b : Bool) → (m == n) ≡ b → (get_or (set values m v) n NONE ≡ NONE → get_or (with_given (set values m v) ns given) n NONE ≡ value_for ns given n)
        → get_or (with_given (set values m v) ns given) n NONE ≡ cond b v (value_for ns given n)
    by_test true is rest =
        subst (λ k. get_or (with_given (set values m v) ns given) k NONE ≡ v) (eqb-true m n is)
        (with_given-other (set values m v) ns given m (λ k h. apart zero (suc k) 0 (omega arith) (omega arith)) ∙ get_or-set_same values m v NONE (there zero 0 (omega arith)))
    by_test false is rest =
        let other : n ≢ m = λ e. eqb-false m n is (sym e) in
        rest (get_or-set_other values m n v NONE other ∙ unknown)

-- ---- values of nodes

three_node_value-false : (nodes : List AigNode) (x : ℕ → Lbool) (n : ℕ)
    → kind_at nodes n ≡ Some False → three_node_value nodes x n ≡ FALSE
unfolding three_node_value
three_node_value-false nodes x n is = ap (three_value_of_tree x) (tree_of-false nodes n is)

three_node_value-leaf : (nodes : List AigNode) (x : ℕ → Lbool) (n : ℕ) → kind_at nodes n ≡ Some Leaf
    → three_node_value nodes x n ≡ x n
unfolding three_node_value
three_node_value-leaf nodes x n is = ap (three_value_of_tree x) (tree_of-leaf nodes n is)

-- a gate's value joins its operands' values
three_node_value-and : (nodes : List AigNode) → IsOrdered nodes → (x : ℕ → Lbool) (n : ℕ) (a b : AigEdge) → kind_at nodes n ≡ Some (And a b)
    → three_node_value nodes x n ≡ lbool_and (three_edge_value nodes x a) (three_edge_value nodes x b)
unfolding three_node_value
three_node_value-and nodes o x n a b is = ap (three_value_of_tree x) (tree_of-and nodes o n a b is)

-- the nodes below i are valued, and from i on all is as it was
pub record ValuedBelow (nodes : List AigNode) (old new : List Lbool) (i : ℕ) : Type 0 where
  pub below : (k : ℕ) → k < i
      → get_or new k FALSE ≡ three_node_value nodes (λ m. get_or old m NONE) k
  pub above : (k : ℕ) → i ≤ k → get_or new k NONE ≡ get_or old k NONE

-- the next node's value is written
ValuedBelow-write : (nodes : List AigNode) (old new : List Lbool) (i : ℕ) (v : Lbool) → ValuedBelow nodes old new i → i < length new → v ≡ three_node_value nodes (λ m. get_or old m NONE) i
    → ValuedBelow nodes old (set new i v) (i + 1)
ValuedBelow-write nodes old new i v f h e = record {
  below = below_more _ _ (λ k l. let ne : k ≢ i = omega arith in rw get_or-set_other (f.below k l)) (rw get_or-set_same e);
  above = λ k l. let ne : k ≢ i = omega arith in rw get_or-set_other (f.above k (omega arith));
}

pub ValuedBelow-false : (nodes : List AigNode) (old new : List Lbool) (i : ℕ)
    → ValuedBelow nodes old new i → i < length new → kind_at nodes i ≡ Some False
    → ValuedBelow nodes old (set new i FALSE) (i + 1)
ValuedBelow-false nodes old new i f h is = ValuedBelow-write nodes old new i FALSE f h (sym (three_node_value-false nodes (λ m. get_or old m NONE) i is))

-- what stands at a leaf is its value
pub ValuedBelow-leaf : (nodes : List AigNode) (old new : List Lbool) (i : ℕ)
    → ValuedBelow nodes old new i → i < length new → kind_at nodes i ≡ Some Leaf
    → ValuedBelow nodes old new (i + 1)
ValuedBelow-leaf nodes old new i f h is = record {
  below = below_more _ _ f.below (get_or_default new i FALSE NONE h ∙ f.above i (omega arith) ∙ sym (three_node_value-leaf nodes (λ m. get_or old m NONE) i is));
  above = λ k l. f.above k (omega arith);
}

pub ValuedBelow-and : (nodes : List AigNode) → IsOrdered nodes → (old new : List Lbool) (i : ℕ) (a b : AigEdge) → ValuedBelow nodes old new i → i < length new → kind_at nodes i ≡ Some (And a b)
    → ValuedBelow nodes old (set new i (lbool_and (value_by new a) (value_by new b))) (i + 1)
ValuedBelow-and nodes o old new i a b f h is =
    let x : ℕ → Lbool = λ m. get_or old m NONE in
    let first : value_by new a ≡ three_edge_value nodes x a = ap (lbool_not_if a.compl) (f.below a.node_id (o.first_before i a b is)) in
    let second : value_by new b ≡ three_edge_value nodes x b = ap (lbool_not_if b.compl) (f.below b.node_id (o.second_before i a b is)) in
    ValuedBelow-write nodes old new i (lbool_and (value_by new a) (value_by new b)) f h (ap₂ lbool_and first second ∙ sym (three_node_value-and nodes o x i a b is))

-- ---- values of a circuit

-- given values, written where all was unknown
pub given-read : (c : Circuit) → IsCircuit c → (inputs state : List Lbool) → length inputs ≡ length c.inputs
    → (n : ℕ) → get_or (with_given (with_given (replicate (length c.nodes) NONE) c.inputs inputs) (latch_leaves c.latchs) state) n NONE ≡ given_values c inputs state n
given-read c is inputs state h n =
    let all = replicate (length c.nodes) NONE in
    let leaves = AreLeaves-of_circuit c is in
    ap (λ values. get_or values n NONE) (with_given-append all c.inputs (latch_leaves c.latchs) inputs state h)
    ∙ with_given-for all (c.inputs ++ latch_leaves c.latchs) (inputs ++ state) leaves.distinct
    (λ k d l. subst (λ m. get_or (c.inputs ++ latch_leaves c.latchs) k d < m) (sym (length-replicate (length c.nodes) NONE)) (kind_at-within c.nodes _ Leaf (leaves.leaves k d l)))
    n (unknown (length c.nodes) n)
  where
    unknown : (count n : ℕ) → get_or (replicate count NONE) n NONE ≡ NONE
    unknown zero n = refl
    unknown (suc count) zero = refl
    unknown (suc count) (suc n) = unknown count n

-- values that are the nodes' one by one are the list of them
pub three_values-by_number : (c : Circuit) → AreNodes c.nodes → (x y : ℕ → Lbool) (values : List Lbool) → length values ≡ length c.nodes → ((n : ℕ) → y n ≡ x n)
    → ((n : ℕ) → n < length c.nodes → get_or values n FALSE ≡ three_node_value c.nodes y n) → values ≡ three_values c x
three_values-by_number c sound x y values count same each =
    let d : AigNode = record { node_id = 0; typ = False } in
    let value : AigNode → Lbool = λ node. three_node_value c.nodes x node.node_id in
    ext_get_or FALSE values (map value c.nodes) (count ∙ sym (length-map c.nodes value)) (λ i h.
    let there : i < length c.nodes = omega arith in
    let number = sound.numbered i (get_or c.nodes i d) (slice_get-get_or c.nodes i d there) in
    each i there ∙ ap (λ z. three_node_value c.nodes z i) (fun_ext same) ∙ ap (three_node_value c.nodes x) (sym number) ∙ sym (get_or-map value c.nodes i d FALSE there))

-- ---- the state that follows

-- read off the values of nodes, the next edges have the next state
pub next_state-read : (c : Circuit) → IsCircuit c → (x : ℕ → Lbool) (latchs : List AigLatch) → All (IsLatch c.nodes) latchs
    → map (λ (latch : AigLatch). value_by (three_values c x) latch.next) latchs ≡ map (λ (latch : AigLatch). three_edge_value c.nodes x latch.next) latchs
next_state-read c is x [] all = refl
next_state-read c is x (latch ∷ latchs) all =
    let valid : IsLatch c.nodes latch = all zero latch (omega arith) in
    ap₂ (λ v vs. v ∷ vs) (value_is c is x latch.next valid.next) (next_state-read c is x latchs (λ k d h. all (suc k) d (omega arith)))

-- ---- steps one after another

-- what is left of the steps leads to the end of all of them
pub record StepsTo (e : AigEdge) (steps : List (List Lbool)) (from : Simulation) (before : List Lbool) (now : Simulation) (answers : List Lbool) (left : List (List Lbool)) : Type 0 where
  pub moved : stepped_all now left ≡ stepped_all from steps
  pub answered : answers ++ values_in e now left ≡ before ++ values_in e from steps

-- what is left of a list is its next element and what is left then
pub drop_next : {X : Type 0} (xs : List X) (i : ℕ) (d : X) → i < length xs
    → drop i xs ≡ get_or xs i d ∷ drop (i + 1) xs
drop_next xs i d h = rw (add-one, drop-cons xs i d)

-- after one more step
pub StepsTo-next : {steps : List (List Lbool)} {from : Simulation} {before : List Lbool} (e : AigEdge) (now next : Simulation) (answers longer : List Lbool) (v : Lbool) (left : List (List Lbool)) (inputs : List Lbool) (rest : List (List Lbool))
    → left ≡ inputs ∷ rest → next ≡ stepped now inputs → v ≡ value_in next e → longer ≡ answers ++ v ∷ [] → StepsTo e steps from before now answers left → StepsTo e steps from before next longer rest
StepsTo-next e now next answers longer v left inputs rest split moves value pushed so_far = record {
  moved = ap (λ s. stepped_all s rest) moves ∙ sym (ap (stepped_all now) split) ∙ so_far.moved;
  answered =
      ap (λ (all : List Lbool). all ++ values_in e next rest) pushed
      ∙ append_snoc answers v (values_in e next rest)
      ∙ ap (λ (w : Lbool). answers ++ (w ∷ values_in e next rest)) value
      ∙ ap (λ (s : Simulation). answers ++ (value_in s e ∷ values_in e s rest)) moves
      ∙ sym (ap (λ (all : List (List Lbool)). answers ++ values_in e now all) split)
      ∙ so_far.answered;
}

-- after all of them
pub StepsTo-end : {X : Type 0} {e : AigEdge} {steps : List (List Lbool)} {from now : Simulation} {before answers : List Lbool} (i : ℕ) (inputs : List X) (list : X → List Lbool) → length inputs ≤ i
    → StepsTo e steps from before now answers (map list (drop i inputs)) → (now ≡ stepped_all from steps) × (answers ≡ before ++ values_in e from steps)
StepsTo-end {e = e} {now = now} {answers = answers} i inputs list h so_far =
    let none = ap (map list) (drop_all i inputs h) in (
      sym (ap (stepped_all now) none) ∙ so_far.moved,
      sym (append-nil answers) ∙ sym (ap (λ (left : List (List Lbool)). answers ++ values_in e now left) none) ∙ so_far.answered,
    )

-- the values of an earlier step don't matter
pub stepped_all-anew : (c : Circuit) (state values others : List Lbool) (steps : List (List Lbool)) → 0 < length steps → stepped_all (record { circuit = c; state = state; values = values }) steps ≡ stepped_all (record { circuit = c; state = state; values = others }) steps
stepped_all-anew c state values others [] h = absurd (omega arith)
stepped_all-anew c state values others (inputs ∷ steps) h = refl

pub values_in-anew : (e : AigEdge) (c : Circuit) (state values others : List Lbool) (steps : List (List Lbool)) → values_in e (record { circuit = c; state = state; values = values }) steps ≡ values_in e (record { circuit = c; state = state; values = others }) steps
values_in-anew e c state values others [] = refl
values_in-anew e c state values others (inputs ∷ steps) = refl

-- the same, read off values that are the nodes'
pub next_state-is : (c : Circuit) → IsCircuit c → (x : ℕ → Lbool) (values : List Lbool) → values ≡ three_values c x → (latchs : List AigLatch) → latchs ≡ c.latchs
    → map (λ (latch : AigLatch). value_by values latch.next) latchs ≡ next_state c x
next_state-is c is x values valued latchs same =
    ap₂ (λ (vs : List Lbool) (ls : List AigLatch). map (λ (latch : AigLatch). value_by vs latch.next) ls) valued same ∙ next_state-read c is x c.latchs is.latchs

-- the answers of steps that begin with other values
pub answers-anew : (e : AigEdge) (c : Circuit) (state values others : List Lbool) (s : Simulation) (steps : List (List Lbool)) (answers : List Lbool) → simulation_at c state others ≡ s
    → answers ≡ values_in e (simulation_at c state values) steps → answers ≡ values_in e s steps
answers-anew e c state values others s steps answers same are = are ∙ values_in-anew e c state values others steps ∙ ap (λ z. values_in e z steps) same

-- where steps lead that begin with other values
pub moved-anew : (c : Circuit) (state values others : List Lbool) (s now : Simulation) (steps : List (List Lbool)) → 0 < length steps → simulation_at c state others ≡ s
    → now ≡ stepped_all (simulation_at c state values) steps → now ≡ stepped_all s steps
moved-anew c state values others s now steps h same moved = moved ∙ stepped_all-anew c state values others steps h ∙ ap (λ z. stepped_all z steps) same
