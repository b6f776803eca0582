-- Simulations that are moved step by step.
use Rattle.aig_base.proofs.Words.{◌≡◌, ℕ, ◌+◌, ◌<◌, List, [], ◌∷◌, ◌++◌, length, take, map, get_or, zero, suc, refl, sym, ap, ap₂, ◌∙◌, arith, All, append_assoc, map-append, slice_get-get_or, take_more}
use Rattle.std.proofs.lemmas.List.{get_or-map}
use Rattle.aig_base.specs.declared.logic.three.Lbool.{Lbool}
use Rattle.aig_base.specs.declared.logic.three.Lbool.TheVariants.{FALSE}
use Rattle.aig_base.specs.Three.{lbool_not_if}
use Rattle.aig_circuit.proofs.Words.{Circuit, IsCircuit, IsLatch}
use Rattle.aig_circuit.specs.declared.edge.AigEdge.{AigEdge}
use Rattle.aig_circuit.specs.declared.node.AigLatch.{AigLatch}
use Rattle.aig_circuit.specs.declared.node.AigNode.{AigNode}
use Rattle.aig_circuit.specs.declared.node.AigNodeType.TheVariants.{False}
use Rattle.aig_ternary.specs.Step.{value_by}
use Rattle.aig_ternary.specs.Ternary.{Simulation, next_state, stepped, stepped_all, three_edge_value, three_node_value, three_values, value_in, values_in}

-- ---- the state that follows

-- read off the values of nodes, the next edges have the next state
pub follows : (c : Circuit) → IsCircuit c → (x : ℕ → Lbool) (latchs : List AigLatch)
    → All (IsLatch c.nodes) latchs
    → map (λ (l : AigLatch). value_by (three_values c x) l.next) latchs
    ≡ map (λ (l : AigLatch). three_edge_value c.nodes x l.next) latchs
follows c is x [] all = refl
follows c is x (l ∷ latchs) all =
    let value : AigNode → Lbool = λ node. three_node_value c.nodes x node.node_id in
    let d : AigNode = record { node_id = 0; typ = False } in
    let n = l.next.node_id in
    let there : n < length c.nodes = (all zero l (omega arith)).next in
    let number = is.nodes.numbered n (get_or c.nodes n d) (slice_get-get_or c.nodes n d there) in
    let here = get_or-map value c.nodes n d FALSE there ∙ ap (three_node_value c.nodes x) number in
    let others = follows c is x latchs (λ k e h. all (suc k) e (omega arith)) in
    ap₂ (λ v vs. v ∷ vs) (ap (lbool_not_if l.next.compl) here) others

-- ---- one step more

moved : (s : Simulation) (rows : List (List Lbool)) (row : List Lbool)
    → stepped_all s (rows ++ row ∷ []) ≡ stepped (stepped_all s rows) row
moved s [] row = refl
moved s (first ∷ rows) row = moved (stepped s first) rows row

answered : (e : AigEdge) (s : Simulation) (rows : List (List Lbool)) (row : List Lbool)
    → values_in e s (rows ++ row ∷ [])
    ≡ values_in e s rows ++ value_in (stepped (stepped_all s rows) row) e ∷ []
answered e s [] row = refl
answered e s (first ∷ rows) row =
    ap (λ vs. value_in (stepped s first) e ∷ vs) (answered e (stepped s first) rows row)

-- a simulation and the values of an edge are those after the steps with these inputs
pub record AreAfter (e : AigEdge) (first : Simulation) (before : List Lbool)
    (rows : List (List Lbool)) (now : Simulation) (answers : List Lbool) : Type 0 where
  pub moved : now ≡ stepped_all first rows
  pub answered : answers ≡ before ++ values_in e first rows

-- and after the next
pub step_more : {X : Type 0} (list : X → List Lbool) (all : List X) (i : ℕ) (d : X) → i < length all
    → (e : AigEdge) (first now next : Simulation) (before answers longer : List Lbool) (v : Lbool)
    → AreAfter e first before (map list (take i all)) now answers
    → next ≡ stepped now (list (get_or all i d)) → v ≡ value_in next e → longer ≡ answers ++ v ∷ []
    → AreAfter e first before (map list (take (i + 1) all)) next longer
step_more list all i d lt e first now next before answers longer v so_far moves value pushed =
    let rows = map list (take i all) in
    let row = list (get_or all i d) in
    let more = map-append list (take i all) (get_or all i d ∷ []) in
    let split = ap (map list) (take_more all i d lt) ∙ more in
    let last = stepped (stepped_all first rows) row in
    let is = moves ∙ ap (λ s. stepped s row) so_far.moved in
    record {
      moved = is ∙ sym (moved first rows row) ∙ sym (ap (stepped_all first) split);
      answered = pushed
          ∙ ap₂ (λ vs w. vs ++ w ∷ []) so_far.answered (value ∙ ap (λ s. value_in s e) is)
          ∙ append_assoc before (values_in e first rows) (value_in last e ∷ [])
          ∙ ap (λ vs. before ++ vs) (sym (ap (values_in e first) split ∙ answered e first rows row));
    }
