-- A simulation, step by step.
use Rattle.std.proofs.Common.{◌≡◌, ℕ, zero, suc, ◌+◌, ◌<◌, List, [], ◌∷◌, ◌++◌, length, map, get_or, take, slice_get, Some, refl, sym, ap, ap₂, subst, ◌∙◌, arith}
use Rattle.std.specs.Prelude.{All, Vec}
use Rattle.std.specs.declared.alloc.Global.{Global}
use Rattle.aig_base.proofs.Words.{get_or-map, length-map, take_more}
use Rattle.aig_base.specs.declared.logic.three.Lbool.{Lbool}
use Rattle.aig_circuit.specs.declared.edge.AigEdge.{AigEdge}
use Rattle.aig_circuit.specs.declared.node.AigNode.{AigNode}
use Rattle.aig_circuit.specs.Circuit.{Circuit, IsInRange}
use Rattle.aig_ternary.specs.Ternary.{HasValue, Simulation, given_values, simulation_of, stepped, stepped_all, three_node_value, value_in, values_in}
use Rattle.aig_witness.specs.Witness.{rows_of}
use Rattle.aig_witness.specs.Shown.{AreTrueIn}

stepped_all-append : (s : Simulation) (xs ys : List (List Lbool)) → stepped_all s (xs ++ ys) ≡ stepped_all (stepped_all s xs) ys
stepped_all-append s [] ys = refl
stepped_all-append s (x ∷ xs) ys = stepped_all-append (stepped s x) xs ys

-- one step more
pub stepped_all-more : (s : Simulation) (rows : List (List Lbool)) (t : ℕ) → t < length rows → stepped_all s (take (t + 1) rows) ≡ stepped (stepped_all s (take t rows)) (get_or rows t [])
stepped_all-more s rows t h = ap (stepped_all s) (take_more rows t [] h) ∙ stepped_all-append s (take t rows) (get_or rows t [] ∷ [])

-- the circuit stays
pub stepped_all-circuit : (s : Simulation) (rows : List (List Lbool)) → (stepped_all s rows).circuit ≡ s.circuit
stepped_all-circuit s [] = refl
stepped_all-circuit s (row ∷ rows) = stepped_all-circuit (stepped s row) rows

-- after a step each edge has a value
pub stepped-values : (s : Simulation) (row : List Lbool) (edges : List AigEdge) → All (IsInRange s.circuit.nodes) edges → All (HasValue (stepped s row)) edges
stepped-values s row edges all i d h =
    let values : List Lbool = map (λ (node : AigNode). three_node_value s.circuit.nodes (given_values s.circuit row s.state) node.node_id) s.circuit.nodes in
    let long : length values ≡ length s.circuit.nodes = length-map s.circuit.nodes (λ (node : AigNode). three_node_value s.circuit.nodes (given_values s.circuit row s.state) node.node_id) in
    subst (λ n. (get_or edges i d).node_id < n) (sym long) (all i d h)

-- the same where the simulation is that of a circuit
pub values-there : (c : Circuit) (state : List Lbool) (rows : List (List Lbool)) (row : List Lbool) (now after : Simulation) (edges : List AigEdge) → All (IsInRange c.nodes) edges → now ≡ stepped_all (simulation_of c state) rows → after ≡ stepped now row
    → All (HasValue after) edges
values-there c state rows row now after edges all is moved =
    let same : now.circuit ≡ c = ap (λ (s : Simulation). s.circuit) is ∙ stepped_all-circuit (simulation_of c state) rows in
    subst (λ (s : Simulation). All (HasValue s) edges) (sym moved) (stepped-values now row edges (subst (λ (d : Circuit). All (IsInRange d.nodes) edges) (sym same) all))

-- the value of an edge at a step of several is that after it
pub values_at : (e : AigEdge) (s : Simulation) (rows : List (List Lbool)) (t : ℕ) → t < length rows → slice_get (values_in e s rows) t ≡ Some (value_in (stepped_all s (take (suc t) rows)) e)
values_at e s [] t h = absurd (omega arith)
values_at e s (row ∷ rows) zero h = refl
values_at e s (row ∷ rows) (suc t) h = values_at e (stepped s row) rows t (omega arith)

-- a row of the program's lists
pub row_at : (lists : List (Vec Lbool Global)) (t : ℕ) (d : Vec Lbool Global) → t < length lists → get_or (rows_of lists) t [] ≡ (get_or lists t d).items
row_at lists t d h = get_or-map (λ (list : Vec Lbool Global). list.items) lists t d [] h

-- ---- for a loop over the program's lists

-- the row of an item
pub item_row : (lists xs : List (Vec Lbool Global)) (t : ℕ) (item : Vec Lbool Global) → xs ≡ lists → t < length xs → item ≡ get_or xs t item → (t < length (rows_of lists)) × (get_or (rows_of lists) t [] ≡ item.items)
item_row lists xs t item same h is =
    let there : t < length lists = subst (λ (ys : List (Vec Lbool Global)). t < length ys) same h in
    let long : length (rows_of lists) ≡ length lists = length-map lists (λ (list : Vec Lbool Global). list.items) in
    (omega arith, row_at lists t item there ∙ ap (λ (list : Vec Lbool Global). list.items) (sym (is ∙ ap (λ (ys : List (Vec Lbool Global)). get_or ys t item) same)))

-- a step more of a simulation
pub simulated-more : (s now after : Simulation) (rows : List (List Lbool)) (t : ℕ) (row : List Lbool) → t < length rows → get_or rows t [] ≡ row → now ≡ stepped_all s (take t rows) → after ≡ stepped now row → after ≡ stepped_all s (take (t + 1) rows)
simulated-more s now after rows t row h is so_far moved = moved ∙ ap₂ stepped so_far (sym is) ∙ sym (stepped_all-more s rows t h)

pub true_turned : (a b : Simulation) (xs ys : List AigEdge) → a ≡ b → xs ≡ ys → AreTrueIn a xs → AreTrueIn b ys
true_turned a b xs ys same are h = subst (λ (s : Simulation). AreTrueIn s ys) same (subst (λ (es : List AigEdge). AreTrueIn a es) are h)

-- after some steps each edge has a value
pub values-all : (s : Simulation) (rows : List (List Lbool)) → 0 < length rows → length (stepped_all s rows).values ≡ length s.circuit.nodes
values-all s [] h = absurd (omega arith)
values-all s (row ∷ []) h = length-map s.circuit.nodes (λ (node : AigNode). three_node_value s.circuit.nodes (given_values s.circuit row s.state) node.node_id)
values-all s (row ∷ next ∷ more) h = values-all (stepped s row) (next ∷ more) (omega arith)
