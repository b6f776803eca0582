-- The simulation of a run, step by step, and its first bad state.
use Rattle.aig_answers.proofs.Words.{◌≡◌, ℕ, zero, suc, ◌+◌, ◌-◌, ◌<◌, ◌≤◌, ◌⊎◌, leb, true, false, None, List, [], ◌∷◌, ◌++◌, length, get_or, take, inl, inr, refl, sym, ap, ap₂, subst, ◌∙◌, arith, length-map, length-take-le, All-take, Vec, Global, leb_tells, Lbool, TRUE, AigEdge, AigNode, Circuit, HasValue, Simulation, given_values, simulation_of, stepped, stepped_all, value_in, AreTrueIn, named_bad, Witness, rows_of, Begins, HasNoTrueIn, IsConstrained, IsReached, IsTrueIn, WitnessWithin, after}
use Rattle.aig_base.proofs.Words.{get_or-map, take_more}
use Rattle.std.specs.Prelude.{All}
use Rattle.aig_circuit.specs.Circuit.{IsInRange}
use Rattle.aig_ternary.specs.Ternary.{three_node_value}

stepped_all-append : (s : Simulation) (xs ys : List (List Lbool))
    → stepped_all s (xs ++ ys) ≡ stepped_all (stepped_all s xs) ys
stepped_all-append s [] ys = refl
stepped_all-append s (x ∷ xs) ys = stepped_all-append (stepped s x) xs ys

stepped_all-circuit : (s : Simulation) (rows : List (List Lbool)) → (stepped_all s rows).circuit ≡
    s.circuit
stepped_all-circuit s [] = refl
stepped_all-circuit s (row ∷ rows) = stepped_all-circuit (stepped s row) rows

module _ (c : Circuit) (state : List Lbool) (rows : List (List Lbool)) (now : Simulation) (t : ℕ)
    (so_far : now ≡ stepped_all (simulation_of c state) (take t rows)) where
  -- the circuit stays
  pub same_circuit : now.circuit ≡ c
  same_circuit = ap (λ (s : Simulation). s.circuit) so_far ∙ stepped_all-circuit (simulation_of c
      state) (take t rows)

  module _ (row : List Lbool) (later : Simulation) (moved : later ≡ stepped now row) where
    -- after a step each edge has a value
    pub values_there : (edges : List AigEdge) → All (IsInRange c.nodes) edges → All (HasValue
        later) edges
    values_there edges all i d h =
        let values = length-map now.circuit.nodes (λ (node : AigNode). three_node_value
        now.circuit.nodes (given_values now.circuit row now.state) node.node_id) in
        let long : length later.values ≡ length c.nodes = ap (λ (s : Simulation). length s.values)
        moved ∙ values ∙ ap (λ (d : Circuit). length d.nodes) same_circuit in
        omega (arith, all i d h, long)

    pub step_more : t < length rows → get_or rows t [] ≡ row → later ≡ after c state rows t
    step_more low is =
        moved ∙ ap₂ stepped so_far (sym is)
        ∙ sym (ap (stepped_all (simulation_of c state)) (take_more rows t [] low) ∙
        stepped_all-append (simulation_of c state) (take t rows) (get_or rows t [] ∷ []))

-- the row of an item
pub row_at : (lists : List (Vec Lbool Global)) (t : ℕ) (item d : Vec Lbool Global) → t < length
    lists
    → item ≡ get_or lists t d → (t < length (rows_of lists)) × (get_or (rows_of lists) t [] ≡
    item.items)
row_at lists t item d low is =
    let long : length (rows_of lists) ≡ length lists = length-map lists (λ (list : Vec Lbool
    Global). list.items) in (
      omega (arith, long, low),
      get_or-map (λ (list : Vec Lbool Global). list.items) lists t d []
          low ∙ ap (λ (list : Vec Lbool Global). list.items) (sym is),
    )

pub true_turned : (a b : Simulation) (xs ys : List AigEdge) → a ≡ b → xs ≡ ys → AreTrueIn a xs
    → AreTrueIn b ys
true_turned a b xs ys same are h = subst (λ (s : Simulation). AreTrueIn s ys) same (subst (λ (es :
    List AigEdge). AreTrueIn a es) are h)

-- ---- the first bad state

-- where a constraint isn't known to hold, none is reached later
pub constraint_fails : (c : Circuit) (state : List Lbool) (rows : List (List Lbool)) (step : ℕ)
    → ((s : ℕ) → s < step → HasNoTrueIn (after c state rows s) c.properties.bads)
    → ¬ AreTrueIn (after c state rows step) c.properties.constraints → IsReached c state rows None
constraint_fails c state rows step none fails t low constrained = by (leb_tells step t)
  where
    by : ((leb step t ≡ true) × (step ≤ t)) ⊎ ((leb step t ≡ false) × (t < step))
        → HasNoTrueIn (after c state rows t) c.properties.bads
    by (inl late) = absurd (fails (constrained step late.1))
    by (inr early) = none t early.1

take_take : {A : Type 0} (i j : ℕ) (xs : List A) → i ≤ j → take i (take j xs) ≡ take i xs
take_take zero j xs h = refl
take_take (suc i) zero xs h = absurd (omega (arith, h))
take_take (suc i) (suc j) [] h = refl
take_take (suc i) (suc j) (x ∷ xs) h = ap (λ ys. x ∷ ys) (take_take i j xs (omega (arith, h)))

module _ (c : Circuit) (k : ℕ) (w : Witness) (begun : Begins c k w) (t bad : ℕ) (low : t < length
    w.steps)
    (constrained : IsConstrained c w.state w.steps t) (is : IsTrueIn (after c w.state w.steps t)
    c.properties.bads bad) where
  abbrev rows : List (List Lbool)
  rows = take (t + 1) w.steps

  -- the run up to a bad state is a witness
  pub known_of_reached : WitnessWithin c k (record {
    bad = bad;
    state = w.state;
    steps = take (t +
        1) w.steps;
  })
  known_of_reached =
      let long : length rows ≡ t + 1 = length-take-le (t + 1) w.steps (omega (arith, low)) in
      let last : t ≡ length rows - 1 = omega (arith, long) in
      let made : Witness = record { bad = bad; state = w.state; steps = rows } in
      let inputs = All-take (λ row. length row ≡ length c.inputs) (t + 1) w.steps begun.inputs in (
        record {
          latches = begun.latches;
          some = omega (arith, long);
          named = is.0;
          start = begun.start;
          steps = record {
            inputs = λ s lt. inputs s [] lt;
            constraints = λ s lt. subst (λ rs. AreTrueIn (stepped_all (simulation_of c w.state) rs)
                c.properties.constraints) (sym (take_take (s + 1) (t + 1) w.steps (omega (
                  arith,
                  long,
                  lt,
                )))) (constrained s (omega (arith, long, lt)));
          };
          bad = subst (λ n. value_in (stepped_all (simulation_of c w.state) (take (n + 1) rows))
              (named_bad c made) ≡ TRUE) last
              (subst (λ rs. value_in (stepped_all (simulation_of c w.state) rs) (named_bad c made)
              ≡ TRUE) (sym (take_take (t + 1) (t + 1) w.steps (omega arith))) is.1);
        },
        omega (arith, long, low, begun.count),
      )
