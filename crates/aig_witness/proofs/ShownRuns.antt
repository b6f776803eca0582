-- From known values to the runs of a file's machine.
use Rattle.std.proofs.Common.{◌≡◌, ℕ, suc, ◌+◌, ◌-◌, ◌/◌, ◌<◌, ◌≤◌, Bool, true, false, List, [], ◌++◌, length, map, get_or, take, slice_get, Some, IsTrue, refl, sym, ap, subst, ◌∙◌, arith}
use Rattle.aig_base.proofs.Words.{AllByRecursion, AllZip, recursion_from_All, list_any_at, get_or_from_slice_get, slice_get-get_or, slice_get_within}
use Rattle.std.proofs.lemmas.List.{get_or-map, length-append, length-map}
use Rattle.aig_base.specs.declared.logic.three.Lbool.{Lbool}
use Rattle.aig_base.specs.declared.logic.three.Lbool.TheVariants.{FALSE, TRUE, NONE}
use Rattle.aig_base.specs.Three.{Agrees}
use Rattle.aig_circuit.specs.declared.edge.AigEdge.{AigEdge}
use Rattle.aig_circuit.specs.declared.node.AigLatch.{AigLatch}
use Rattle.aig_circuit.proofs.Words.{edge_to, edge_value, Circuit, IsCircuit, IsInRange, latch_leaves}
use Rattle.aig_circuit.proofs.Circuits.{AreLeaves-of_circuit}
use Rattle.aig_format.proofs.Words.{File, LatchLine, Fits, value_of_literal, circuit_of, edge_of, latch_of, node_of_variable, IsKnown}
use Rattle.aig_format.specs.Machine as machine
use Rattle.aig_format.proofs.Circuits.{IsCircuit-of_file, used_by_section}
use Rattle.aig_format.proofs.Numbers.{used_known, variable_at-number}
use Rattle.aig_format_laws.specs.Nodes.{HasNodeValues}
use Rattle.aig_format_laws.proofs.Joining.{forth_run, forth_values, inputs_known, latches_known, leaves_of, literal_is}
use Rattle.aig_format_laws.proofs.MachineRuns.{given_run}
use Rattle.aig_format_laws.proofs.Starts.{starts_agree}
use Rattle.aig_circuit.proofs.Lists.{All-from_map}
use Rattle.aig_runs.specs.Queries.{IsWitness}
use Rattle.aig_ternary.specs.Ternary.{IsFilling, KnownValuesHold, given_values, simulation_of, stepped_all, value_in, values_in}
use Rattle.aig_witness.specs.Witness.{Witness}
use Rattle.aig_witness.specs.Machine.{HasGiven, ShowsBad}
use Rattle.aig_witness.specs.Shown.{AreStarts, HoldsSteps, IsKnownWitness, named_bad, simulated}
use Rattle.aig_witness.proofs.Simulated.{values_at}
use Rattle.aig_witness.proofs.Started.{starts_hold}
use Rattle.aig_witness.proofs.Zips.{value_for-zip, zip_made, zip_split, zip_unmade, zip_with}

-- known values hold on every filling
abbrev pub KnownHold : Type 0
KnownHold = (c : Circuit) (e : AigEdge) (state : List Lbool) (steps : List (List Lbool)) → IsCircuit c → IsInRange c.nodes e → KnownValuesHold c e state steps (values_in e (simulation_of c state) steps)

-- the value that a known one says, and false where it is unknown
abbrev said : Lbool → Bool
said TRUE = true
said FALSE = false
said NONE = false

agrees_said : (known : Lbool) → Agrees known (said known)
agrees_said TRUE = refl
agrees_said FALSE = refl
agrees_said NONE = tt

module _ (f : File) (limit : ℕ) (w : Witness) (fits : Fits f limit) where
  abbrev last : ℕ
  last = length w.steps - 1

  -- the leaf values of a run with the given values
  module _ (run : ℕ → ℕ → Bool) (is_run : machine.IsMachineRun f last run) (given : HasGiven f w run) where
    abbrev x : ℕ → ℕ → Bool
    x = leaves_of f run

    pub leaf_is : (t e : ℕ) → IsKnown f e → x t (node_of_variable f (e / 2)) ≡ run t (e / 2)
    leaf_is t e known = ap (run t) (variable_at-number f limit fits (e / 2) known)

    pub first_agrees : AllZip (λ n known. Agrees known (x 0 n)) (latch_leaves (circuit_of f).latchs) w.state
    first_agrees =
        zip_made (λ (latch : AigLatch). latch.input) (λ n known. Agrees known (x 0 n)) (map (latch_of f) f.latches) w.state
        (zip_made (latch_of f) (λ (latch : AigLatch) known. Agrees known (x 0 latch.input)) f.latches w.state
        (zip_with (λ (l : LatchLine). IsKnown f l.literal) (λ l known. Agrees known (run 0 (l.literal / 2))) (λ l known. Agrees known (x 0 (node_of_variable f (l.literal / 2)))) f.latches w.state
        (λ l known is agrees. subst (Agrees known) (sym (leaf_is 0 l.literal is)) agrees) (latches_known f) given.state))

    pub is_filling : IsFilling (circuit_of f) w.state w.steps x
    is_filling = record {
      run = forth_run f limit last run fits is_run;
      first = first_agrees;
      each = λ t line there.
          zip_made (λ e. node_of_variable f (e / 2)) (λ n known. Agrees known (x t n)) f.inputs line
          (zip_with (IsKnown f) (λ e known. Agrees known (run t (e / 2))) (λ e known. Agrees known (x t (node_of_variable f (e / 2)))) f.inputs line
          (λ e known is agrees. subst (Agrees known) (sym (leaf_is t e is)) agrees) (inputs_known f) (given.inputs t line there));
    }

  -- ---- a run with the given values

  module _ (latches : length w.state ≡ length (circuit_of f).latchs) (inputs : (t : ℕ) → t < length w.steps → length (get_or w.steps t []) ≡ length (circuit_of f).inputs) where
    abbrev chosen : ℕ → ℕ → Bool
    chosen t v = said (given_values (circuit_of f) (get_or w.steps t []) w.state (node_of_variable f v))

    placed : (t : ℕ) → t < length w.steps → AllZip (λ n v. given_values (circuit_of f) (get_or w.steps t []) w.state n ≡ v) (circuit_of f).inputs (get_or w.steps t [])
        × AllZip (λ n v. given_values (circuit_of f) (get_or w.steps t []) w.state n ≡ v) (latch_leaves (circuit_of f).latchs) w.state
    placed t h =
        let c = circuit_of f in
        let row = get_or w.steps t [] in
        let leaves = AreLeaves-of_circuit c (IsCircuit-of_file f limit fits) in
        let long : length (row ++ w.state) ≡ length (c.inputs ++ latch_leaves c.latchs) =
        simp (length-append, length-map) (omega (arith, inputs t h, latches, length-map f.latches (latch_of f), length-map f.inputs (λ e. node_of_variable f (e / 2)))) in
        zip_split (λ n v. given_values c row w.state n ≡ v) c.inputs (latch_leaves c.latchs) row w.state (inputs t h) (value_for-zip (c.inputs ++ latch_leaves c.latchs) (row ++ w.state) leaves.distinct long)

    has_given : (run : ℕ → ℕ → Bool) → 0 < length w.steps
        → ((t : ℕ) → t ≤ last → AllByRecursion (λ e. chosen t (e / 2) ≡ run t (e / 2)) f.inputs) → AllByRecursion (λ (l : LatchLine). chosen 0 (l.literal / 2) ≡ run 0 (l.literal / 2)) f.latches → HasGiven f w run
    has_given run some same_inputs same_latches = record {
      state =
          zip_with (λ (l : LatchLine). chosen 0 (l.literal / 2) ≡ run 0 (l.literal / 2)) (λ l v. given_values (circuit_of f) (get_or w.steps 0 []) w.state (node_of_variable f (l.literal / 2)) ≡ v) (λ l known. Agrees known (run 0 (l.literal / 2))) f.latches w.state
          (λ l known same is. subst (Agrees known) (ap said (sym is) ∙ same) (agrees_said known)) same_latches
          (zip_unmade (latch_of f) (λ (latch : AigLatch) v. given_values (circuit_of f) (get_or w.steps 0 []) w.state latch.input ≡ v) f.latches w.state
          (zip_unmade (λ (latch : AigLatch). latch.input) (λ n v. given_values (circuit_of f) (get_or w.steps 0 []) w.state n ≡ v) (map (latch_of f) f.latches) w.state (placed 0 some).1));
      inputs = λ t line there.
          let within : t < length w.steps = slice_get_within w.steps t line there in
          let row = get_or w.steps t [] in
          let is_row : row ≡ line = get_or_from_slice_get w.steps t line [] there in
          subst (λ values. AllZip (λ e known. Agrees known (run t (e / 2))) f.inputs values) is_row
          (zip_with (λ e. chosen t (e / 2) ≡ run t (e / 2)) (λ e v. given_values (circuit_of f) row w.state (node_of_variable f (e / 2)) ≡ v) (λ e known. Agrees known (run t (e / 2))) f.inputs row
          (λ e known same is. subst (Agrees known) (ap said (sym is) ∙ same) (agrees_said known)) (same_inputs t (omega arith))
          (zip_unmade (λ e. node_of_variable f (e / 2)) (λ n v. given_values (circuit_of f) row w.state n ≡ v) f.inputs row (placed t within).0));
    }

    pub given_is_there : 0 < length w.steps → (run : ℕ → ℕ → Bool) × machine.IsMachineRun f last run × HasGiven f w run
    given_is_there some =
        let r = given_run f limit last chosen fits in
        (r.0, r.1, has_given r.0 some r.2.inputs r.2.latches)

  -- ---- runs on which constraints are known to hold

  is_circuit : IsCircuit (circuit_of f)
  is_circuit = IsCircuit-of_file f limit fits

  module _ (hold : KnownHold) (some : 0 < length w.steps) (run : ℕ → ℕ → Bool) (is_run : machine.IsMachineRun f last run) (given : HasGiven f w run) where
    values : HasNodeValues f last (leaves_of f run) run
    values = forth_values f limit last run fits is_run

    -- what is known of an edge is its value
    pub edge_agrees : (t : ℕ) (e : AigEdge) → t < length w.steps → IsInRange (circuit_of f).nodes e → Agrees (value_in (simulated (circuit_of f) w t) e) (edge_value (circuit_of f).nodes (leaves_of f run t) e)
    edge_agrees t e h there =
        let next : t + 1 ≡ suc t = omega arith in
        let found : slice_get (values_in e (simulation_of (circuit_of f) w.state) w.steps) t ≡ Some (value_in (simulated (circuit_of f) w t) e) =
        values_at e (simulation_of (circuit_of f) w.state) w.steps t h ∙ ap (λ n. Some (value_in (stepped_all (simulation_of (circuit_of f) w.state) (take n w.steps)) e)) (sym next) in
        hold (circuit_of f) e w.state w.steps is_circuit there (leaves_of f run) (is_filling run is_run given) t (value_in (simulated (circuit_of f) w t) e) found

    -- an edge that is known to be true is
    pub edge_holds : (t : ℕ) (e : AigEdge) → t < length w.steps → IsInRange (circuit_of f).nodes e
        → value_in (simulated (circuit_of f) w t) e ≡ TRUE
        → IsTrue (edge_value (circuit_of f).nodes (leaves_of f run t) e)
    edge_holds t e h there true_in = subst (λ v. Agrees v (edge_value (circuit_of f).nodes (leaves_of f run t) e)) true_in (edge_agrees t e h there)

    -- and so is a literal whose edge is
    pub holds : (t e : ℕ) → t < length w.steps → IsKnown f e
        → IsInRange (circuit_of f).nodes (edge_of f e)
        → value_in (simulated (circuit_of f) w t) (edge_of f e) ≡ TRUE
        → IsTrue (value_of_literal (run t) e)
    holds t e h is there true_in =
        let low : t ≤ last = omega arith in
        sym (literal_is f last (leaves_of f run) run values t e low is) ∙ edge_holds t (edge_of f e) h there true_in

    pub is_initial : AreStarts (circuit_of f).latchs w.state → machine.IsMachineInitial f run
    is_initial start = (starts_agree f limit last (leaves_of f run) run fits values).1 (starts_hold (circuit_of f) w.state is_circuit start (leaves_of f run 0) (first_agrees run is_run given))

    pub constraints_hold : HoldsSteps (circuit_of f) w → (t : ℕ) → t ≤ last
        → AllByRecursion (λ e. IsTrue (value_of_literal (run t) e)) f.properties.constraints
    constraints_hold steps t low =
        let used = used_by_section (IsKnown f) f (used_known f limit fits) in
        recursion_from_All (λ e. IsTrue (value_of_literal (run t) e)) f.properties.constraints (λ i d h.
        let within : t < length w.steps = omega arith in
        holds t (get_or f.properties.constraints i d) within (used.properties.constraints i d h)
        (All-from_map (edge_of f) (IsInRange (circuit_of f).nodes) f.properties.constraints is_circuit.properties.constraints i d h)
        (All-from_map (edge_of f) (λ e. value_in (simulated (circuit_of f) w t) e ≡ TRUE) f.properties.constraints (steps.constraints t within) i d h))

  -- ---- known witnesses

  module _ (hold : KnownHold) (known : IsKnownWitness (circuit_of f) w) where
    bads_long : w.bad < length f.properties.bads
    bads_long = omega (arith, known.named, length-map f.properties.bads (edge_of f))

    abbrev named : ℕ
    named = get_or f.properties.bads w.bad 0

    named_is : named_bad (circuit_of f) w ≡ edge_of f named
    named_is = get_or-map (edge_of f) f.properties.bads w.bad 0 (edge_to 0 false) bads_long

    is_witness : (run : ℕ → ℕ → Bool) (is_run : machine.IsMachineRun f last run) (given : HasGiven f w run) → IsWitness f last run × IsTrue (value_of_literal (run last) named)
    is_witness run is_run given =
        let some = known.some in
        let end : last < length w.steps = omega arith in
        let used = used_by_section (IsKnown f) f (used_known f limit fits) in
        let bad : IsTrue (value_of_literal (run last) named) =
        holds hold some run is_run given last named end (used.properties.bads w.bad 0 bads_long) (All-from_map (edge_of f) (IsInRange (circuit_of f).nodes) f.properties.bads is_circuit.properties.bads w.bad 0 bads_long)
        (ap (value_in (simulated (circuit_of f) w last)) (sym named_is) ∙ known.bad) in (
          record {
            is_run = is_run;
            start = is_initial hold some run is_run given known.start;
            constraints = constraints_hold hold some run is_run given known.steps;
            bad = list_any_at (value_of_literal (run last)) f.properties.bads w.bad 0 bads_long bad;
          },
          bad,
        )

    pub shows_bad : ShowsBad f w
    shows_bad = record {
      some = known.some;
      there = given_is_there known.latches known.steps.inputs known.some;
      named = (named, slice_get-get_or f.properties.bads w.bad 0 bads_long);
      each = is_witness;
    }
